use Rattle.std.proofs.Common.{◌≡◌, ◌≤◌, ◌*◌}
use Rattle.std.specs.List.{range_with_len}
use Rattle.vip_text.specs.Screens.{pixels_of}
use Rattle.vip_show.specs.Output.{lit_in_rows}
use Rattle.vip_show.proofs.summary.lit_pixels.Given as goal

-- those of the first rows
abbrev pub invariant-loop-y : goal.invariant-loop-y
invariant-loop-y l = (l.lit ≡ lit_in_rows (pixels_of l.rows) (range_with_len 0 l.y)) × (l.lit ≤ 64 * l.y)
