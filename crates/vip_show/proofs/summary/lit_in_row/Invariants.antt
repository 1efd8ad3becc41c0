use Rattle.std.proofs.Common.{◌≡◌, ◌≤◌, length}
use Rattle.std.specs.Prelude.{filter}
use Rattle.std.specs.List.{range_with_len}
use Rattle.vip_text.specs.Screens.{pixels_of}
use Rattle.vip_show.proofs.summary.lit_in_row.Given as goal

-- those of the first pixels
abbrev pub invariant-loop-x : goal.invariant-loop-x
invariant-loop-x l = (l.lit ≡ length (filter (λ x. pixels_of l.rows x l.y) (range_with_len 0 l.x))) × (l.lit ≤ l.x)
