use Rattle.std.proofs.Common.{◌≡◌, ◌*◌, length}
use Rattle.vip_text.specs.Screens.{pixels_of, screen_lines}
use Rattle.vip_text.proofs.screen.screen_text.Given as goal

-- the first rows are there
abbrev pub invariant-loop-y : goal.invariant-loop-y
invariant-loop-y l =
    (l.into.items ≡ screen_lines (pixels_of l.rows) l.y) × (length l.into.items ≡ 65 * l.y)
