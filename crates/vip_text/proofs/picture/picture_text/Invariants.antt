use Rattle.std.proofs.Common.{◌≡◌, ◌+◌, ◌*◌, length, take}
use Rattle.vip_text.specs.Screens.{picture_file}
use Rattle.vip_text.proofs.picture.picture_text.Given as goal

-- the header and the first lines are there
abbrev pub invariant-loop-line : goal.invariant-loop-line
invariant-loop-line l =
    (l.into.items ≡ picture_file (take l.line-index l.line-items)) × (length l.into.items ≡ 10 + 8 * l.line-index)
