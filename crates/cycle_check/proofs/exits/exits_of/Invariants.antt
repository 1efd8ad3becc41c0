use Rattle.std.proofs.Common.{◌≡◌, take}
use Rattle.std.specs.Prelude.{flat_map}
use Rattle.cycle_check.specs.Exits.{exits_at}
use Rattle.cycle_check.proofs.exits.exits_of.Given as goal

abbrev pub invariant-loop-line : goal.invariant-loop-line
invariant-loop-line l = l.found.items ≡ flat_map (λ line. exits_at l.rom l.bound l.lines line) (take l.line-index l.lines)
