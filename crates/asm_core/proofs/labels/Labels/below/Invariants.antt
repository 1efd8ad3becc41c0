use Rattle.std.proofs.Common.{◌≡◌}
use Rattle.asm_core.specs.Labels.{label_below}
use Rattle.asm_core.proofs.Below.{last_below}
use Rattle.asm_core.proofs.labels.Labels.below.Given as goal

-- no address from here on up has a label
abbrev pub invariant-loop-below : goal.invariant-loop-below
invariant-loop-below l = record { none : label_below l.self l.address ≡ last_below l.self l.below }
