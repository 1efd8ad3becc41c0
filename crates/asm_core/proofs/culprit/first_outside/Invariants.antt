use Rattle.std.proofs.Common.{◌≡◌, drop}
use Rattle.asm_lex.specs.Names.{value_in}
use Rattle.asm_core.specs.Culprits.{first_outside}
use Rattle.asm_core.proofs.culprit.first_outside.Given as goal

-- the operand is the first of those that are left
abbrev pub invariant-loop-span : goal.invariant-loop-span
invariant-loop-span l =
    first_outside l.isa (value_in l.names) l.at l.most l.line (drop l.span-index l.spans) ≡ first_outside l.isa (value_in l.names) l.at l.most l.line l.spans
