use Rattle.std.proofs.Common.{◌≡◌, drop}
use Rattle.asm_lex.specs.Names.{value_in}
use Rattle.asm_lex.specs.Culprits.{is_sought, first_term}
use Rattle.asm_lex.proofs.culprit.first_term.Given as goal

-- the term is the first of the operands that are left
abbrev pub invariant-loop-span : goal.invariant-loop-span
invariant-loop-span l = first_term (is_sought l.isa (value_in l.names) l.sought) l.line (drop l.span-index l.spans) ≡ first_term (is_sought l.isa (value_in l.names) l.sought) l.line l.spans
