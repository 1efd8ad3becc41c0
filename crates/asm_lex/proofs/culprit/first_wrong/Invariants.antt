use Rattle.std.proofs.Common.{◌≡◌, ◌+◌, ◌<◌, ℕ, take, true}
use Rattle.std.specs.Prelude.{map}
use Rattle.asm_lex.specs.Names.{value_in}
use Rattle.asm_lex.specs.Spans.{text_at}
use Rattle.asm_lex.specs.Culprits.{begin_operands}
use Rattle.asm_lex.proofs.culprit.first_wrong.Given as goal

-- each operand so far fits
abbrev pub invariant-loop-k : goal.invariant-loop-k
invariant-loop-k l =
    (i : ℕ) → i < l.k → begin_operands l.isa (value_in l.names) l.entry (take (i + 1) (map (text_at l.line) l.operands)) ≡ true
