use Rattle.std.proofs.Common.{◌≡◌, drop}
use Rattle.std.specs.Prelude.{map}
use Rattle.std.specs.List.{list_any}
use Rattle.asm_lex.specs.Expressions.{has_large_number}
use Rattle.asm_lex.specs.Spans.{text_at}
use Rattle.asm_core.proofs.values.has_large_number_in.Given as goal

-- a large number stands in an operand exactly where one stands in those that are left
abbrev pub invariant-loop-operand : goal.invariant-loop-operand
invariant-loop-operand l =
    list_any (has_large_number l.isa) (map (text_at l.line) (drop l.operand-index l.operands))
    ≡ list_any (has_large_number l.isa) (map (text_at l.line) l.operands)
