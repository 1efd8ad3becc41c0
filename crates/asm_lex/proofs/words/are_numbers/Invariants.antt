use Rattle.std.proofs.Common.{◌≡◌, drop}
use Rattle.std.specs.Prelude.{map}
use Rattle.std.specs.List.{list_all}
use Rattle.asm_lex.specs.Names.{value_in, is_number}
use Rattle.asm_lex.specs.Spans.{text_at}
use Rattle.asm_lex.proofs.words.are_numbers.Given as goal

-- all operands are numbers exactly where those that are left are
abbrev pub invariant-loop-operand : goal.invariant-loop-operand
invariant-loop-operand l =
    list_all (is_number l.isa (value_in l.names)) (map (text_at l.line) (drop l.operand-index l.operands))
    ≡ list_all (is_number l.isa (value_in l.names)) (map (text_at l.line) l.operands)
