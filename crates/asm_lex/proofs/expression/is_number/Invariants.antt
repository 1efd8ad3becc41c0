use Rattle.std.proofs.Common.{◌≡◌, ◌+◌, length}
use Rattle.std.specs.List.{list_all}
use Rattle.std.specs.Option.{option_map, option_map_or}
use Rattle.asm_lex.specs.Expressions.{is_sign}
use Rattle.asm_lex.specs.Names.{value_in, is_number}
use Rattle.asm_lex.specs.Cuts.{parts_of}
use Rattle.asm_lex.proofs.NumberTerms.{is_number_term}
use Rattle.asm_lex.proofs.expression.is_number.Given as goal

-- the operand is a number exactly where each term that is left may stand in one
abbrev pub invariant-loop-rest : goal.invariant-loop-rest
invariant-loop-rest l =
    is_number l.isa (value_in l.names) l.text
    ≡ list_all (is_number_term l.isa (value_in l.names)) (parts_of is_sign (option_map (λ rest. rest.now) l.rest))

abbrev pub decreases-loop-rest : goal.decreases-loop-rest
decreases-loop-rest l = option_map_or (λ rest. length rest.now + 1) l.rest 0
