use Rattle.std.proofs.Common.{◌≡◌, ◌+◌, length}
use Rattle.std.specs.List.{list_any}
use Rattle.std.specs.Option.{option_map, option_map_or}
use Rattle.asm_lex.specs.Expressions.{has_large_number, is_large, is_sign}
use Rattle.asm_lex.specs.Cuts.{parts_of}
use Rattle.asm_lex.proofs.expression.has_large_number.Given as goal

-- a large number is written in the text exactly where one is left
abbrev pub invariant-loop-rest : goal.invariant-loop-rest
invariant-loop-rest l = has_large_number l.isa l.text ≡ list_any (is_large l.isa) (parts_of is_sign (option_map (λ rest. rest.now) l.rest))

abbrev pub decreases-loop-rest : goal.decreases-loop-rest
decreases-loop-rest l = option_map_or (λ rest. length rest.now + 1) l.rest 0
