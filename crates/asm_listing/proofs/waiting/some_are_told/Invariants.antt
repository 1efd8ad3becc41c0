use Rattle.std.proofs.Common.{◌≡◌, None}
use Rattle.std.specs.Prelude.{is_some}
use Rattle.std.specs.List.{list_any, range_with_len}
use Rattle.asm_lex.specs.Names.{value_in}
use Rattle.asm_listing.specs.Told.{operand_found}
use Rattle.asm_listing.proofs.waiting.some_are_told.Given as goal

-- something is told of the operands so far
abbrev pub invariant-loop-k : goal.invariant-loop-k
invariant-loop-k l =
    l.some ≡ list_any (λ k. is_some (operand_found l.isa (value_in l.given) (value_in l.fixed) l.line None l.spans l.entry k)) (range_with_len 0 l.k)
