use Rattle.std.proofs.Common.{◌≡◌, ◌++◌}
use Rattle.std.specs.Prelude.{flat_map}
use Rattle.std.specs.List.{range_with_len}
use Rattle.asm_lex.specs.Names.{value_in}
use Rattle.asm_listing.specs.Told.{operand_text}
use Rattle.asm_listing.proofs.report_text.append_entry.Given as goal

-- what is told of the operands so far
abbrev pub invariant-loop-k : goal.invariant-loop-k
invariant-loop-k l =
    l.text.items
    ≡ l.fn.text.items ++ flat_map (operand_text l.isa (value_in l.given) (value_in l.fixed) l.name l.number l.line l.told l.spans l.entry) (range_with_len 0 l.k)
