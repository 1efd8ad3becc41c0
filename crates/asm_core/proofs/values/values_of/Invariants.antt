use Rattle.std.proofs.Common.{◌≡◌, ◌≤◌, drop, length}
use Rattle.std.specs.Prelude.{map, All}
use Rattle.asm_lex.specs.Spans.{text_at}
use Rattle.asm_lex.specs.Names.{value_in}
use Rattle.asm_core.specs.Names.{operand_value}
use Rattle.asm_core.specs.Encoding.{values_of}
use Rattle.asm_core.proofs.Collected.{collect_from}
use Rattle.asm_core.proofs.values.values_of.Given as goal

-- the values so far and those of the operands that are left are all values
abbrev pub invariant-loop-operand : goal.invariant-loop-operand
invariant-loop-operand l = record {
  completes : collect_from l.in_range l.values.items
      (map (operand_value l.isa (value_in l.names) l.here l.most) (map (text_at l.line) (drop l.operand-index l.operands)))
      ≡ values_of l.isa (value_in l.names) l.here l.most (map (text_at l.line) l.operands);
  count : length l.values.items ≤ l.operand-index;
  bounds : All (λ value. value ≤ l.most) l.values.items;
}
