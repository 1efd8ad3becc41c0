use Rattle.std.proofs.Common.{◌≡◌, ◌++◌, ◌+◌, ◌-◌, ◌≤◌, length}
use Rattle.std.specs.Prelude.{map, IfSome}
use Rattle.std.specs.Option.{option_map, option_map_or}
use Rattle.asm_lex.specs.Bytes.{is_comma}
use Rattle.asm_lex.specs.Cuts.{parts_of}
use Rattle.asm_lex.specs.Parts.{trimmed, operands_in}
use Rattle.asm_lex.specs.Spans.{text_at, AreInOrder}
use Rattle.asm_lex.specs.Places.{spans_in}
use Rattle.asm_lex.proofs.Places.{rest_spans}
use Rattle.asm_lex.proofs.spans.first_operands.Given as goal

-- the operands so far and those that are left are the operands
abbrev pub invariant-loop-rest : goal.invariant-loop-rest
invariant-loop-rest l = record {
  texts : map (text_at l.fn.line) l.operands.items ++ map trimmed (parts_of is_comma (option_map (text_at l.fn.line) l.rest))
      ≡ operands_in (text_at l.fn.line l.fn.span);
  within : IfSome l.rest (λ rest. (rest.from ≤ rest.to) × (rest.to ≡ l.fn.span.to));
  places : l.operands.items ++ rest_spans l.fn.line l.rest ≡ spans_in l.fn.span.from (text_at l.fn.line l.fn.span);
  few : length l.operands.items ≤ 128;
  order : AreInOrder l.fn.span.from l.operands.items (option_map_or (λ rest. rest.from) l.rest l.fn.span.to);
}

abbrev pub decreases-loop-rest : goal.decreases-loop-rest
decreases-loop-rest l = option_map_or (λ rest. rest.to - rest.from + 1) l.rest 0
