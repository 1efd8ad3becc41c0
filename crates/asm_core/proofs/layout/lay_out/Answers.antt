use Rattle.std.proofs.Common.{arith, sym, ap, subst, ◌∙◌, ◌≡◌, ◌++◌, List, length, Err}
use Rattle.std.specs.Prelude.{map}
use Rattle.std.specs.Option.{option_to_list}
use Rattle.std.specs.List.{list_any}
use Rattle.asm_lex.specs.declared.shape.Span.{Span}
use Rattle.asm_lex.specs.Expressions.{has_large_number}
use Rattle.asm_lex.specs.Lines.{shown}
use Rattle.asm_lex.specs.Spans.{text_at, AreWithin}
use Rattle.asm_lex.proofs.Texts.{in_order-within}
use Rattle.asm_lex.proofs.Statements.{is_some-map}
use Rattle.asm_lex.specs.Names.{value_in}
use Rattle.asm_core.specs.Layout.{judged, placed}
use Rattle.asm_core.proofs.LaidOut.{laid_out-fault, laid_out-duplicate, laid_out-judged, label_in-parts, label_within, operands_within}
use Rattle.asm_core.proofs.layout.lay_out.Goals as goal

pub returns-in-Err-clause-laid : goal.returns-in-Err-clause-laid
returns-in-Err-clause-laid c =
    laid_out-fault c.args.isa (value_in c.args.names.now) c.args.at c.args.bytes.now c.in-Err.fault c.in-Err.ensures.parsed ∙ ap Err (sym c.cause_of.ensures)

pub is_duplicate-requires : goal.is_duplicate-requires
is_duplicate-requires c =
    label_within c.args.bytes.now c.in-Ok.line.label c.in-Ok.line.operands.items
    (in_order-within c.args.bytes.now (option_to_list c.in-Ok.line.label ++ c.in-Ok.line.operands.items) 0
    (length c.args.bytes.now) c.in-Ok.ensures.order (omega arith))

pub returns-then-is_duplicate-clause-laid : goal.returns-then-is_duplicate-clause-laid
returns-then-is_duplicate-clause-laid c =
    laid_out-duplicate c.args.isa (value_in c.args.names.now) c.args.at c.args.bytes.now (shown c.args.bytes.now c.in-Ok.line) c.in-Ok.ensures.parsed
    (sym c.is_duplicate.ensures ∙ c.if-is_duplicate.true)

operands_in_line : (c : goal.After-place-arg-1) → AreWithin c.args.bytes.now c.as_slice-operands.result.now
operands_in_line c =
    let P : List Span → Type 0 = λ spans. AreWithin c.args.bytes.now spans in
    subst P (sym c.as_slice-operands.ensures.value)
    (operands_within c.args.bytes.now c.in-Ok.line.label c.in-Ok.line.operands.items
    (in_order-within c.args.bytes.now (option_to_list c.in-Ok.line.label ++ c.in-Ok.line.operands.items) 0
    (length c.args.bytes.now) c.in-Ok.ensures.order (omega arith)))

pub place-placed-requires-clause-within : goal.place-placed-requires-clause-within
place-placed-requires-clause-within c = operands_in_line c

pub has_large_number_in-large-requires : goal.has_large_number_in-large-requires
has_large_number_in-large-requires c =
    let P : List Span → Type 0 = λ spans. AreWithin c.args.bytes.now spans in
    record {
      within = subst P (sym c.as_slice-operands.ensures.value)
          (operands_within c.args.bytes.now c.in-Ok.line.label c.in-Ok.line.operands.items
          (in_order-within c.args.bytes.now (option_to_list c.in-Ok.line.label ++ c.in-Ok.line.operands.items) 0
          (length c.args.bytes.now) c.in-Ok.ensures.order (omega arith)));
    }

pub returns-in-Ok-judge-clause-laid : goal.returns-in-Ok-judge-clause-laid
returns-in-Ok-judge-clause-laid c =
    let bytes = c.args.bytes.now in
    let names = value_in c.args.names.now in
    let line = c.in-Ok.line in
    let texts : map (text_at bytes) c.as_slice-operands.result.now ≡ map (text_at bytes) line.operands.items =
    ap (map (text_at bytes)) c.as_slice-operands.ensures.value in
    laid_out-judged c.args.isa names c.args.at bytes (shown bytes line) c.in-Ok.ensures.parsed (sym c.is_duplicate.ensures ∙ c.if-is_duplicate.false)
    ∙ ap (λ flag. judged c.args.isa flag (list_any (has_large_number c.args.isa) (map (text_at bytes) line.operands.items))
    (placed c.args.isa names c.args.at line.word (map (text_at bytes) line.operands.items)))
    (is_some-map (text_at bytes) line.label ∙ sym c.is_some.ensures)
    ∙ ap (λ texts. judged c.args.isa c.is_some.result (list_any (has_large_number c.args.isa) texts) (placed c.args.isa names c.args.at line.word texts))
    (sym texts)
    ∙ ap (λ large. judged c.args.isa c.is_some.result large (placed c.args.isa names c.args.at line.word (map (text_at bytes) c.as_slice-operands.result.now)))
    (sym c.has_large_number_in-large.ensures)
    ∙ ap (judged c.args.isa c.is_some.result c.has_large_number_in-large.result) (sym c.place-placed.ensures.placed)
    ∙ sym c.judge.ensures.cause ∙ c.in-Ok-judge.is

pub returns-in-Ok-judge-clause-label : goal.returns-in-Ok-judge-clause-label
returns-in-Ok-judge-clause-label c = (
  label_in-parts c.args.isa (value_in c.args.names.now) c.args.bytes.now (shown c.args.bytes.now c.in-Ok.line) c.in-Ok.ensures.parsed,
  label_within c.args.bytes.now c.in-Ok.line.label c.in-Ok.line.operands.items
      (in_order-within c.args.bytes.now (option_to_list c.in-Ok.line.label ++ c.in-Ok.line.operands.items) 0
      (length c.args.bytes.now) c.in-Ok.ensures.order (omega arith)),
)

pub returns-in-Err-judge-clause-laid : goal.returns-in-Err-judge-clause-laid
returns-in-Err-judge-clause-laid c =
    let bytes = c.args.bytes.now in
    let names = value_in c.args.names.now in
    let line = c.in-Ok.line in
    let texts : map (text_at bytes) c.as_slice-operands.result.now ≡ map (text_at bytes) line.operands.items =
    ap (map (text_at bytes)) c.as_slice-operands.ensures.value in
    laid_out-judged c.args.isa names c.args.at bytes (shown bytes line) c.in-Ok.ensures.parsed (sym c.is_duplicate.ensures ∙ c.if-is_duplicate.false)
    ∙ ap (λ flag. judged c.args.isa flag (list_any (has_large_number c.args.isa) (map (text_at bytes) line.operands.items))
    (placed c.args.isa names c.args.at line.word (map (text_at bytes) line.operands.items)))
    (is_some-map (text_at bytes) line.label ∙ sym c.is_some.ensures)
    ∙ ap (λ texts. judged c.args.isa c.is_some.result (list_any (has_large_number c.args.isa) texts) (placed c.args.isa names c.args.at line.word texts))
    (sym texts)
    ∙ ap (λ large. judged c.args.isa c.is_some.result large (placed c.args.isa names c.args.at line.word (map (text_at bytes) c.as_slice-operands.result.now)))
    (sym c.has_large_number_in-large.ensures)
    ∙ ap (judged c.args.isa c.is_some.result c.has_large_number_in-large.result) (sym c.place-placed.ensures.placed)
    ∙ sym c.judge.ensures.cause ∙ c.in-Err-judge.is
