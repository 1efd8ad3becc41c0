use Rattle.std.proofs.Common.{Some, arith, sym, ap, subst, ◌∙◌, ◌≡◌, ◌<◌, ◌≤◌, length, List}
use Rattle.std.specs.Prelude.{map}
use Rattle.std.proofs.lemmas.Bool.{eqb-true}
use Rattle.std.proofs.lemmas.List.{length-map}
use Rattle.asm_lex.specs.declared.shape.Span.{Span}
use Rattle.asm_lex.specs.Parts.{operands_in}
use Rattle.asm_lex.specs.Words.{meaning_of, HasItsOperands}
use Rattle.asm_lex.specs.Lines.{word_meaning}
use Rattle.asm_lex.specs.Names.{value_in}
use Rattle.asm_lex.specs.Spans.{text_at, AreWithin}
use Rattle.asm_lex.proofs.Texts.{operands-empty, length-text, in_order-within}
use Rattle.asm_lex.proofs.Takes.{meant_operands}
use Rattle.asm_lex.proofs.Statements.{word_meaning-empty, word_meaning-unknown, word_meaning-wrong, word_meaning-known, word_there, positive}
use Rattle.asm_lex.proofs.read_statement.Goals as goal

pub returns-in_default-clause-parts : goal.returns-in_default-clause-parts
returns-in_default-clause-parts c =
    let line = c.args.line.now in
    let behind = text_at line c.args.behind in
    let short : length behind ≤ 255 = omega (arith, length-text line c.args.behind c.requires.behind, c.requires.line, c.requires.behind.inside) in
    let there : 0 < length c.text_at-word.result.now =
    word_there c.text_at-word.result.now behind (λ e. c.requires.empty (ap length (sym c.text_at-word.ensures) ∙ e)) c.in_default.ensures.texts in
    ap (word_meaning c.args.isa (value_in c.args.names.now) c.args.has_label (operands_in behind)) (sym c.text_at-word.ensures)
    ∙ c.fault_of_many.ensures (value_in c.args.names.now) c.args.has_label behind short c.in_default.ensures.texts there

pub returns-then-is_empty-clause-parts : goal.returns-then-is_empty-clause-parts
returns-then-is_empty-clause-parts c = (
  c.in-Some.ensures.texts,
  ap (word_meaning c.args.isa (value_in c.args.names.now) c.args.has_label (operands_in (text_at c.args.line.now c.args.behind))) (sym c.text_at-word.ensures)
      ∙ word_meaning-empty c.args.isa (value_in c.args.names.now) c.args.has_label
      (operands_in (text_at c.args.line.now c.args.behind)) c.text_at-word.result.now
      (eqb-true (length c.text_at-word.result.now) 0 (sym c.is_empty.ensures ∙ c.if-is_empty.true)),
)

pub returns-in_default-entry_of-clause-parts : goal.returns-in_default-entry_of-clause-parts
returns-in_default-entry_of-clause-parts c =
    ap (word_meaning c.args.isa (value_in c.args.names.now) c.args.has_label (operands_in (text_at c.args.line.now c.args.behind))) (sym c.text_at-word.ensures)
    ∙ word_meaning-unknown c.args.isa (value_in c.args.names.now) c.args.has_label
    (operands_in (text_at c.args.line.now c.args.behind)) c.text_at-word.result.now
    (positive (length c.text_at-word.result.now) (sym c.is_empty.ensures ∙ c.if-is_empty.false)) (sym c.entry_of.ensures ∙ c.in_default-entry_of.is)

pub meaning-requires : goal.meaning-requires
meaning-requires c =
    let P : List Span → Type 0 = λ spans. AreWithin c.args.line.now spans in
    subst P (sym c.as_slice.ensures.value)
    (in_order-within c.args.line.now c.in-Some.operands.items c.args.behind.from c.args.behind.to c.in-Some.ensures.order c.requires.behind.inside)

pub returns-in-Some-meaning-clause-parts : goal.returns-in-Some-meaning-clause-parts
returns-in-Some-meaning-clause-parts c =
    let line = c.args.line.now in
    let texts : map (text_at line) c.as_slice.result.now ≡ operands_in (text_at line c.args.behind) =
    ap (map (text_at line)) c.as_slice.ensures.value ∙ c.in-Some.ensures.texts in (
      c.in-Some.ensures.texts,
      ap (word_meaning c.args.isa (value_in c.args.names.now) c.args.has_label (operands_in (text_at line c.args.behind))) (sym c.text_at-word.ensures)
          ∙ word_meaning-known c.args.isa (value_in c.args.names.now) c.args.has_label
          (operands_in (text_at line c.args.behind)) c.text_at-word.result.now c.in-Some-entry_of.entry c.in-Some-meaning.word
          (positive (length c.text_at-word.result.now) (sym c.is_empty.ensures ∙ c.if-is_empty.false)) (sym c.entry_of.ensures ∙ c.in-Some-entry_of.is)
          (ap (meaning_of c.args.isa (value_in c.args.names.now) c.in-Some-entry_of.entry c.args.has_label) (sym texts) ∙ sym c.meaning.ensures
          ∙ c.in-Some-meaning.is),
    )

pub returns-in-None-clause-parts : goal.returns-in-None-clause-parts
returns-in-None-clause-parts c =
    let line = c.args.line.now in
    let texts : map (text_at line) c.as_slice.result.now ≡ operands_in (text_at line c.args.behind) =
    ap (map (text_at line)) c.as_slice.ensures.value ∙ c.in-Some.ensures.texts in
    ap (word_meaning c.args.isa (value_in c.args.names.now) c.args.has_label (operands_in (text_at line c.args.behind))) (sym c.text_at-word.ensures)
    ∙ word_meaning-wrong c.args.isa (value_in c.args.names.now) c.args.has_label
    (operands_in (text_at line c.args.behind)) c.text_at-word.result.now c.in-Some-entry_of.entry
    (positive (length c.text_at-word.result.now) (sym c.is_empty.ensures ∙ c.if-is_empty.false)) (sym c.entry_of.ensures ∙ c.in-Some-entry_of.is)
    (ap (meaning_of c.args.isa (value_in c.args.names.now) c.in-Some-entry_of.entry c.args.has_label) (sym texts) ∙ sym c.meaning.ensures ∙ c.in-None.is)

pub returns-then-is_empty-clause-operands : goal.returns-then-is_empty-clause-operands
returns-then-is_empty-clause-operands c =
    c.in-Some.ensures.texts
    ∙ operands-empty (text_at c.args.line.now c.args.behind)
    (c.requires.empty (ap length (sym c.text_at-word.ensures) ∙ eqb-true (length c.text_at-word.result.now) 0 (sym c.is_empty.ensures ∙ c.if-is_empty.true)))

pub returns-in-Some-meaning-clause-operands : goal.returns-in-Some-meaning-clause-operands
returns-in-Some-meaning-clause-operands c =
    let line = c.args.line.now in
    let P : List Span → Type 0 = λ spans. HasItsOperands c.args.isa (Some c.in-Some-meaning.word) (map (text_at line) spans) in
    subst P c.as_slice.ensures.value
    (meant_operands c.args.isa (value_in c.args.names.now) c.have_values.ensures c.in-Some-entry_of.entry c.args.has_label
    (map (text_at line) c.as_slice.result.now) c.in-Some-meaning.word
    (sym c.meaning.ensures ∙ c.in-Some-meaning.is))

pub returns-then-is_empty-clause-few : goal.returns-then-is_empty-clause-few
returns-then-is_empty-clause-few c =
    let none =
    c.in-Some.ensures.texts
    ∙ operands-empty (text_at c.args.line.now c.args.behind)
    (c.requires.empty (ap length (sym c.text_at-word.ensures) ∙ eqb-true (length c.text_at-word.result.now) 0 (sym c.is_empty.ensures ∙ c.if-is_empty.true))) in
    omega (arith, ap length none, length-map c.in-Some.operands.items (text_at c.args.line.now))
