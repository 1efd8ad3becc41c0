use Rattle.std.proofs.Common.{◌≡◌, ◌∙◌, sym, ap, Some, List}
use Rattle.std.specs.Prelude.{map, slice_get, option_and_then}
use Rattle.std.specs.Option.{option_map_or}
use Rattle.asm_lex.specs.declared.shape.Span.{Span}
use Rattle.asm_lex.specs.declared.shape.Place.{Place}
use Rattle.asm_lex.specs.Names.{value_in}
use Rattle.asm_lex.specs.Parts.{statement_of, word_of}
use Rattle.asm_lex.specs.Places.{place_of, word_span}
use Rattle.asm_lex.specs.Spans.{text_at}
use Rattle.asm_lex.specs.Words.{entry_of}
use Rattle.asm_lex.specs.Culprits.{first_wrong, wrong_operand}
use Rattle.asm_lex.proofs.culprit.wrong_operand.Goals as goal

pub returns : goal.returns
returns c = λ code word operands text.
    let line = c.args.line.now in
    let names = value_in c.args.names.now in
    let entry = c.in-Some.entry in
    let f : Span → List Span → Place =
    λ word spans. option_map_or place_of (option_and_then (slice_get spans) (first_wrong c.args.isa names entry (map (text_at line) spans))) (place_of word) in
    let found : entry_of c.args.isa (word_of (statement_of code)) ≡ Some entry =
    ap (entry_of c.args.isa) (sym text ∙ sym c.text_at.ensures) ∙ sym c.entry_of.ensures ∙ c.in-Some.is in
    let spans = c.args.spans.now in
    c.operand_or_word.ensures
    ∙ ap (λ number. option_map_or place_of (option_and_then (slice_get spans.operands.items) number) (place_of spans.word))
    (c.first_wrong.ensures ∙ ap (λ spans. first_wrong c.args.isa names entry (map (text_at line) spans)) c.as_slice-operands.ensures.value)
    ∙ ap (λ word. f word spans.operands.items) word
    ∙ ap (f (word_span code)) operands
    ∙ sym (ap (wrong_operand c.args.isa names line code) found)
