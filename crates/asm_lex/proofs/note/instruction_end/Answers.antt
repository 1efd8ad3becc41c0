use Rattle.std.proofs.Common.{◌≡◌, ◌≤◌, ◌<◌, ◌-◌, ◌∙◌, ap, sym, arith, refl, ℕ, List, [], ◌∷◌, length, get_or, Some, None, Option}
use Rattle.std.specs.Prelude.{slice_get}
use Rattle.std.specs.Option.{option_map_or}
use Rattle.std.proofs.lemmas.Bool.{ltb-true, ltb-false}
use Rattle.std.proofs.lemmas.Option.{slice_get-get_or}
use Rattle.asm_lex.specs.declared.shape.Span.{Span}
use Rattle.asm_lex.specs.Parts.{code_of}
use Rattle.asm_lex.specs.Places.{operand_spans, word_span}
use Rattle.asm_lex.proofs.note.instruction_end.Goals as goal

-- the last of some spans, where there is one
last_there : (spans : List Span) (i : ℕ) (span : Span) → i ≡ length spans - 1 → i < length spans → span ≡ get_or spans i span
    → slice_get spans (length spans - 1) ≡ Some span
last_there spans i span at below is = ap (slice_get spans) (sym at) ∙ slice_get-get_or spans i span below ∙ ap Some (sym is)

none_there : (spans : List Span) (i : ℕ) → i ≡ length spans - 1 → length spans ≤ i → slice_get spans (length spans - 1) ≡ None
none_there [] i at above = refl
none_there (span ∷ spans) i at above = absurd (omega arith)

end_of : (spans : List Span) (code : List ℕ) (word : Span) (found : Option Span) → spans ≡ operand_spans code → word ≡ word_span code
    → slice_get spans (length spans - 1) ≡ found
    → option_map_or (λ (span : Span). span.to) found word.to
    ≡ option_map_or (λ (span : Span). span.to) (slice_get (operand_spans code) (length (operand_spans code) - 1)) (word_span code).to
end_of spans code word found these this there =
    ap (λ found. option_map_or (λ (span : Span). span.to) found word.to) (sym there)
    ∙ ap (λ spans. option_map_or (λ (span : Span). span.to) (slice_get spans (length spans - 1)) word.to) these
    ∙ ap (λ (word : Span). option_map_or (λ (span : Span). span.to) (slice_get (operand_spans code) (length (operand_spans code) - 1)) word.to) this

pub returns-in-Some-clause-end : goal.returns-in-Some-clause-end
returns-in-Some-clause-end c =
    let spans = c.as_slice-operands.result.now in
    let place = c.saturating_sub.result in
    let there =
    last_there spans place c.in-Some.span.now c.saturating_sub.ensures (ltb-true place (length spans) (sym c.in-Some.ensures.lookup.0))
    c.in-Some.ensures.lookup.1 in
    c.from.ensures
    ∙ end_of spans (code_of c.args.bytes.now) c.line_spans-spans.result.word (Some c.in-Some.span.now)
    (c.as_slice-operands.ensures.value ∙ c.line_spans-spans.ensures.operands) c.line_spans-spans.ensures.word there

pub returns-in-None-clause-end : goal.returns-in-None-clause-end
returns-in-None-clause-end c =
    let spans = c.as_slice-operands.result.now in
    let place = c.saturating_sub.result in
    let none = none_there spans place c.saturating_sub.ensures (ltb-false place (length spans) (sym c.in-None.ensures.lookup.0)) in
    c.from-in-None.ensures
    ∙ end_of spans (code_of c.args.bytes.now) c.line_spans-spans.result.word None
    (c.as_slice-operands.ensures.value ∙ c.line_spans-spans.ensures.operands) c.line_spans-spans.ensures.word none
