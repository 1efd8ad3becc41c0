use Rattle.std.proofs.Common.{◌∙◌, sym, ap, take, Some, List, Option, ℕ}
use Rattle.std.specs.Prelude.{option_map}
use Rattle.std.proofs.lemmas.List.{take_min}
use Rattle.asm_lex.specs.Parts.{code_of}
use Rattle.asm_lex.specs.Places.{label_span}
use Rattle.asm_lex.specs.Spans.{text_at}
use Rattle.asm_core.specs.Told.{label_if_name, guessed_label}
use Rattle.asm_core.proofs.findings.guessed_label.Goals as goal

pub returns-in-Some : goal.returns-in-Some
unfolding guessed_label
returns-in-Some c =
    let line = c.args.line.now in
    let front = take c.min.result line in
    let f : List ℕ → Option (List ℕ) = λ front. label_if_name c.args.isa (option_map (text_at front) (label_span (code_of front))) in
    c.if_name.ensures
    ∙ ap (λ text. label_if_name c.args.isa (Some text)) c.text_at.ensures
    ∙ sym (ap (λ label. label_if_name c.args.isa (option_map (text_at front) label)) (sym c.line_spans.ensures.label ∙ c.in-Some.is))
    ∙ ap f (ap (λ n. take n line) c.min.ensures ∙ take_min 255 line)

pub returns-in-None : goal.returns-in-None
unfolding guessed_label
returns-in-None c =
    let line = c.args.line.now in
    let front = take c.min.result line in
    let f : List ℕ → Option (List ℕ) = λ front. label_if_name c.args.isa (option_map (text_at front) (label_span (code_of front))) in
    sym (ap (λ label. label_if_name c.args.isa (option_map (text_at front) label)) (sym c.line_spans.ensures.label ∙ c.in-None.is))
    ∙ ap f (ap (λ n. take n line) c.min.ensures ∙ take_min 255 line)
