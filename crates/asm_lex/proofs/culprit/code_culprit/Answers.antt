use Rattle.std.proofs.Common.{◌≡◌, ◌∙◌, sym, ap, Option, Some, None}
use Rattle.std.specs.Prelude.{unwrap_or}
use Rattle.std.specs.Option.{option_or}
use Rattle.std.specs.List.{slice_split}
use Rattle.asm_lex.specs.declared.shape.Place.{Place}
use Rattle.asm_lex.specs.Bytes.{is_long_name, ends_name}
use Rattle.asm_lex.specs.Culprits.{first_part, part_place, bad_label, long_name, wrong_operand}
use Rattle.asm_lex.specs.Names.{value_in}
use Rattle.asm_lex.specs.Parts.{code_of, statement_of, word_of}
use Rattle.asm_lex.specs.Places.{behind_span}
use Rattle.asm_lex.specs.Spans.{text_at}
use Rattle.asm_lex.specs.Words.{entry_of}
use Rattle.asm_lex.proofs.culprit.code_culprit.Goals as goal

-- the first of two places that is there, or a third
first_there : (first second : Option Place) (third place : Place) → first ≡ Some place → place ≡ unwrap_or (option_or first second) third
first_there first second third place e = sym (ap (λ found. unwrap_or (option_or found second) third) e)

second_there : (first second : Option Place) (third place : Place) → first ≡ None → second ≡ Some place → place ≡ unwrap_or (option_or first second) third
second_there first second third place none e =
    sym (ap (λ found. unwrap_or (option_or found second) third) none ∙ ap (λ found. unwrap_or found third) e)

neither_there : (first second : Option Place) (third : Place) → first ≡ None → second ≡ None → third ≡ unwrap_or (option_or first second) third
neither_there first second third none nor = sym (ap (λ found. unwrap_or (option_or found second) third) none ∙ ap (λ found. unwrap_or found third) nor)

pub returns-in-Some : goal.returns-in-Some
returns-in-Some c =
    let line = c.args.line.now in
    let code = code_of line in
    let wrong = wrong_operand c.args.isa (value_in c.args.names.now) line code (entry_of c.args.isa (word_of (statement_of code))) in
    first_there (bad_label c.args.isa code) (long_name code) wrong c.in-Some.place
    (sym (c.bad_label.ensures code c.parts_of-parts.ensures.label_place c.parts_of-parts.ensures.label) ∙ c.in-Some.is)

pub returns-in-Some-first_part : goal.returns-in-Some-first_part
returns-in-Some-first_part c =
    let line = c.args.line.now in
    let code = code_of line in
    let named : c.first_part.result ≡ long_name code =
    c.first_part.ensures
    ∙ ap (λ from. part_place from (first_part is_long_name (slice_split ends_name c.text_at-behind.result.now)))
    (c.from-from.ensures ∙ ap (λ span. span.from) c.parts_of-parts.ensures.operands_place)
    ∙ ap (λ text. part_place (behind_span code).from (first_part is_long_name (slice_split ends_name text)))
    (c.text_at-behind.ensures ∙ c.parts_of-parts.ensures.operands) in
    let wrong = wrong_operand c.args.isa (value_in c.args.names.now) line code (entry_of c.args.isa (word_of (statement_of code))) in
    second_there (bad_label c.args.isa code) (long_name code) wrong c.in-Some-first_part.place
    (sym (c.bad_label.ensures code c.parts_of-parts.ensures.label_place c.parts_of-parts.ensures.label) ∙ c.in_default.is)
    (sym named ∙ c.in-Some-first_part.is)

pub returns-in-None : goal.returns-in-None
returns-in-None c =
    let line = c.args.line.now in
    let code = code_of line in
    let named : c.first_part.result ≡ long_name code =
    c.first_part.ensures
    ∙ ap (λ from. part_place from (first_part is_long_name (slice_split ends_name c.text_at-behind.result.now)))
    (c.from-from.ensures ∙ ap (λ span. span.from) c.parts_of-parts.ensures.operands_place)
    ∙ ap (λ text. part_place (behind_span code).from (first_part is_long_name (slice_split ends_name text)))
    (c.text_at-behind.ensures ∙ c.parts_of-parts.ensures.operands) in
    let wrong = wrong_operand c.args.isa (value_in c.args.names.now) line code (entry_of c.args.isa (word_of (statement_of code))) in
    c.wrong_operand.ensures code c.line_spans.ensures.word c.line_spans.ensures.operands
    (ap (text_at line) (c.line_spans.ensures.word ∙ sym c.parts_of-parts.ensures.word_place) ∙ c.parts_of-parts.ensures.word)
    ∙ neither_there (bad_label c.args.isa code) (long_name code) wrong
    (sym (c.bad_label.ensures code c.parts_of-parts.ensures.label_place c.parts_of-parts.ensures.label) ∙ c.in_default.is)
    (sym named ∙ c.in-None.is)
