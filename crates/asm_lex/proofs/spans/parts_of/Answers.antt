use Rattle.std.proofs.Common.{◌≤◌, arith, sym, ap, ◌∙◌, ◌≡◌, ◌-◌, length, drop, take}
use Rattle.asm_lex.specs.Bytes.{is_semicolon}
use Rattle.std.specs.List.{before_first}
use Rattle.asm_lex.specs.Parts.{trimmed, code_of, label_of, statement_of, word_of}
use Rattle.asm_lex.specs.Spans.{text_at}
use Rattle.asm_lex.specs.Places.{label_span, visible_span}
use Rattle.asm_lex.proofs.Places.{span-is}
use Rattle.asm_lex.proofs.Texts.{text-whole, text_behind, length-text}
use Rattle.asm_lex.proofs.spans.parts_of.Goals as goal

code_is : (c : goal.After-trim-operands) → text_at c.args.line.now c.before-code.result ≡ code_of c.args.line.now
code_is c = c.before-code.ensures.text ∙ ap (before_first is_semicolon) (text-whole c.args.line.now)

statement_is : (c : goal.After-trim-operands) → text_at c.args.line.now c.without_leading_blanks-statement.result ≡ statement_of (code_of c.args.line.now)
statement_is c = c.without_leading_blanks-statement.ensures.text ∙ c.split_label-label.ensures.statement ∙ ap statement_of (code_is c)

word_is : (c : goal.After-trim-operands) → text_at c.args.line.now c.before-word.result ≡ word_of (statement_of (code_of c.args.line.now))
word_is c = c.before-word.ensures.text ∙ ap word_of (statement_is c)

pub returns-clause-label : goal.returns-clause-label
returns-clause-label c = c.split_label-label.ensures.label ∙ ap label_of (code_is c)

pub returns-clause-word : goal.returns-clause-word
returns-clause-word c = word_is c

behind_is : (c : goal.After-trim-operands)
    → text_at c.args.line.now (record { from = c.before-word.result.to; to = c.without_leading_blanks-statement.result.to })
    ≡ drop (length (word_of (statement_of (code_of c.args.line.now)))) (statement_of (code_of c.args.line.now))
behind_is c =
    let line = c.args.line.now in
    let statement = c.without_leading_blanks-statement.result in
    let word = c.before-word.result in
    let part : take (statement.to - word.to) (drop word.to line)
    ≡ drop (length (take (word.to - statement.from) (drop statement.from line))) (text_at line statement) =
    text_behind line statement.from word.to statement.to
    (omega (arith, c.before-word.ensures.within, c.before-word.ensures.from))
    (omega (arith, c.before-word.ensures.within))
    (omega (arith, c.without_leading_blanks-statement.ensures.to, c.split_label-label.ensures.within, c.before-code.ensures.within)) in
    part
    ∙ ap (λ from. drop (length (take (word.to - from) (drop from line))) (text_at line statement)) (sym c.before-word.ensures.from)
    ∙ ap (λ text. drop (length text) (text_at line statement)) (word_is c)
    ∙ ap (drop (length (word_of (statement_of (code_of line))))) (statement_is c)

pub returns-clause-operands : goal.returns-clause-operands
returns-clause-operands c = c.trim-operands.ensures.text ∙ ap trimmed (behind_is c)

pub returns-clause-label_place : goal.returns-clause-label_place
returns-clause-label_place c = c.split_label-label.ensures.place c.before-code.ensures.from ∙ ap label_span (code_is c)

code_end : (c : goal.After-trim-operands) → length (code_of c.args.line.now) ≡ c.without_leading_blanks-statement.result.to
code_end c =
    let line = c.args.line.now in
    let count = length-text line c.before-code.result
    (record { in_order = c.before-code.ensures.within.0; inside = omega (arith, c.before-code.ensures.within) }) in
    omega (
      arith,
      ap length (code_is c),
      count,
      c.before-code.ensures.from,
      c.before-code.ensures.within,
      c.split_label-label.ensures.within,
      c.without_leading_blanks-statement.ensures.to,
    )

pub returns-clause-word_place : goal.returns-clause-word_place
returns-clause-word_place c =
    let line = c.args.line.now in
    let statement = c.without_leading_blanks-statement.result in
    let word = c.before-word.result in
    let inside : statement.to ≤ length line =
    omega (arith, c.without_leading_blanks-statement.ensures.to, c.split_label-label.ensures.within, c.before-code.ensures.within) in
    let statement_count = length-text line statement (record { in_order = c.without_leading_blanks-statement.ensures.within.1; inside = inside }) in
    let word_count = length-text line word
    (record { in_order = c.before-word.ensures.within.0; inside = omega (arith, c.before-word.ensures.within, inside) }) in
    let from : word.from ≡ length (code_of line) - length (statement_of (code_of line)) =
    omega (arith, code_end c, statement_count, ap length (statement_is c), c.before-word.ensures.from, c.without_leading_blanks-statement.ensures.within) in
    span-is word (length (code_of line) - length (statement_of (code_of line))) _ from
    (omega (arith, from, word_count, ap length (word_is c), c.before-word.ensures.within))

pub returns-clause-operands_place : goal.returns-clause-operands_place
returns-clause-operands_place c =
    c.trim-operands.ensures.place
    ∙ ap (visible_span c.without_leading_blanks-statement.result.to) (behind_is c)
    ∙ ap (λ end. visible_span end (drop (length (word_of (statement_of (code_of c.args.line.now)))) (statement_of (code_of c.args.line.now)))) (sym (code_end c))
