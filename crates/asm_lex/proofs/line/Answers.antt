use Rattle.std.proofs.Common.{sym, ap, subst, arith, ◌∙◌, ◌≡◌, length, Ok, Err}
use Rattle.std.specs.Prelude.{is_some, map, option_map}
use Rattle.asm_lex.specs.Parts.{code_of, label_of, statement_of, word_of, behind_word, operands_in}
use Rattle.asm_lex.specs.Lines.{word_meaning, operands_of}
use Rattle.asm_lex.specs.Words.{HasItsOperands}
use Rattle.std.proofs.lemmas.List.{length-map}
use Rattle.asm_lex.specs.Names.{value_in}
use Rattle.asm_lex.specs.Spans.{text_at}
use Rattle.asm_lex.proofs.Texts.{empty_statement, in_order-line}
use Rattle.asm_lex.proofs.Statements.{short_line, parsed-bad_bytes, parsed-bad_name, parsed-statement, is_some-map, made}
use Rattle.asm_lex.proofs.line.Goals as goal

pub returns-then-has_bad_bytes-clause-parsed : goal.returns-then-has_bad_bytes-clause-parsed
returns-then-has_bad_bytes-clause-parsed c = parsed-bad_bytes c.args.isa (value_in c.args.names.now) c.args.bytes.now
    (sym c.has_bad_bytes.ensures ∙ c.if-has_bad_bytes.true)

pub parts_of-parts-requires : goal.parts_of-parts-requires
parts_of-parts-requires c = short_line c.args.bytes.now (sym c.has_bad_bytes.ensures ∙ c.if-has_bad_bytes.false)

pub returns-then-has_bad_name-clause-parsed : goal.returns-then-has_bad_name-clause-parsed
returns-then-has_bad_name-clause-parsed c =
    parsed-bad_name c.args.isa (value_in c.args.names.now) c.args.bytes.now (sym c.has_bad_bytes.ensures ∙ c.if-has_bad_bytes.false)
    (sym (c.has_bad_name.ensures (code_of c.args.bytes.now) c.parts_of-parts.ensures.label c.parts_of-parts.ensures.operands) ∙ c.if-has_bad_name.true)

pub read_statement-requires-clause-line : goal.read_statement-requires-clause-line
read_statement-requires-clause-line c = short_line c.args.bytes.now (sym c.has_bad_bytes.ensures ∙ c.if-has_bad_bytes.false)

pub read_statement-requires-clause-empty : goal.read_statement-requires-clause-empty
read_statement-requires-clause-empty c = λ e.
    ap length c.parts_of-parts.ensures.operands ∙ empty_statement (code_of c.args.bytes.now) (ap length (sym c.parts_of-parts.ensures.word) ∙ e)

pub returns-in-Ok-clause-parsed : goal.returns-in-Ok-clause-parsed
returns-in-Ok-clause-parsed c =
    let bytes = c.args.bytes.now in
    let code = code_of bytes in
    let statement = statement_of code in
    let parts = c.parts_of-parts.result in
    let flag : c.is_some-has_label.result ≡ is_some (label_of code) =
    c.is_some-has_label.ensures ∙ sym (is_some-map (text_at bytes) parts.label) ∙ ap is_some c.parts_of-parts.ensures.label in
    let meaning : word_meaning c.args.isa (value_in c.args.names.now) (is_some (label_of code)) (operands_in (behind_word statement)) (word_of statement)
    ≡ Ok c.in-Ok.statement.word =
    ap (λ flag. word_meaning c.args.isa (value_in c.args.names.now) flag (operands_in (behind_word statement)) (word_of statement)) (sym flag)
    ∙ ap (λ text. word_meaning c.args.isa (value_in c.args.names.now) c.is_some-has_label.result (operands_in text) (word_of statement))
    (sym c.parts_of-parts.ensures.operands)
    ∙ ap (word_meaning c.args.isa (value_in c.args.names.now) c.is_some-has_label.result (operands_in (text_at bytes parts.operands)))
    (sym c.parts_of-parts.ensures.word)
    ∙ c.in-Ok.ensures.parts.1 in
    parsed-statement c.args.isa (value_in c.args.names.now) bytes (sym c.has_bad_bytes.ensures ∙ c.if-has_bad_bytes.false)
    (sym (c.has_bad_name.ensures code c.parts_of-parts.ensures.label c.parts_of-parts.ensures.operands) ∙ c.if-has_bad_name.false)
    (Ok c.in-Ok.statement.word) meaning
    ∙ ap (λ label. Ok (made label c.in-Ok.statement.word (operands_in (behind_word statement)))) (sym c.parts_of-parts.ensures.label)
    ∙ ap (λ operands. Ok (made (option_map (text_at bytes) parts.label) c.in-Ok.statement.word operands))
    (ap operands_in (sym c.parts_of-parts.ensures.operands) ∙ sym c.in-Ok.ensures.parts.0)

pub returns-in-Ok-clause-order : goal.returns-in-Ok-clause-order
returns-in-Ok-clause-order c =
    in_order-line c.parts_of-parts.result.label c.parts_of-parts.result.word c.parts_of-parts.result.operands c.in-Ok.statement.operands.items
    (length c.args.bytes.now)
    c.parts_of-parts.ensures.order c.in-Ok.ensures.order

pub returns-in-Err-clause-parsed : goal.returns-in-Err-clause-parsed
returns-in-Err-clause-parsed c =
    let bytes = c.args.bytes.now in
    let code = code_of bytes in
    let statement = statement_of code in
    let parts = c.parts_of-parts.result in
    let flag : c.is_some-has_label.result ≡ is_some (label_of code) =
    c.is_some-has_label.ensures ∙ sym (is_some-map (text_at bytes) parts.label) ∙ ap is_some c.parts_of-parts.ensures.label in
    let meaning : word_meaning c.args.isa (value_in c.args.names.now) (is_some (label_of code)) (operands_in (behind_word statement)) (word_of statement)
    ≡ Err c.in-Err.fault =
    ap (λ flag. word_meaning c.args.isa (value_in c.args.names.now) flag (operands_in (behind_word statement)) (word_of statement)) (sym flag)
    ∙ ap (λ text. word_meaning c.args.isa (value_in c.args.names.now) c.is_some-has_label.result (operands_in text) (word_of statement))
    (sym c.parts_of-parts.ensures.operands)
    ∙ ap (word_meaning c.args.isa (value_in c.args.names.now) c.is_some-has_label.result (operands_in (text_at bytes parts.operands)))
    (sym c.parts_of-parts.ensures.word)
    ∙ c.in-Err.ensures.parts in
    parsed-statement c.args.isa (value_in c.args.names.now) bytes (sym c.has_bad_bytes.ensures ∙ c.if-has_bad_bytes.false)
    (sym (c.has_bad_name.ensures code c.parts_of-parts.ensures.label c.parts_of-parts.ensures.operands) ∙ c.if-has_bad_name.false) (Err c.in-Err.fault) meaning

pub returns-in-Ok-clause-reads : goal.returns-in-Ok-clause-reads
returns-in-Ok-clause-reads c =
    let bytes = c.args.bytes.now in
    let code = code_of bytes in
    let statement = statement_of code in
    let parts = c.parts_of-parts.result in
    let flag : c.is_some-has_label.result ≡ is_some (label_of code) =
    c.is_some-has_label.ensures ∙ sym (is_some-map (text_at bytes) parts.label) ∙ ap is_some c.parts_of-parts.ensures.label in
    let meaning : word_meaning c.args.isa (value_in c.args.names.now) (is_some (label_of code)) (operands_in (behind_word statement)) (word_of statement)
    ≡ Ok c.in-Ok.statement.word =
    ap (λ flag. word_meaning c.args.isa (value_in c.args.names.now) flag (operands_in (behind_word statement)) (word_of statement)) (sym flag)
    ∙ ap (λ text. word_meaning c.args.isa (value_in c.args.names.now) c.is_some-has_label.result (operands_in text) (word_of statement))
    (sym c.parts_of-parts.ensures.operands)
    ∙ ap (word_meaning c.args.isa (value_in c.args.names.now) c.is_some-has_label.result (operands_in (text_at bytes parts.operands)))
    (sym c.parts_of-parts.ensures.word)
    ∙ c.in-Ok.ensures.parts.1 in
    let operands : map (text_at bytes) c.in-Ok.statement.operands.items ≡ operands_of code =
    c.in-Ok.ensures.parts.0 ∙ ap operands_in c.parts_of-parts.ensures.operands in
    record {
      is = parsed-statement c.args.isa (value_in c.args.names.now) bytes (sym c.has_bad_bytes.ensures ∙ c.if-has_bad_bytes.false)
          (sym (c.has_bad_name.ensures code c.parts_of-parts.ensures.label c.parts_of-parts.ensures.operands) ∙ c.if-has_bad_name.false)
          (Ok c.in-Ok.statement.word) meaning;
      short = short_line bytes (sym c.has_bad_bytes.ensures ∙ c.if-has_bad_bytes.false);
      few = omega (arith, c.in-Ok.ensures.few, ap length operands, length-map c.in-Ok.statement.operands.items (text_at bytes));
      operands = subst (HasItsOperands c.args.isa c.in-Ok.statement.word) operands c.in-Ok.ensures.operands;
    }
