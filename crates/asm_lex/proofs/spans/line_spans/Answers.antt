use Rattle.asm_lex.proofs.Texts.{behind-inside, in_order-within}
use Rattle.std.proofs.Common.{◌∙◌, ap, arith, length}
use Rattle.std.specs.Prelude.{map}
use Rattle.asm_lex.specs.Parts.{operands_in}
use Rattle.asm_lex.specs.Spans.{text_at}
use Rattle.asm_lex.proofs.Places.{all_texts}
use Rattle.asm_lex.proofs.spans.line_spans.Goals as goal

pub returns-clause-operands_within : goal.returns-clause-operands_within
returns-clause-operands_within c =
    let parts = c.parts_of-parts.result in
    in_order-within c.args.line.now c.first_operands-first.result.spans.items parts.operands.from parts.operands.to c.first_operands-first.ensures.order
    (behind-inside parts.label parts.word parts.operands (length c.args.line.now) c.parts_of-parts.ensures.order)

pub returns-clause-texts : goal.returns-clause-texts
returns-clause-texts c = λ few.
    let line = c.args.line.now in
    all_texts c.first_operands-first.result.are_all (map (text_at line) c.first_operands-first.result.spans.items)
    (operands_in (text_at line c.parts_of-parts.result.operands)) c.first_operands-first.ensures.texts
    (omega (arith, few, ap (λ text. length (operands_in text)) c.parts_of-parts.ensures.operands))
    ∙ ap operands_in c.parts_of-parts.ensures.operands
