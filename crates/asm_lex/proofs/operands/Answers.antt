use Rattle.std.proofs.Common.{length}
use Rattle.asm_lex.proofs.Texts.{behind-inside, in_order-within}
use Rattle.asm_lex.proofs.operands.Goals as goal

pub returns-in-Some-clause-within : goal.returns-in-Some-clause-within
returns-in-Some-clause-within c =
    let parts = c.parts_of.result in
    in_order-within c.args.bytes.now c.in-Some.operands.items parts.operands.from parts.operands.to c.in-Some.ensures.order
    (behind-inside parts.label parts.word parts.operands (length c.args.bytes.now) c.parts_of.ensures.order)
