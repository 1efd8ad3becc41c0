use Rattle.std.proofs.Common.{arith}
use Rattle.chip8_words.proofs.OpTexts.{has_room}
use Rattle.chip8_words.proofs.words.put_op.Goals as goal

pub put-requires-in-loop-operand : goal.put-requires-in-loop-operand
put-requires-in-loop-operand c =
    let loop = c.loop-operand in
    let operands = c.operands-operand-items.result.now in
    let room = has_room c.args.op.now loop.into.items loop.lead.now operands loop.operand-index c.loop-operand-test.true loop.invariant in
    omega (arith, room)

pub put_operand-requires-clause-room : goal.put_operand-requires-clause-room
put_operand-requires-clause-room c =
    let loop = c.loop-operand in
    let operands = c.operands-operand-items.result.now in
    let room = has_room c.args.op.now loop.into.items loop.lead.now operands loop.operand-index c.loop-operand-test.true loop.invariant in
    omega (arith, room, c.put-in-loop-operand.ensures.len)
