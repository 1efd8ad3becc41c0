use Rattle.std.proofs.Common.{arith}
use Rattle.vip_device.proofs.Banks.{bank-of-numbers}
use Rattle.vip_device.proofs.board.numbers_of.Goals as goal

pub returns : goal.returns
returns c =
    bank-of-numbers c.loop-n.numbers c.args.cpu.now.regs.r
    (λ j h. c.loop-n.invariant.done j (omega (arith, h, c.loop-n.auto.n-end, c.loop-n-test.false)))
