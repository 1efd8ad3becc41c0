use Rattle.std.proofs.Common.{arith}
use Rattle.vip_link.proofs.Runs.{left-first, left-next, left-none}
use Rattle.vip_link.proofs.link.Link.run.Goals as goal

pub loop-move-init : goal.loop-move-init
loop-move-init c = left-first _ _ _

pub loop-move-preserved : goal.loop-move-preserved
loop-move-preserved c =
    left-next _ _ _ _ _ _ c.loop-move.invariant c.step.new.self c.next_random-x.result c.loop-move-test.true
    c.next_random-x.ensures _ c.side_by.ensures c.step.ensures.stepped

pub returns : goal.returns
returns c = left-none _ _ _ _ _ _ c.loop-move.invariant (omega arith)
