use Rattle.std.proofs.Common.{◌-◌, min}
use Rattle.vip_debug.proofs.TargetMoving.{Until}
use Rattle.vip_debug.proofs.moves.move_to_cycle.Given as goal

abbrev pub invariant-loop-last : goal.invariant-loop-last
invariant-loop-last g l = Until g.T.Target.seen g.T.Target.ends g.T.Target.leads l.fn.limit (min l.cycle l.fn.limit) l.fn.target l.target

abbrev pub decreases-loop-last : goal.decreases-loop-last
decreases-loop-last g l = min l.cycle l.fn.limit - (g.T.Target.seen l.target).machine.cycle
