use Rattle.std.proofs.Common.{◌-◌}
use Rattle.vip_debug.specs.TargetRun.{run_from, state_of}
use Rattle.vip_debug.specs.Commands.{starts_at}
use Rattle.vip_debug.proofs.TargetMoving.{Seeking}
use Rattle.vip_debug.proofs.moves.move_to_address.Given as goal

abbrev pub invariant-loop-limit : goal.invariant-loop-limit
invariant-loop-limit g l =
    Seeking g.T.Target.seen g.T.Target.ends g.T.Target.leads l.limit
    (λ k. starts_at l.address (state_of (run_from (g.T.Target.ends l.fn.target) (g.T.Target.seen l.fn.target)) k)) l.fn.target l.target

abbrev pub decreases-loop-limit : goal.decreases-loop-limit
decreases-loop-limit g l = l.limit - (g.T.Target.seen l.target).machine.cycle
