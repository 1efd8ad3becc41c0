use Rattle.std.proofs.Common.{◌≡◌, ◌-◌}
use Rattle.vip_debug.specs.TargetRun.{run_from}
use Rattle.vip_debug.specs.BoardShown.{stretch, has_changed}
use Rattle.vip_debug.specs.Commands.{bytes_at}
use Rattle.vip_debug.proofs.TargetMoving.{Seeking}
use Rattle.vip_debug.proofs.moves.move_to_change.Given as goal

abbrev pub invariant-loop-limit : goal.invariant-loop-limit
invariant-loop-limit g l =
    let r = run_from (g.T.Target.ends l.fn.target) (g.T.Target.seen l.fn.target) in
    record {
      seeking : Seeking g.T.Target.seen g.T.Target.ends g.T.Target.leads l.limit (λ k. has_changed l.address l.count (bytes_at r 0) (bytes_at r k)) l.fn.target
          l.target;
      before : l.change.before.items ≡ stretch (bytes_at r 0) l.address l.count;
    }

abbrev pub decreases-loop-limit : goal.decreases-loop-limit
decreases-loop-limit g l = l.limit - (g.T.Target.seen l.target).machine.cycle
