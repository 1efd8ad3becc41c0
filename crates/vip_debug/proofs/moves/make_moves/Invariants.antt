use Rattle.std.proofs.Common.{◌-◌, ◌≤◌}
use Rattle.vip_debug.proofs.TargetMoving.{Stepping}
use Rattle.vip_debug.proofs.moves.make_moves.Given as goal

-- all but those that are left are made
abbrev pub invariant-loop-left : goal.invariant-loop-left
invariant-loop-left g l = record {
  stepping : Stepping g.T.Target.seen g.T.Target.ends g.T.Target.leads l.limit l.fn.target l.target (l.moves - l.left);
  few : l.left ≤ l.moves;
}

abbrev pub decreases-loop-left : goal.decreases-loop-left
decreases-loop-left g l = l.left
