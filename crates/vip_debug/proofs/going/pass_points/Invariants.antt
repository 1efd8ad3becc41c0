use Rattle.std.proofs.Common.{◌-◌, ◌≤◌}
use Rattle.vip_debug.proofs.Passing.{PassingPoints}
use Rattle.vip_debug.proofs.going.pass_points.Given as goal

abbrev pub invariant-loop-point : goal.invariant-loop-point
invariant-loop-point l = record { passing : PassingPoints l.limit l.fn.vip l.vip (l._point - 1); few : l._point - 1 ≤ l.points - 1 }
