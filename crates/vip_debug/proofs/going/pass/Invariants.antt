use Rattle.std.proofs.Common.{length}
use Rattle.vip_relation.specs.State.{events_left}
use Rattle.vip_debug.proofs.Passing.{Passing}
use Rattle.vip_debug.proofs.going.pass.Given as goal

abbrev pub invariant-loop : goal.invariant-loop
invariant-loop l = Passing l.limit l.fn.vip l.vip

abbrev pub decreases-loop : goal.decreases-loop
decreases-loop l = length (events_left l.vip l.limit)
