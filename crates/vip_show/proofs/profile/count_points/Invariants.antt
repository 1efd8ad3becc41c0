use Rattle.std.proofs.Common.{length}
use Rattle.vip_relation.specs.State.{events_left}
use Rattle.vip_show.proofs.Profiling.{Profiling}
use Rattle.vip_show.proofs.profile.count_points.Given as goal

-- of the events met the dispatch points are counted
abbrev pub invariant-loop-profile : goal.invariant-loop-profile
invariant-loop-profile l = Profiling l.limit l.fn.run l.run l.profile

-- the events that are left
abbrev pub decreases-loop-profile : goal.decreases-loop-profile
decreases-loop-profile l = length (events_left l.run l.limit)
