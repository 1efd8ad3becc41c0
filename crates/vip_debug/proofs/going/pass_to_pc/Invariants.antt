use Rattle.std.proofs.Common.{length}
use Rattle.vip_debug.specs.Parts.{points_left}
use Rattle.vip_debug.proofs.Passing.{Looking}
use Rattle.vip_debug.proofs.going.pass_to_pc.Given as goal

abbrev pub invariant-loop-limit : goal.invariant-loop-limit
invariant-loop-limit l = Looking l.limit l.pc l.fn.vip l.vip

abbrev pub decreases-loop-limit : goal.decreases-loop-limit
decreases-loop-limit l = length (points_left l.vip l.limit)
