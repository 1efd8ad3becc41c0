use Rattle.std.proofs.Common.{◌+◌, ◌-◌}
use Rattle.vip_relation.proofs.Advances.{Reaches}
use Rattle.vip_relation.proofs.run.Run.advance.Given as goal

-- the board came from the entry by moves alone, within the limit
abbrev pub invariant-loop-met : goal.invariant-loop-met
invariant-loop-met l = Reaches l.limit l.fn.self l.self

-- the cycles that are left
abbrev pub decreases-loop-met : goal.decreases-loop-met
decreases-loop-met l = l.limit + 1 - l.self.board.machine.cycle
