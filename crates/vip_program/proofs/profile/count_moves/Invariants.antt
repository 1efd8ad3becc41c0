use Rattle.std.proofs.Common.{◌-◌}
use Rattle.vip_program.proofs.Instructing.{Walking}
use Rattle.vip_program.proofs.profile.count_moves.Given as goal

abbrev pub invariant-loop-limit : goal.invariant-loop-limit
invariant-loop-limit l = Walking l.limit l.fn.board l.board l.profile

abbrev pub decreases-loop-limit : goal.decreases-loop-limit
decreases-loop-limit l = l.limit - l.board.machine.cycle
