use Rattle.std.proofs.Common.{◌-◌}
use Rattle.vip_program.proofs.Picturing.{Picturing}
use Rattle.vip_program.proofs.pictures.show_pictures.Given as goal

abbrev pub invariant-loop-limit : goal.invariant-loop-limit
invariant-loop-limit g l = Picturing l.limit l.fn.board l.board (g.O.Sink.meaning l.fn.out) (g.O.Sink.meaning l.out)

abbrev pub decreases-loop-limit : goal.decreases-loop-limit
decreases-loop-limit g l = l.limit - l.board.machine.cycle
