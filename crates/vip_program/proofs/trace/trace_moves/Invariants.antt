use Rattle.std.proofs.Common.{◌-◌}
use Rattle.vip_program.proofs.Tracing.{Tracing}
use Rattle.vip_program.proofs.trace.trace_moves.Given as goal

abbrev pub invariant-loop-made : goal.invariant-loop-made
invariant-loop-made g l = Tracing l.origins l.count l.limit l.fn.board l.board (g.O.Sink.meaning l.fn.out) (g.O.Sink.meaning l.out) l.made

abbrev pub decreases-loop-made : goal.decreases-loop-made
decreases-loop-made g l = l.count - l.made
