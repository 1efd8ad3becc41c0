use Rattle.vip_program.proofs.Shows.{show-traced, show-fails}
use Rattle.vip_program.proofs.trace.show_trace.Goals as goal

pub returns : goal.returns
returns g c = show-traced _ _ _ _ _ _ _ (rw c.cycles.ensures.value at c.in_ok-trace_moves.ensures) _ c.ending.ensures

pub returns-in_err-trace_moves : goal.returns-in_err-trace_moves
returns-in_err-trace_moves g c = show-fails _ _ _ _ _ _ (rw c.cycles.ensures.value at c.in_err-trace_moves.ensures) _ c.from_residual.ensures.0
