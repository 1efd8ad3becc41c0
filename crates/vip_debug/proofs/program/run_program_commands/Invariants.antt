use Rattle.std.proofs.Common.{take}
use Rattle.vip_debug.proofs.Sleeping.{Ran}
use Rattle.vip_debug.proofs.program.run_program_commands.Given as goal

abbrev pub invariant-loop-entry : goal.invariant-loop-entry
invariant-loop-entry g l =
    Ran l.origins l.limit l.fn.board l.board (take l.entry-index l.entry-items) (g.O.Sink.meaning l.fn.out) (g.O.Sink.meaning l.out)
