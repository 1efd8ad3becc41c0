use Rattle.std.proofs.Common.{take}
use Rattle.vip_debug.proofs.Folding.{Debugs}
use Rattle.vip_debug.proofs.run.run_commands.Given as goal

abbrev pub invariant-loop-entry : goal.invariant-loop-entry
invariant-loop-entry g l =
    Debugs l.looks l.limit l.fn.vip l.vip (take l.entry-index l.entry-items) (g.O.Sink.meaning l.fn.out) (g.O.Sink.meaning l.out)
