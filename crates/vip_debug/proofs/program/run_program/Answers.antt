use Rattle.std.proofs.Common.{sym, subst}
use Rattle.vip_board.specs.Seen.{Seen}
use Rattle.vip_program.specs.Trace.{sleeps}
use Rattle.vip_debug.specs.TargetRun.{run_from}
use Rattle.vip_debug.specs.Commands.{came}
use Rattle.vip_debug.specs.BoardParts.{Arrives}
use Rattle.vip_debug.proofs.Sleeping.{program-stays}
use Rattle.vip_debug.proofs.program.run_program.Goals as goal

pub returns-clause-comes : goal.returns-clause-comes
returns-clause-comes c =
    let after = c.board-1.given.1 (program-stays _ _ _ c.go.ensures.moved) in
    subst (λ (s : Seen). let r = run_from sleeps c.args.board.now in Arrives c.args.limit r (came r c.args.limit c.args.running) s c.go.result) (sym after)
    c.go.ensures.comes
