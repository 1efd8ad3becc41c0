use Rattle.std.proofs.Common.{◌≡◌, ◌∙◌, ap}
use Rattle.vip_program.specs.Trace.{end_at, sleeps}
use Rattle.vip_debug.specs.TargetRun.{run_from}
use Rattle.vip_debug.specs.Commands.{came}
use Rattle.vip_debug.specs.BoardParts.{Arrives}
use Rattle.vip_words.specs.declared.debug_commands.Running.TheVariants.{To}
use Rattle.vip_debug.proofs.Sleeping.{stands-there}
use Rattle.vip_debug.proofs.program.run_program_to.Goals as goal

pub returns-clause-stands : goal.returns-clause-stands
returns-clause-stands c = stands-there c.args.limit c.args.board.now _ _ _ (rw c.cycles.ensures.value at c.run_program.ensures.comes)

pub returns-clause-ending : goal.returns-clause-ending
returns-clause-ending c =
    let r = run_from sleeps c.args.board.now in
    let a : Arrives c.args.limit r (came r c.args.limit (To c.args.limit)) c.run_program.new.board c.run_program.result =
    rw c.cycles.ensures.value at c.run_program.ensures.comes in
    c.ending.ensures ∙ ap end_at a.machine
