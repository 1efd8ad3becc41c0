use Rattle.std.proofs.Common.{◌∙◌, sym, ap, subst}
use Rattle.vip_program.specs.Trace.{end_at}
use Rattle.vip_debug.proofs.TargetFolding.{split-at, taken-to, all-taken}
use Rattle.vip_debug.specs.Programs.{ProgramAnswers}
use Rattle.vip_debug.proofs.Sleeping.{Ran, echo-fails, ran-more, ran-fails, program-fails}
use Rattle.vip_debug.proofs.program.run_program_commands.Goals as goal

pub returns-in_err-put_echo : goal.returns-in_err-put_echo
returns-in_err-put_echo g c =
    let items = c.as_slice-entry-items.result.now in
    subst (λ all. ProgramAnswers c.args.origins.now c.args.limit all c.args.board.now c.loop-entry.board (g.O.Sink.meaning c.args.out.now)
    (g.O.Sink.meaning c.put_echo.new.out) c.from_residual.result) c.as_slice-entry-items.ensures
    (program-fails c.args.origins.now c.args.limit items c.args.board.now c.loop-entry.board _ _ c.from_residual.result c.from_residual.ensures.0
    (echo-fails c.args.origins.now c.args.limit c.args.board.now c.loop-entry.board _ _ _ _ c.loop-entry.invariant items _ _
    (split-at items c.loop-entry.entry-index c.entry-item.result c.loop-entry-test.true c.entry-item.is) c.in_err-put_echo.ensures))

pub returns-in_err-run_command : goal.returns-in_err-run_command
returns-in_err-run_command g c =
    let items = c.as_slice-entry-items.result.now in
    let failed = rw c.command.ensures at c.in_err-run_command.ensures in
    subst (λ all. ProgramAnswers c.args.origins.now c.args.limit all c.args.board.now c.run_command.new.board (g.O.Sink.meaning c.args.out.now)
    (g.O.Sink.meaning c.run_command.new.out) c.from_residual-in_err-run_command.result) c.as_slice-entry-items.ensures
    (program-fails c.args.origins.now c.args.limit items c.args.board.now c.run_command.new.board _ _ c.from_residual-in_err-run_command.result
    c.from_residual-in_err-run_command.ensures.0
    (ran-fails c.args.origins.now c.args.limit c.args.board.now c.loop-entry.board _ _ _ _ c.loop-entry.invariant items _ _ _
    (split-at items c.loop-entry.entry-index c.entry-item.result c.loop-entry-test.true c.entry-item.is) c.in_ok-put_echo.ensures failed))

pub loop-entry-preserved : goal.loop-entry-preserved
loop-entry-preserved g c =
    let items = c.as_slice-entry-items.result.now in
    let ran = rw c.command.ensures at c.in_ok-run_command.ensures in
    subst (λ done. Ran c.args.origins.now c.args.limit c.args.board.now c.run_command.new.board done (g.O.Sink.meaning c.args.out.now)
    (g.O.Sink.meaning c.run_command.new.out))
    (sym (taken-to items c.loop-entry.entry-index c.entry-item.result c.loop-entry-test.true c.entry-item.is))
    (ran-more c.args.origins.now c.args.limit c.args.board.now c.loop-entry.board _ _ _ _ c.loop-entry.invariant c.run_command.new.board _ _
    c.in_ok-put_echo.ensures ran.0 ran.1)

pub returns : goal.returns
returns g c =
    let all = all-taken c.as_slice-entry-items.result.now c.loop-entry.entry-index c.loop-entry-test.false ∙ c.as_slice-entry-items.ensures in
    let run = subst (λ done. Ran c.args.origins.now c.args.limit c.args.board.now c.loop-entry.board done (g.O.Sink.meaning c.args.out.now)
    (g.O.Sink.meaning c.loop-entry.out)) all c.loop-entry.invariant in
    record { puts = run.puts; stands = run.stands; ending = c.ending.ensures ∙ ap end_at run.stands.machine }
