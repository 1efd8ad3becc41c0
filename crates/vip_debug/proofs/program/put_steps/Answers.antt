use Rattle.std.proofs.Common.{[], subst}
use Rattle.std.specs.Prelude.{◌==◌}
use Rattle.vip_outside.specs.Pieces.{StreamAnswers}
use Rattle.vip_program.specs.Trace.{TraceFails, Traces}
use Rattle.vip_debug.specs.Programs.{ended_lines}
use Rattle.vip_debug.proofs.Sleeping.{steps-fail, steps-done}
use Rattle.vip_debug.proofs.program.put_steps.Goals as goal

pub returns-in_err-made : goal.returns-in_err-made
returns-in_err-made g c =
    steps-fail c.args.origins.now c.args.limit c.args.count c.args.board.now _ _ _ _ c.from_residual.ensures.0
    (subst (λ n. TraceFails c.args.origins.now n c.args.limit c.args.board.now c.trace_moves.new.board (g.O.Sink.meaning c.args.out.now) (g.O.Sink.meaning c.trace_moves.new.out))
    c.from.ensures c.in_err-made.ensures)

pub returns : goal.returns
returns g c =
    let made = c.in_ok-made.made in
    steps-done c.args.origins.now c.args.limit c.args.count c.args.board.now c.trace_moves.new.board _ _ _ made _ c.requires.boundary c.requires.within
    (subst (λ n. Traces c.args.origins.now n c.args.limit c.args.board.now c.trace_moves.new.board (g.O.Sink.meaning c.args.out.now) (g.O.Sink.meaning c.trace_moves.new.out)
    made) c.from.ensures c.in_ok-made.ensures)
    (subst (λ n. StreamAnswers (ended_lines c.trace_moves.new.board.machine (made == n) []) (g.O.Sink.meaning c.trace_moves.new.out)
    (g.O.Sink.meaning c.put_end.new.out) c.put_end.result) c.from-2.ensures c.put_end.ensures)
