use Rattle.std.proofs.Common.{subst}
use Rattle.vip_debug.specs.Programs.{OneAnswers, comes_to}
use Rattle.vip_debug.proofs.Sleeping.{other-lines}
use Rattle.vip_debug.proofs.program.put_running.Goals as goal

pub returns-in_default : goal.returns-in_default
returns-in_default g c =
    let s = c.args.board.now in
    subst (λ lines. OneAnswers c.args.limit lines (comes_to s.rom s.script c.args.limit c.args.running) s c.put_going.new.board
    (g.O.Sink.meaning c.args.out.now) (g.O.Sink.meaning c.put_going.new.out) c.put_going.result)
    (other-lines s.rom s.script c.args.limit c.args.origins.now c.args.running c.in_default.not-Step) c.put_going.ensures
