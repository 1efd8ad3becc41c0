use Rattle.std.proofs.Common.{subst, ◌∙◌}
use Rattle.vip_outside.specs.Sink.{PutAnswers}
use Rattle.vip_debug.proofs.program.put_idle.Goals as goal

pub returns : goal.returns
returns g c =
    subst (λ piece. PutAnswers piece (g.O.Sink.meaning c.args.out.now) (g.O.Sink.meaning c.put.new.self) c.put.result)
    (c.as_slice.ensures.value ∙ c.idle_text.ensures)
    c.put.ensures.answer
