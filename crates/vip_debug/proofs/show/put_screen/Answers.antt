use Rattle.std.proofs.Common.{◌∙◌, subst}
use Rattle.vip_outside.specs.Sink.{PutAnswers}
use Rattle.vip_text.specs.Screens.{screen_lines}
use Rattle.vip_relation.proofs.Sizes.{screen-told}
use Rattle.vip_debug.proofs.show.put_screen.Goals as goal

pub returns : goal.returns
returns g c =
    subst (λ piece. PutAnswers piece (g.O.Sink.meaning c.args.out.now) (g.O.Sink.meaning c.put.new.self) c.put.result)
    (c.as_slice.ensures.value ∙ c.screen_text.ensures ∙ screen-told screen_lines c.args.vip.now.edition _ _ c.shown.ensures.bytes c.shown.ensures.size)
    c.put.ensures.answer
