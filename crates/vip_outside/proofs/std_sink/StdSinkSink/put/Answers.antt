use Rattle.std.proofs.Common.{◌<◌, length, arith, sym, ◌∙◌, refl}
use Rattle.std.proofs.lemmas.Grind.{common_steps}
use Rattle.vip_outside.specs.Count.{Rose}
use Rattle.vip_outside.proofs.StreamLemmas.{put_fails, put_whole}
use Rattle.vip_outside.proofs.std_sink.StdSinkSink.put.Goals as goal

pub returns-then-is_err-clause-answer : goal.returns-then-is_err-clause-answer
returns-then-is_err-clause-answer g c =
    let some : 0 < length c.args.piece.now = grind (arith, common_steps, c.if-is_empty.ensures) in
    let rose : Rose c.self.inside.faults c.saturating_add-self-inside.result = record {
      counted = λ room. grind (arith, common_steps, c.saturating_add-self-inside.ensures, room);
      never_falls = grind (arith, common_steps, c.saturating_add-self-inside.ensures);
    } in
    rw (← c.self.view_is) (put_fails _ _ _ _ _ _ _ _ (sym c.is_err.ensures.value ∙ c.if-is_err.true) some c.write_whole-answer.ensures rose)

pub returns-else-is_err-clause-answer : goal.returns-else-is_err-clause-answer
returns-else-is_err-clause-answer g c =
    rw (← c.self.view_is) (put_whole _ _ _ _ _ _ _ _ (sym c.is_err.ensures.value ∙ c.if-is_err.false) c.write_whole-answer.ensures refl)
