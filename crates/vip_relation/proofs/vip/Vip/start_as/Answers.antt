use Rattle.std.proofs.Common.{◌∙◌, sym, subst}
use Rattle.vip_relation.specs.Follows.{Follows}
use Rattle.vip_relation.specs.State.{VipState}
use Rattle.vip_relation.proofs.vip.Vip.start_as.Goals as goal

pub returns-clause-answer : goal.returns-clause-answer
returns-clause-answer c = (c.in_ok-start_as.ensures.answer.0, c.of.ensures ∙ c.in_ok-start_as.ensures.answer.1)

pub returns-clause-follows : goal.returns-clause-follows
returns-clause-follows c =
    let F : VipState → Type 0 = λ v. Follows v in
    subst F (sym c.of.ensures) c.in_ok-start_as.ensures.follows
