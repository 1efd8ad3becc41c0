use Rattle.std.proofs.Common.{ap, [], ◌∷◌}
use Rattle.vip_tools.specs.Outcome.{Shown}
use Rattle.vip_tools.specs.declared.status.Status.TheVariants.{Done}
use Rattle.vip_verbs.proofs.preparing.write.Goals as goal

pub returns : goal.returns
returns c = ap (λ text. Shown (text ∷ []) Done []) c.in_ok-copy.ensures.items
