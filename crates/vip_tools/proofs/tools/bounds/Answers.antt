use Rattle.std.proofs.Common.{◌∙◌, ap, [], ◌∷◌}
use Rattle.vip_tools.specs.declared.status.Status.TheVariants.{Done}
use Rattle.vip_tools.specs.Outcome.{Shown}
use Rattle.vip_tools.proofs.tools.bounds.Goals as goal

pub returns : goal.returns
returns c = ap (λ text. Shown (text ∷ []) Done []) (c.in_ok-text.ensures.items ∙ c.as_slice.ensures.value ∙ c.bounds_text.ensures)
