use Rattle.std.proofs.Common.{ap, ◌∙◌}
use Rattle.std.specs.Prelude.{replicate}
use Rattle.vip_relation.specs.State.{screen_size}
use Rattle.vip_show.proofs.Fresh.{first-dark, first-shown}
use Rattle.vip_show.proofs.Saving.{told}
use Rattle.vip_show.proofs.Screens.{none-viewed, some-viewed}
use Rattle.vip_show.proofs.run.start_screen.Goals as goal

pub returns-in-Some-clause-screen : goal.returns-in-Some-clause-screen
returns-in-Some-clause-screen c = first-shown _ c.requires (told _ _ (some-viewed _ _ c.in-Some.ensures).is) _ c.copy_screen.ensures.bytes

pub returns-in_default-clause-screen : goal.returns-in_default-clause-screen
returns-in_default-clause-screen c =
    first-dark _ c.requires (none-viewed _ c.in_default.ensures) _
    (c.dark-screen.ensures.items ∙ ap (λ e. replicate (screen_size e) 0) c.edition.ensures.edition)
