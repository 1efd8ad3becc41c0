use Rattle.vip_show.proofs.Saving.{first-file, first-none, told}
use Rattle.vip_show.proofs.Screens.{some-viewed, none-viewed}
use Rattle.vip_show.proofs.output.keep_first.Goals as goal

pub returns-in-Some : goal.returns-in-Some
returns-in-Some c =
    first-file _ c.requires.fresh (told _ _ (some-viewed _ _ c.in-Some.ensures).is) _ c.write_run.ensures

pub returns-in_default : goal.returns-in_default
returns-in_default c = first-none _ c.requires.fresh (none-viewed _ c.in_default.ensures) _ c.requires.empty
