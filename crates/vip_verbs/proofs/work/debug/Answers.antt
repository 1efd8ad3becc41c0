use Rattle.vip_verbs.proofs.WorkLemmas.{begun-of, debug-performs}
use Rattle.vip_verbs.proofs.work.debug.Goals as goal

pub of-vip-requires : goal.of-vip-requires
of-vip-requires g c = begun-of _ c.requires

pub returns : goal.returns
returns g c = debug-performs _ _ _ _ _ _ _ c.requires _ _ (rw c.of-vip.ensures at c.run_commands.ensures.answer) c.end_of_commands.ensures
