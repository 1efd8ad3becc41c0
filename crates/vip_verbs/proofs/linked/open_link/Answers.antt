use Rattle.vip_verbs.proofs.LinkLemmas.{joined-of, link-comes}
use Rattle.vip_verbs.proofs.linked.open_link.Goals as goal

pub returns-in-Ok : goal.returns-in-Ok
returns-in-Ok c =
    (joined-of _ _ c.in-Ok.ensures.1 c.in-Ok.ensures.0, link-comes c.args.message.now c.args.moves c.args.number _ c.in-Ok.ensures.1 c.sources_give_roms.ensures)
