use Rattle.vip_link.proofs.Computed.{sources_give_roms}
use Rattle.vip_link.proofs.laws.sources_give_roms.Goals as goal

pub returns : goal.returns
returns c = sources_give_roms
