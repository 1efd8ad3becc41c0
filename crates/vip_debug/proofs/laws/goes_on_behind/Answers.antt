use Rattle.vip_debug.proofs.Behind.{goes-on-behind}
use Rattle.vip_debug.proofs.laws.goes_on_behind.Goals as goal

pub returns : goal.returns
returns c = goes-on-behind
