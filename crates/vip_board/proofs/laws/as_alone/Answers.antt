use Rattle.vip_board.proofs.Alone.{as_alone}
use Rattle.vip_board.proofs.laws.as_alone.Goals as goal

pub returns : goal.returns
returns c = as_alone
