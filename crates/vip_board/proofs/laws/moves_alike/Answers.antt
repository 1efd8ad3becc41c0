use Rattle.vip_board.proofs.Alike.{moves-alike}
use Rattle.vip_board.proofs.laws.moves_alike.Goals as goal

pub returns : goal.returns
returns c = moves-alike
