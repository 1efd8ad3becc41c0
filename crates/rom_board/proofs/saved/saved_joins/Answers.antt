use Rattle.rom_board.proofs.Joined.{saved_joins}
use Rattle.rom_board.proofs.saved.saved_joins.Goals as goal

pub returns : goal.returns
returns c = saved_joins
