use Rattle.rom_board.proofs.Again.{writes_the_same}
use Rattle.rom_board.proofs.saved.writes_the_same.Goals as goal

pub returns : goal.returns
returns c = writes_the_same
