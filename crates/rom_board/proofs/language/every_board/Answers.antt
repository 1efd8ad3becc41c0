use Rattle.rom_board.proofs.Speaking.{every_board}
use Rattle.rom_board.proofs.language.every_board.Goals as goal

pub returns : goal.returns
returns c = every_board c.every_run.ensures c.every_start.ensures c.file_may_start.ensures c.every_state.ensures
