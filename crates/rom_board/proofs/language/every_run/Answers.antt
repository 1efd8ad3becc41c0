use Rattle.rom_board.proofs.Speaking.{every_run}
use Rattle.rom_board.proofs.language.every_run.Goals as goal

pub returns : goal.returns
returns c = every_run c.every_run.ensures
