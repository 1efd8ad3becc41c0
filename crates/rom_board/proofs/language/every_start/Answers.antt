use Rattle.rom_board.proofs.Speaking.{every_start}
use Rattle.rom_board.proofs.language.every_start.Goals as goal

pub returns : goal.returns
returns c = every_start c.from_any_start.ensures
