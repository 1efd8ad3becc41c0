use Rattle.rom_board.proofs.Speaking.{every_event}
use Rattle.rom_board.proofs.language.every_event.Goals as goal

pub returns : goal.returns
returns c = every_event c.every_run.ensures c.every_start.ensures c.file_may_start.ensures
