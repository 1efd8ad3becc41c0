use Rattle.rom_board.proofs.Speaking.{every_answer}
use Rattle.rom_board.proofs.language.every_answer.Goals as goal

pub returns : goal.returns
returns c = every_answer c.every_event.ensures
