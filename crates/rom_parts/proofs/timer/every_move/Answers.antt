use Rattle.rom_parts.proofs.timer.Frame.{every_move}
use Rattle.rom_parts.proofs.timer.every_move.Goals as goal

pub returns : goal.returns
returns c = every_move
