use Rattle.rom_board.proofs.Speaking.{every_time, every_time_behind}
use Rattle.rom_board.proofs.language.every_time.Goals as goal

pub returns : goal.returns
returns c = record { from_reset = every_time c.every_time.ensures.from_reset; from_any_start = every_time_behind c.every_time.ensures.from_any_start }
