use Rattle.rom_board.proofs.Starts.{file_may_start}
use Rattle.rom_board.proofs.language.file_may_start.Goals as goal

pub returns : goal.returns
returns c = file_may_start
