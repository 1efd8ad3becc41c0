use Rattle.rom_run.proofs.Moves.{board_moves}
use Rattle.rom_run.proofs.laws.main_rows.Goals as goal

pub returns : goal.returns
returns c = board_moves
