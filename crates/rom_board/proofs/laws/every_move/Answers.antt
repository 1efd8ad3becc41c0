use Rattle.rom_board.proofs.Moves.{keeps_running, keeps_booting, keeps_time, keeps_display}
use Rattle.rom_board.proofs.laws.every_move.Goals as goal

pub returns : goal.returns
returns c = record { running = keeps_running; booting = keeps_booting; dispatch = keeps_time; display = keeps_display }
