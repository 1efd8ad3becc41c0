use Rattle.rom_run.proofs.Dispatch.{dispatch_in}
use Rattle.rom_run.proofs.Parts.{rows_in, moves_in, boot_rows}
use Rattle.rom_board.proofs.laws.main_rows.Goals as goal

pub returns : goal.returns
returns c = record { rows = rows_in; moves = moves_in; boot = boot_rows; dispatch = dispatch_in }
