use Rattle.rom_board.proofs.TickRun.{takes_tick, makes_tick, scans_screen}
use Rattle.rom_board.proofs.laws.every_tick.Goals as goal

pub returns : goal.returns
returns c = record { takes = takes_tick; makes = makes_tick; scans = scans_screen }
