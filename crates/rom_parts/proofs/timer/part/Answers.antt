use Rattle.rom_parts.proofs.timer.Addresses.{covered}
use Rattle.rom_parts.proofs.timer.Laws.{laws}
use Rattle.rom_parts.proofs.timer.part.Goals as goal

pub returns : goal.returns
returns c = record { laws = laws; covers = covered }
