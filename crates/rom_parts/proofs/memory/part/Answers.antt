use Rattle.rom_parts.proofs.memory.Addresses.{covered}
use Rattle.rom_parts.proofs.memory.Laws.{laws}
use Rattle.rom_parts.proofs.memory.part.Goals as goal

pub returns : goal.returns
returns c = record { laws = laws; covers = covered }
