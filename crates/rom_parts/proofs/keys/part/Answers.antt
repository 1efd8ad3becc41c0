use Rattle.rom_parts.proofs.keys.Addresses.{covered}
use Rattle.rom_parts.proofs.keys.Laws.{laws}
use Rattle.rom_parts.proofs.keys.part.Goals as goal

pub returns : goal.returns
returns c = record { laws = laws; covers = covered }
