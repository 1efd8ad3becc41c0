use Rattle.rom_parts.proofs.fetch.Addresses.{covered}
use Rattle.rom_parts.proofs.fetch.Laws.{laws}
use Rattle.rom_parts.proofs.fetch.part.Goals as goal

pub returns : goal.returns
returns c = record { laws = laws; covers = covered }
