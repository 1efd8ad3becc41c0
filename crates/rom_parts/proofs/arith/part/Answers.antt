use Rattle.rom_parts.proofs.arith.Addresses.{covered}
use Rattle.rom_parts.proofs.arith.Laws.{laws}
use Rattle.rom_parts.proofs.arith.part.Goals as goal

pub returns : goal.returns
returns c = record { laws = laws; covers = covered }
