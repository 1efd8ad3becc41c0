use Rattle.rom_parts.proofs.sprite.Addresses.{covered}
use Rattle.rom_parts.proofs.sprite.Laws.{laws}
use Rattle.rom_parts.proofs.sprite.part.Goals as goal

pub returns : goal.returns
returns c = record { laws = laws; covers = covered }
