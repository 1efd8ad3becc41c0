use Rattle.chip8_source.proofs.Computed.{source_gives_rom}
use Rattle.chip8_source.proofs.laws.source_gives_rom.Goals as goal

pub returns : goal.returns
returns c = source_gives_rom
