-- The laws of I and of game memory.
use Rattle.chip8_image.specs.declared.parts.Part.TheVariants.{Memory}
use Rattle.rom_parts.specs.Parts.{rom_of, PartLaws}
use Rattle.rom_parts.specs.memory.Code.{memory_code}
use Rattle.rom_parts.proofs.Parts.{part_laws}
use Rattle.rom_parts.proofs.memory.Blocks.{comes, fits}
use Rattle.rom_parts.proofs.memory.Addresses.{block_follows}

pub laws : PartLaws Memory (rom_of memory_code)
laws =
    part_laws Memory memory_code
    (record {
      comes = comes;
      fits = fits;
      follows = block_follows;
      place_rows = λ e l. absurd l;
      place_addresses = λ e l. absurd l;
      own = tt;
    })
