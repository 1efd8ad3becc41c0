-- The laws of jumps and calls, loads, skips and 8XYN.
use Rattle.chip8_image.specs.declared.parts.Part.TheVariants.{Arith}
use Rattle.rom_parts.specs.Parts.{rom_of, PartLaws}
use Rattle.rom_parts.specs.arith.Code.{arith_code}
use Rattle.rom_parts.proofs.Parts.{part_laws}
use Rattle.rom_parts.proofs.arith.Blocks.{comes, fits}
use Rattle.rom_parts.proofs.arith.Addresses.{block_follows}

pub laws : PartLaws Arith (rom_of arith_code)
laws =
    part_laws Arith arith_code
    (record {
      comes = comes;
      fits = fits;
      follows = block_follows;
      place_rows = λ e l. absurd l;
      place_addresses = λ e l. absurd l;
      own = tt;
    })
