-- The laws of the fetch.
use Rattle.chip8_image.specs.declared.parts.Part.TheVariants.{Fetch}
use Rattle.rom_parts.specs.Parts.{rom_of, PartLaws}
use Rattle.rom_parts.specs.fetch.Code.{fetch_code}
use Rattle.rom_parts.proofs.Parts.{part_laws}
use Rattle.rom_parts.proofs.fetch.Boot.{every_boot}
use Rattle.rom_parts.proofs.fetch.Time.{dispatch_time}
use Rattle.rom_parts.proofs.fetch.Blocks.{comes, fits}
use Rattle.rom_parts.proofs.fetch.Addresses.{block_follows}

pub laws : PartLaws Fetch (rom_of fetch_code)
laws =
    part_laws Fetch fetch_code
    (record {
      comes = comes;
      fits = fits;
      follows = block_follows;
      place_rows = λ e l. absurd l;
      place_addresses = λ e l. absurd l;
      own = record { dispatch = dispatch_time; boot = every_boot };
    })
