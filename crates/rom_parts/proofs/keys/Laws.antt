-- The laws of EX9E, EXA1 and FX0A.
use Rattle.chip8_image.specs.declared.parts.Part.TheVariants.{Keys}
use Rattle.rom_rows.specs.Table.Place.{AtKey}
use Rattle.rom_rows.proofs.Sounds.{place_rows}
use Rattle.rom_parts.specs.Parts.{rom_of, PartLaws}
use Rattle.rom_parts.specs.keys.Code.{keys_code}
use Rattle.rom_parts.proofs.Rom.{both_is}
use Rattle.rom_parts.proofs.Parts.{part_laws}
use Rattle.rom_parts.proofs.keys.Presses.{none_stays, stays_down, goes_up}
use Rattle.rom_parts.proofs.keys.Blocks.{comes, fits, key_place, awake}
use Rattle.rom_parts.proofs.keys.Addresses.{block_follows, place_addresses}

pub laws : PartLaws Keys (rom_of keys_code)
laws =
    part_laws Keys keys_code
    (record {
      comes = comes;
      fits = fits;
      follows = block_follows;
      place_rows = λ e l. place_rows e (both_is keys_code e) (fits e) (AtKey l) (key_place e l) (awake e l);
      place_addresses = place_addresses;
      own = record { none_stays = none_stays; stays_down = stays_down; goes_up = goes_up };
    })
