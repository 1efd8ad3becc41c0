-- The laws of 00E0 and DXYN.
use Rattle.chip8_image.specs.declared.parts.Part.TheVariants.{Sprite}
use Rattle.rom_rows.specs.Table.Place.{AtSprite}
use Rattle.rom_rows.proofs.Sounds.{awake_rows_in}
use Rattle.rom_parts.specs.Parts.{rom_of, PartLaws}
use Rattle.rom_parts.specs.sprite.Code.{sprite_code}
use Rattle.rom_parts.proofs.Rom.{both_is}
use Rattle.rom_parts.proofs.Parts.{part_laws}
use Rattle.rom_parts.proofs.sprite.Blocks.{comes, sprite_place}
use Rattle.rom_parts.proofs.sprite.Paint.{fits}
use Rattle.rom_parts.proofs.sprite.Addresses.{block_follows, place_addresses}

pub laws : PartLaws Sprite (rom_of sprite_code)
laws =
    part_laws Sprite sprite_code
    (record {
      comes = comes;
      fits = fits;
      follows = block_follows;
      place_rows = λ e l. awake_rows_in e (both_is sprite_code e) (fits e) (AtSprite l) (sprite_place e l);
      place_addresses = place_addresses;
      own = tt;
    })
