-- The laws of CXKK, FX07, FX15, FX18 and the interrupt routine.
use Rattle.chip8_image.specs.declared.parts.Part.TheVariants.{Timer}
use Rattle.rom_rows.specs.Table.Place.{AtTimer}
use Rattle.rom_rows.proofs.Sounds.{place_rows}
use Rattle.rom_parts.specs.Parts.{rom_of, PartLaws}
use Rattle.rom_parts.specs.timer.Code.{timer_code}
use Rattle.rom_parts.proofs.Rom.{both_is}
use Rattle.rom_parts.proofs.Parts.{part_laws}
use Rattle.rom_parts.proofs.timer.Tick.{run_tick}
use Rattle.rom_parts.proofs.timer.Scan.{run_scan}
use Rattle.rom_parts.proofs.timer.Picture.{run_picture}
use Rattle.rom_parts.proofs.timer.Blocks.{comes, fits, timer_place, awake}
use Rattle.rom_parts.proofs.timer.Addresses.{block_follows, place_addresses}

pub laws : PartLaws Timer (rom_of timer_code)
laws =
    part_laws Timer timer_code
    (record {
      comes = comes;
      fits = fits;
      follows = block_follows;
      place_rows = λ e l. place_rows e (both_is timer_code e) (fits e) (AtTimer l) (timer_place e l) (awake e l);
      place_addresses = place_addresses;
      own = record { tick = run_tick; scan = run_scan; picture = run_picture };
    })
