-- The ROM of each edition is proved: at a dispatch the fetch begins, and each block and each place comes to what it should.
use Rattle.std.proofs.Common.{◌≡◌, false, refl, subst}
use Rattle.machine.specs.Board.{Machine}
use Rattle.machine.specs.Ranges.{FitsMachine}
use Rattle.chip8_image.specs.declared.parts.Part.TheVariants.{Fetch as IsFetch, Arith as IsArith, Memory as IsMemory, Sprite as IsSprite, Timer as IsTimer, Keys as IsKeys}
use Rattle.chip8_lang.specs.declared.view.Edition.{Edition}
use Rattle.rom_law.specs.Rows.{Since}
use Rattle.rom_law.specs.Rows.Starts.{Enters}
use Rattle.rom_law.proofs.Kept.{Proved, RunsBlock, RunsPlace}
use Rattle.rom_law.proofs.Places.{holding}
use Rattle.rom_law.proofs.Schedules.{every_schedule}
use Rattle.rom_rows.specs.FetchBlocks.FetchBlock.{Fetch}
use Rattle.rom_rows.specs.Rom.{vip, program_of}
use Rattle.rom_rows.specs.Table.{Block, Place, Head, At, pieces, calm_pieces, IsBefore}
use Rattle.rom_rows.specs.Table.Block.{OfFetch, OfArith, OfMemory, OfSprite, OfTimer, OfKey}
use Rattle.rom_rows.specs.Table.Place.{AtTimer, AtKey, AtSprite}
use Rattle.rom_rows.proofs.Bytes.{both_is, both_fits, quick}
use Rattle.rom_run.proofs.Image.{parts}
use Rattle.rom_run.specs.Laws.{AnySchedule}

-- ---- the blocks and places before a wait

pub calm_block : (e : Edition) (l : Block) → IsBefore l → (b : Machine) (h : Since) → FitsMachine b → Head (quick e) l b h
    → RunsBlock (quick e) (calm_pieces (quick e)) l b h
calm_block e (OfFetch l) = (parts IsFetch).comes.early e l
calm_block e (OfArith l) = (parts IsArith).comes.early e l
calm_block e (OfMemory l) = (parts IsMemory).comes.early e l
calm_block e (OfSprite l) = (parts IsSprite).comes.early e l
calm_block e (OfTimer l) = (parts IsTimer).comes.early e l
calm_block e (OfKey l) = (parts IsKeys).comes.early e l

-- where main code runs
pub calm_place : (e : Edition) (l : Place) (b : Machine) (h : Since) → FitsMachine b → b.regs.idle ≡ false → At (quick e) l b h
    → RunsPlace (quick e) (calm_pieces (quick e)) l b h
calm_place e (AtTimer l) = (parts IsTimer).comes.early_place e l
calm_place e (AtKey l) = (parts IsKeys).comes.early_place e l
calm_place e (AtSprite l) = (parts IsSprite).comes.early_place e l

-- ---- all of them

pub block : (e : Edition) (l : Block) (b : Machine) (h : Since) → FitsMachine b → Head (quick e) l b h → RunsBlock (quick e) (pieces (quick e)) l b h
block e (OfFetch l) = (parts IsFetch).comes.any e l
block e (OfArith l) = (parts IsArith).comes.any e l
block e (OfMemory l) = (parts IsMemory).comes.any e l
block e (OfSprite l) = (parts IsSprite).comes.any e l
block e (OfTimer l) = (parts IsTimer).comes.any e l
block e (OfKey l) = (parts IsKeys).comes.any e l

place : (e : Edition) (l : Place) (b : Machine) (h : Since) → FitsMachine b → At (quick e) l b h → RunsPlace (quick e) (pieces (quick e)) l b h
place e (AtTimer l) = (parts IsTimer).comes.any_place e l
place e (AtKey l) = (parts IsKeys).comes.any_place e l
place e (AtSprite l) = (parts IsSprite).comes.any_place e l

pub proved_quick : (e : Edition) → Proved (quick e) (pieces (quick e))
proved_quick e =
    record {
      fetch = λ cycle b s f d. Enters (OfFetch Fetch) (record { holds = holding (quick e) b s f.size d.keeps; p = d.p; r4 = d.r4 }, refl);
      rom = both_fits e;
      blocks = block e;
      places = place e;
    }

pub proved : (e : Edition) → Proved (vip e) (pieces (vip e))
proved e = subst (λ rom. Proved (program_of e rom) (pieces (program_of e rom))) (both_is e) (proved_quick e)

pub any_schedule : AnySchedule
any_schedule e = every_schedule (vip e) (pieces (vip e)) (proved e)
