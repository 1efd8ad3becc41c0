-- The image is put together from the bytes of the six parts: each part's ROM is the image, so what is proved of the part holds of it.
use Rattle.std.proofs.Common.{◌≡◌, ℕ, refl, sym, ◌∙◌, subst, true, List}
use Rattle.machine.specs.Board.{Machine}
use Rattle.machine.specs.Ranges.{FitsMachine}
use Rattle.machine.specs.Schedule.{Tick}
use Rattle.chip8_image.specs.declared.parts.Part.{Part}
use Rattle.chip8_image.specs.declared.parts.Part.TheVariants.{Fetch, Arith, Memory, Sprite, Timer, Keys, Other}
use Rattle.chip8_lang.specs.declared.view.Edition.{Edition}
use Rattle.chip8_lang.specs.declared.view.Edition.TheVariants.{Usual, Tall}
use Rattle.rom_law.specs.Program.{code}
use Rattle.rom_law.specs.Rows.{Since, Starts, after_tick}
use Rattle.rom_law.proofs.Kept.{RunsBlock}
use Rattle.rom_rows.specs.Rom.{Stretch, image, laid, program_of}
use Rattle.rom_rows.specs.SpriteBlocks.{SpriteBlock, SpritePlace, IsWaited}
use Rattle.rom_rows.specs.Table.{Head, At, waited_pieces}
use Rattle.rom_rows.specs.Table.Block.{OfSprite}
use Rattle.rom_rows.specs.Table.Place.{AtSprite}
use Rattle.rom_rows.proofs.Bytes.{both, both_is, with_part, with_part_is}
use Rattle.rom_parts.specs.Parts.{PartLaws, rom_of}
use Rattle.rom_parts.specs.fetch.Code.{fetch_code}
use Rattle.rom_parts.specs.arith.Code.{arith_code}
use Rattle.rom_parts.specs.memory.Code.{memory_code}
use Rattle.rom_parts.specs.sprite.Code.{sprite_code}
use Rattle.rom_parts.specs.timer.Code.{timer_code}
use Rattle.rom_parts.specs.keys.Code.{keys_code}
use Rattle.rom_parts.proofs.Parts.{Comes}
use Rattle.rom_parts.proofs.fetch.Blocks.{comes as fetch_comes}
use Rattle.rom_parts.proofs.fetch.Laws.{laws as fetch_laws}
use Rattle.rom_parts.proofs.arith.Blocks.{comes as arith_comes}
use Rattle.rom_parts.proofs.arith.Laws.{laws as arith_laws}
use Rattle.rom_parts.proofs.memory.Blocks.{comes as memory_comes}
use Rattle.rom_parts.proofs.memory.Laws.{laws as memory_laws}
use Rattle.rom_parts.proofs.sprite.Blocks.{comes as sprite_comes, sprite_waited as waited, sprite_wakes as wakes}
use Rattle.rom_parts.proofs.sprite.Laws.{laws as sprite_laws}
use Rattle.rom_parts.proofs.timer.Blocks.{comes as timer_comes}
use Rattle.rom_parts.proofs.timer.Laws.{laws as timer_laws}
use Rattle.rom_parts.proofs.keys.Blocks.{comes as keys_comes}
use Rattle.rom_parts.proofs.keys.Laws.{laws as keys_laws}

-- ---- what is proved of each part, of the image

-- its laws; and what its blocks and places come to, of the image as one list for both editions
pub record OfImage (p : Part) : Type 0 where
  pub laws : PartLaws p image
  pub comes : Comes p both

-- where the part's bytes are those of the image, computed for each edition
module _ (code : Edition → List Stretch) (usual : laid (code Usual) (image Usual) ≡ image Usual) (tall : laid (code Tall) (image Tall) ≡ image Tall) where
  same : (e : Edition) → laid (code e) (image e) ≡ image e
  same Usual = usual
  same Tall = tall

  joined : with_part code ≡ both
  joined = λ i e. (with_part_is code e ∙ same e ∙ sym (both_is e)) i

  of_image : {p : Part} → PartLaws p (rom_of code) → Comes p (with_part code) → OfImage p
  of_image {p = p} laws comes = record { laws = subst (PartLaws p) (λ i e. same e i) laws; comes = subst (Comes p) joined comes }

pub parts : (p : Part) → OfImage p
parts Fetch = of_image fetch_code refl refl fetch_laws fetch_comes
parts Arith = of_image arith_code refl refl arith_laws arith_comes
parts Memory = of_image memory_code refl refl memory_laws memory_comes
parts Sprite = of_image sprite_code refl refl sprite_laws sprite_comes
parts Timer = of_image timer_code refl refl timer_laws timer_comes
parts Keys = of_image keys_code refl refl keys_laws keys_comes
parts Other =
    record {
      laws = record {
        rows = λ e l. absurd l;
        place_rows = λ e l. absurd l;
        ticks = λ e l. absurd l;
        addresses = λ e l. absurd l;
        place_addresses = λ e l. absurd l;
        own = tt;
      };
      comes = record { early = λ e l. absurd l; any = λ e l. absurd l; early_place = λ e l. absurd l; any_place = λ e l. absurd l };
    }

-- ---- behind the waits of 00E0 and DXYN

abbrev WaitedComes : (Edition → List ℕ) → Type 0
WaitedComes rom =
    (e : Edition) (l : SpriteBlock) (w : IsWaited l) (b : Machine) (h : Since) → FitsMachine b → Head (program_of e (rom e)) (OfSprite l) b h
    → RunsBlock (program_of e (rom e)) (waited_pieces (program_of e (rom e))) (l, w) b h

pub sprite_waited : WaitedComes both
sprite_waited = subst WaitedComes (joined sprite_code refl refl) waited

abbrev WakesThere : (Edition → List ℕ) → Type 0
WakesThere rom =
    (e : Edition) (l : SpritePlace) (b : Machine) (h : Since) → FitsMachine b → b.regs.idle ≡ true → At (program_of e (rom e)) (AtSprite l) b h
    → (c : Machine) → Tick (code (program_of e (rom e))).low b c → Starts (waited_pieces (program_of e (rom e))) c (after_tick h)

pub sprite_wakes : WakesThere both
sprite_wakes = subst WakesThere (joined sprite_code refl refl) wakes
