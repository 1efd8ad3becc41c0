-- From what a part's blocks and places come to, the laws of the part.
use Rattle.std.proofs.Common.{◌≡◌, ℕ, false, List}
use Rattle.machine.specs.Instruction.{at}
use Rattle.machine.specs.Board.{Machine}
use Rattle.machine.specs.Ranges.{FitsMachine, FitsRom}
use Rattle.chip8_lang.specs.declared.view.Edition.{Edition}
use Rattle.chip8_image.specs.declared.parts.Part.{Part}
use Rattle.rom_law.specs.Rows.{Since}
use Rattle.rom_law.proofs.Kept.{RunsBlock, RunsPlace}
use Rattle.rom_rows.specs.Rom.{Stretch, program_of}
use Rattle.rom_rows.specs.Table.{Head, At, IsBefore, pieces, calm_pieces, place_data_of}
use Rattle.rom_rows.proofs.Addresses.{Follows, runs_at_in}
use Rattle.rom_rows.proofs.Calm.{comes_calm, holds_calm}
use Rattle.rom_rows.proofs.Sounds.{block_rows_in, tick_rows_in}
use Rattle.rom_parts.specs.Parts.{BlockOf, PlaceOf, block, place, rom_of, MainRows, OwnLaws, PartLaws}
use Rattle.rom_parts.proofs.Rom.{both, both_is, quick}

-- What the blocks and places of a part come to, over a ROM of each edition: before the waits of 00E0 and DXYN, and all of them. A place is
-- before them where main code runs there.
pub record Comes (p : Part) (rom : Edition → List ℕ) : Type 0 where
  pub early :
      (e : Edition) (l : BlockOf p) → IsBefore (block p l)
      → (b : Machine) (h : Since) → FitsMachine b → Head (program_of e (rom e)) (block p l) b h
      → RunsBlock (program_of e (rom e)) (calm_pieces (program_of e (rom e))) (block p l) b h
  pub any :
      (e : Edition) (l : BlockOf p) (b : Machine) (h : Since) → FitsMachine b → Head (program_of e (rom e)) (block p l) b h
      → RunsBlock (program_of e (rom e)) (pieces (program_of e (rom e))) (block p l) b h
  pub early_place :
      (e : Edition) (l : PlaceOf p) (b : Machine) (h : Since) → FitsMachine b → b.regs.idle ≡ false → At (program_of e (rom e)) (place p l) b h
      → RunsPlace (program_of e (rom e)) (calm_pieces (program_of e (rom e))) (place p l) b h
  pub any_place :
      (e : Edition) (l : PlaceOf p) (b : Machine) (h : Since) → FitsMachine b → At (program_of e (rom e)) (place p l) b h
      → RunsPlace (program_of e (rom e)) (pieces (program_of e (rom e))) (place p l) b h

-- of a part that never waits
pub calm_comes : (p : Part) (rom : Edition → List ℕ)
    → ((e : Edition) (l : BlockOf p) (b : Machine) (h : Since) → FitsMachine b → Head (program_of e (rom e)) (block p l) b h
    → RunsBlock (program_of e (rom e)) (calm_pieces (program_of e (rom e))) (block p l) b h)
    → ((e : Edition) (l : PlaceOf p) (b : Machine) (h : Since) → FitsMachine b → At (program_of e (rom e)) (place p l) b h
    → RunsPlace (program_of e (rom e)) (calm_pieces (program_of e (rom e))) (place p l) b h)
    → Comes p rom
calm_comes p rom blocks places =
    record {
      early = λ e l w. blocks e l;
      any = λ e l b h f o. comes_calm (blocks e l b h f o);
      early_place = λ e l b h f i. places e l b h f;
      any_place = λ e l b h f o. holds_calm (places e l b h f o);
    }

module _ (p : Part) (code : Edition → List Stretch) where
  -- what is left to show of a part
  pub record Lemmas : Type 0 where
    pub comes : Comes p (both code)
    pub fits : (e : Edition) → FitsRom (both code e)
    pub follows : (e : Edition) (l : BlockOf p) (b : Machine) (h : Since) → Head (quick code e) (block p l) b h → Follows (quick code e) (block p l) b
    pub place_rows : (e : Edition) (l : PlaceOf p) → MainRows (program_of e (rom_of code e)) (place p l)
    pub place_addresses :
        (e : Edition) (l : PlaceOf p) (b : Machine) (h : Since) → At (program_of e (rom_of code e)) (place p l) b h
        → at b.regs b.regs.p ≡ (place_data_of (place p l)).address
    pub own : OwnLaws p (rom_of code)

  pub part_laws : Lemmas → PartLaws p (rom_of code)
  part_laws o =
      record {
        rows = λ e l. block_rows_in e (both_is code e) (o.fits e) (block p l) (o.comes.any e l);
        place_rows = o.place_rows;
        ticks = λ e l. tick_rows_in e (both_is code e) (o.fits e) (place p l) (o.comes.any_place e l);
        addresses = λ e l. runs_at_in e (both_is code e) (o.fits e) (block p l) (o.comes.any e l) (o.follows e l);
        place_addresses = o.place_addresses;
        own = o.own;
      }
