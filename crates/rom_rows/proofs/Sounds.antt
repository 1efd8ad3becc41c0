-- The table is such that each group can be proved apart: each block has an instruction, and what is known at a place outlasts ticks. So a
-- block's rows are kept by main moves where the block comes to what it should.
use Rattle.std.proofs.Common.{◌≡◌, ℕ, ◌<◌, refl, arith, subst, sym, ap, ◌%◌, ◌∙◌, true, false, List, Bool}
use Rattle.machine.specs.Board.{Machine}
use Rattle.machine.specs.Ranges.{FitsMachine, FitsRom}
use Rattle.chip8_lang.specs.declared.view.Edition.{Edition}
use Rattle.chip8_lang.specs.Ticks.{ticks}
use Rattle.rom_law.specs.Later.{After}
use Rattle.chip8_image.specs.declared.image.labels.TheConstants.{AT_DRAW_WAIT}
use Rattle.chip8_lang.specs.State.{Lang}
use Rattle.rom_law.specs.Program.{Program, code}
use Rattle.rom_law.specs.Rows.{Since, now, after_ticks}
use Rattle.rom_law.proofs.Language.{ticks_add}
use Rattle.rom_law.proofs.Kept.{RunsBlock, RunsPlace, Sound, block_moves, place_moves, place_ticks}
use Rattle.rom_rows.specs.Rom.{program_of}
use Rattle.rom_rows.specs.Heads.{Time, Within}
use Rattle.rom_rows.specs.Heads.Time.{Exactly, Left, Waited, Met, Seen, Searching, Looking, Freed}
use Rattle.rom_rows.specs.SpriteBlocks.SpritePlace.{ClearWait, ClearIdle, DrawWait, DrawIdle}
use Rattle.rom_rows.specs.TimerBlocks.TimerPlace.{RandomCount, GetDelay, SetDelayPut, SetSoundPut}
use Rattle.rom_rows.specs.KeyBlocks.{Last}
use Rattle.rom_rows.specs.KeyBlocks.KeyPlace.{SkipTest, KeyTest, KeyHeld}
use Rattle.rom_rows.specs.Table.{Block, Place as AnyPlace, place_data_of, Head, At, moves, pieces, calm_pieces, BlockRows, PlaceRows, AwakeRows, TickRows}
use Rattle.rom_rows.specs.Table.Place.{AtTimer, AtKey, AtSprite}
use Rattle.rom_rows.proofs.Calm.{comes_calm, holds_calm}
use Rattle.rom_rows.proofs.Later.{enters_later, ticks_low, loaded_later, mixes_later, place_time_later, skip_key_later, skipping_later, waiting_later, turning_later, latched_later, counted_later, clearing_later, painting_later}

pub some : (l : Block) → 0 < moves l
some l = omega arith

-- ticks take no main cycles
-- but for what is said of all ticks so far
abbrev outlasts : Time → Bool
outlasts (Met n k) = false
outlasts _ = true

spoilt : false ≡ true → ⊥
spoilt l = cc

within_later : (t : Time) (h : Since) (n : ℕ) → outlasts t ≡ true → Within t h → Within t (after_ticks n h)
within_later (Exactly m) h n l w = w
within_later (Left m k) h n l w = w
within_later (Waited m) h n l w = (w.0, omega (arith, w.1))
within_later (Met m k) h n l w = absurd (spoilt l)
within_later (Seen m k key down) h n l w = w
within_later (Searching m turns) h n l w = w
within_later (Looking turn looks) h n l w = w
within_later (Freed turn looks) h n l w = w

place_outlasts : (l : AnyPlace) (x : Program) (s : Lang) → outlasts ((place_data_of l).time x s) ≡ true
place_outlasts (AtTimer RandomCount) x s = refl
place_outlasts (AtTimer GetDelay) x s = refl
place_outlasts (AtTimer SetDelayPut) x s = refl
place_outlasts (AtTimer SetSoundPut) x s = refl
place_outlasts (AtKey (SkipTest down)) x s = refl
place_outlasts (AtKey (KeyTest turn)) x s = refl
place_outlasts (AtKey (KeyHeld turn looks)) x s = refl
place_outlasts (AtSprite ClearWait) x s = refl
place_outlasts (AtSprite ClearIdle) x s = refl
place_outlasts (AtSprite DrawWait) x s = refl
place_outlasts (AtSprite DrawIdle) x s = refl

module _ (e : Edition) (rom : List ℕ) where
  abbrev x : Program
  x = program_of e rom

  asleep : true ≡ false → ⊥
  asleep r = cc

  module _ {b c : Machine} (h : Since) (f : FitsMachine b) (i : b.regs.idle ≡ false) (n : ℕ) (k : After (code x).low n b c) where
    known_later : (l : AnyPlace) → (place_data_of l).at x b (now h) h.keys → (place_data_of l).at x c (ticks n (now h)) h.keys
    known_later (AtTimer RandomCount) p = (enters_later x n k f (now h) _ _ p.0, mixes_later x n k f (now h) p.1)
    known_later (AtTimer GetDelay) p = (enters_later x n k f (now h) _ _ p.0, ticks_low n (now h) ∙ p.1)
    known_later (AtTimer SetDelayPut) p = (enters_later x n k f (now h) _ _ p.0, ticks_low n (now h) ∙ p.1, loaded_later x n k f (now h) p.2)
    known_later (AtTimer SetSoundPut) p = (enters_later x n k f (now h) _ _ p.0, ticks_low n (now h) ∙ p.1, loaded_later x n k f (now h) p.2)
    known_later (AtKey (SkipTest down)) p =
        (skipping_later x n k f (now h) down _ p.0, latched_later x n k f (now h) ∙ p.1 ∙ sym (skip_key_later n (now h)))
    known_later (AtKey (KeyTest turn)) p = (turning_later x n k f (now h) turn _ p.0, latched_later x n k f (now h) ∙ p.1, p.2)
    known_later (AtKey (KeyHeld turn looks)) p = (
      waiting_later x n k f (now h) _ p.0,
      latched_later x n k f (now h) ∙ p.1 ∙ ap (λ y. y % 16) (sym (counted_later x n k f (now h))),
      subst (λ y. Last h.keys (y % 16) true) (sym (counted_later x n k f (now h))) p.2,
      ap (λ y. y % 16) (counted_later x n k f (now h)) ∙ p.3,
    )
    known_later (AtSprite ClearWait) p = clearing_later x n k f (now h) _ _ p
    known_later (AtSprite ClearIdle) p = absurd (asleep (sym p.1 ∙ i))
    known_later (AtSprite DrawWait) p = painting_later x n k f (now h) AT_DRAW_WAIT p
    known_later (AtSprite DrawIdle) p = absurd (asleep (sym p.1 ∙ i))

  pub later : (l : AnyPlace) (b : Machine) (h : Since) → FitsMachine b → At x l b h → b.regs.idle ≡ false → (n : ℕ) (c : Machine)
      → After (code x).low n b c → At x l c (after_ticks n h)
  later l b h f o i n c k =
      subst (λ s. (place_data_of l).at x c s h.keys × Within ((place_data_of l).time x s) (after_ticks n h)) (ticks_add n h.ticks h.state) (
        known_later h f i n k l o.0,
        subst (λ t. Within t (after_ticks n h)) (sym (place_time_later x n l (now h)))
            (within_later ((place_data_of l).time x (now h)) h n (place_outlasts l x (now h)) o.1),
      )

module _ (e : Edition) {rom last : List ℕ} (is : rom ≡ last) (fits : FitsRom rom) where
  pub sound : Sound (program_of e rom) (pieces (program_of e rom))
  sound = record { rom = fits; some = λ l b h f head. some l; later = later e rom }

  pub calm_sound : Sound (program_of e rom) (calm_pieces (program_of e rom))
  calm_sound = record { rom = fits; some = λ l b h f head. some l; later = later e rom }

  -- the rows of a block, where each machine at its head comes to what it should
  pub block_rows_in : (l : Block)
      → ((b : Machine) (h : Since) → FitsMachine b → Head (program_of e rom) l b h → RunsBlock (program_of e rom) (pieces (program_of e rom)) l b h)
      → BlockRows (program_of e last) l
  block_rows_in l comes =
      subst (λ rom. BlockRows (program_of e rom) l) is
      (λ u b h r. block_moves (program_of e rom) (pieces (program_of e rom)) sound r (comes r.start r.since r.fits r.head) u)

  -- the rows of a place, where each machine at it comes to what it should
  pub place_rows_in : (l : AnyPlace)
      → ((b : Machine) (h : Since) → FitsMachine b → At (program_of e rom) l b h → RunsPlace (program_of e rom) (pieces (program_of e rom)) l b h)
      → ((b : Machine) (h : Since) → At (program_of e rom) l b h → b.regs.idle ≡ false) → PlaceRows (program_of e last) l
  place_rows_in l holds awake =
      subst (λ rom. PlaceRows (program_of e rom) l) is
      (λ u b h f at. place_moves (program_of e rom) (pieces (program_of e rom)) sound l b h f (holds b h f at) (awake b h at) u)

  -- the rows of a place, where each machine at it comes to what it should
  pub awake_rows_in : (l : AnyPlace)
      → ((b : Machine) (h : Since) → FitsMachine b → At (program_of e rom) l b h → RunsPlace (program_of e rom) (pieces (program_of e rom)) l b h)
      → AwakeRows (program_of e last) l
  awake_rows_in l holds =
      subst (λ rom. AwakeRows (program_of e rom) l) is
      (λ u b h f i at. place_moves (program_of e rom) (pieces (program_of e rom)) sound l b h f (holds b h f at) i u)

  -- and ticks there
  pub tick_rows_in : (l : AnyPlace)
      → ((b : Machine) (h : Since) → FitsMachine b → At (program_of e rom) l b h → RunsPlace (program_of e rom) (pieces (program_of e rom)) l b h)
      → TickRows (program_of e last) l
  tick_rows_in l holds =
      subst (λ rom. TickRows (program_of e rom) l) is
      (λ b c h f k at. place_ticks (program_of e rom) (pieces (program_of e rom)) sound l b c h f k at (holds b h f at))

  -- ---- of the calm pieces

  pub block_rows : (l : Block) → ((b : Machine) (h : Since) → FitsMachine b → Head (program_of e rom) l b h
      → RunsBlock (program_of e rom) (calm_pieces (program_of e rom)) l b h) → BlockRows (program_of e last) l
  block_rows l comes = block_rows_in l (λ b h f head. comes_calm (comes b h f head))

  pub place_rows : (l : AnyPlace)
      → ((b : Machine) (h : Since) → FitsMachine b → At (program_of e rom) l b h → RunsPlace (program_of e rom) (calm_pieces (program_of e rom)) l b h)
      → ((b : Machine) (h : Since) → At (program_of e rom) l b h → b.regs.idle ≡ false) → PlaceRows (program_of e last) l
  place_rows l holds awake = place_rows_in l (λ b h f at. holds_calm (holds b h f at)) awake
