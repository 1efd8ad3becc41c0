-- Before a wait for the display main code stays before it, also under ticks, and leaves the screen as it was at the dispatch point.
use Rattle.std.proofs.Common.{Bool, ◌≡◌, ℕ, zero, suc, ◌+◌, ◌*◌, ◌<◌, ◌≤◌, refl, sym, ◌∙◌, ap, subst, arith, true, false, slice_index, length, Some, None}
use Rattle.machine.specs.Bank.{value, word_of}
use Rattle.machine.specs.Board.{Machine, opcode_of}
use Rattle.machine.specs.Instruction.{Regs, Inputs, stepped, executed}
use Rattle.machine.specs.Ranges.{FitsMachine}
use Rattle.machine.specs.Schedule.{Tick}
use Rattle.chip8_image.specs.declared.image.labels.TheConstants.{AT_CLEAR_WAIT, AT_DRAW_WAIT, AT_KEY_TEST, AT_KEY_HELD, AT_RANDOM_COUNT, AT_GET_DELAY, AT_SET_DELAY_PUT, AT_SET_SOUND_PUT}
use Rattle.chip8_lang.specs.declared.view.Edition.{Edition}
use Rattle.chip8_lang.specs.Editions.{stack_top, screen_start, rows_of}
use Rattle.chip8_lang.specs.Places.{state_of, pixels}
use Rattle.chip8_lang.specs.State.{Lang}
use Rattle.chip8_lang.specs.Ticks.{ticks}
use Rattle.rom_law.specs.Code.{Input, moved}
use Rattle.rom_law.proofs.Moves.{in_rom, opcode_in, opcode_is, quick_by, quick_by_is, flags_in}
use Rattle.rom_law.proofs.Ticks.{after_none}
use Rattle.rom_law.specs.Program.{code, Dispatches}
use Rattle.rom_law.specs.Rows.{Since, InBlock, Row, Outcome, now, dispatched, after_main, after_tick}
use Rattle.rom_law.specs.Rows.Row.{Inside, Alone}
use Rattle.rom_law.specs.Rows.Starts.{Enters}
use Rattle.rom_law.proofs.Kept.{RunsBlock, starts_row, block_moves, block_ticks, block_cycle, block_above, block_above_next, block_writes, block_awake, place_moves, place_ticks, at_cycle}
use Rattle.rom_law.proofs.Places.{holding, range_same}
use Rattle.rom_rows.specs.FetchBlocks.FetchBlock.{Fetch}
use Rattle.rom_rows.specs.KeyBlocks.KeyPlace.{SkipTest, KeyTest, KeyHeld}
use Rattle.rom_rows.specs.KeyBlocks.{skip_test_label}
use Rattle.rom_rows.specs.SpriteBlocks.SpritePlace.{ClearWait, ClearIdle, DrawWait, DrawIdle}
use Rattle.rom_rows.specs.TimerBlocks.TimerPlace.{RandomCount, GetDelay, SetDelayPut, SetSoundPut}
use Rattle.rom_rows.specs.Heads.{page_of}
use Rattle.rom_rows.specs.Rom.{vip, program_of}
use Rattle.rom_rows.specs.Table.{Place, At, pieces, calm_pieces}
use Rattle.rom_rows.specs.Table.Block.{OfFetch}
use Rattle.rom_rows.specs.Table.Place.{AtTimer, AtKey, AtSprite}
use Rattle.rom_rows.proofs.Bytes.{quick, both_is, both_fits, screen_is, stack_top_is}
use Rattle.rom_rows.proofs.Calm.{calm_in}
use Rattle.rom_rows.proofs.Entry.{on_3, is_on_3}
use Rattle.rom_rows.proofs.PlaceFacts.{place_facts}
use Rattle.rom_rows.proofs.Screens.{SameScreen}
use Rattle.rom_rows.proofs.Table.{block_facts}
use Rattle.rom_rows.proofs.Sounds.{calm_sound}
use Rattle.rom_run.specs.Running.{Showing}
use Rattle.rom_run.proofs.Proved.{proved_quick, calm_block, calm_place}
use Rattle.rom_run.proofs.Waits.{timed, sleeps, timer_awake, key_awake, sprite_timed}

ticks_screen : (n : ℕ) (s : Lang) → (ticks n s).screen ≡ s.screen
ticks_screen zero s = refl
ticks_screen (suc n) s = ticks_screen n s

-- the stack lies below the screen
pub below_screen : (e : Edition) (b : Machine) (s : Lang) → value b.regs.r.r2 + 2 * length s.stack ≡ stack_top e → value b.regs.r.r2 < screen_start e
below_screen e b s h = omega (arith, h, screen_is e, stack_top_is e)

-- RAM is the same from the screen on
abbrev SameAbove : Edition → Machine → Machine → Type 0
SameAbove e b c = (a : ℕ) → screen_start e ≤ a → slice_index c.ram a ≡ slice_index b.ram a

-- ---- over the joined bytes

module _ (e : Edition) where
  -- what shows the screen of one machine shows that of another
  above_shows : (b c : Machine) (h : Since) → FitsMachine b → FitsMachine c → SameAbove e b c → Showing e b h → Showing e c h
  unfolding state_of
  above_shows b c h f g same shows px py l m =
      ap (λ bytes. pixels (rows_of e) bytes px py) (range_same (screen_start e) 0x1000 b.ram c.ram (g.size ∙ sym f.size) (λ i low high. same i low))
      ∙ shows px py l m

  -- so does what has it at a row
  row_shows : (b : Machine) (h : Since) → SameScreen (quick e) b (now h) → Showing e b h
  unfolding state_of
  row_shows b h same px py l m = same px py l m ∙ ap (λ z. z px py) (ticks_screen h.ticks h.state)

  module _ {l : (calm_pieces (quick e)).Block} {b : Machine} {h : Since} (r : InBlock (quick e) (calm_pieces (quick e)) l b h) where
    comes : RunsBlock (quick e) (calm_pieces (quick e)) l r.start r.since
    comes = calm_block e l r.head.1 r.start r.since r.fits r.head.0

    start_shows : Showing e r.start h
    start_shows px py m n =
        row_shows r.start r.since ((block_facts l).screen r.head.1 (quick e) r.start (now r.since) r.since.keys r.head.0.0) px py m n
        ∙ ap (λ (z : Lang). z.screen px py) (sym r.grows.state)

    block_shows : FitsMachine b → value b.regs.r.r2 < screen_start e → Showing e b h
    block_shows f below =
        above_shows r.start b h r.fits f
        (λ a low. block_above (quick e) (calm_pieces (quick e)) (calm_sound e refl (both_fits e)) r comes ((page_of e + 1) * 256) a refl
        (omega (arith, low, screen_is e)) (omega (arith, low, below))) start_shows

    next_shows : (u : Input) → FitsMachine (moved (code (quick e)) u b) → value (moved (code (quick e)) u b).regs.r.r2 < screen_start e
        → Showing e (moved (code (quick e)) u b) h
    next_shows u f below =
        above_shows r.start (moved (code (quick e)) u b) h r.fits f
        (λ a low. block_above_next (quick e) (calm_pieces (quick e)) (calm_sound e refl (both_fits e)) r comes u ((page_of e + 1) * 256) a refl
        (omega (arith, low, screen_is e)) (omega (arith, low, below))) start_shows

  quick_moves : (u : Input) (b : Machine) (h : Since) → FitsMachine b → b.regs.idle ≡ false → Row (quick e) (calm_pieces (quick e)) b h
      → Outcome (quick e) (calm_pieces (quick e)) (moved (code (quick e)) u b) (after_main u h)
  quick_moves u b h f i (Inside l r) = block_moves (quick e) (calm_pieces (quick e)) (calm_sound e refl (both_fits e)) r (comes r) u
  quick_moves u b h f i (Alone l o) = place_moves (quick e) (calm_pieces (quick e)) (calm_sound e refl (both_fits e)) l b h f (calm_place e l b h f i o) i u

  quick_ticks : (b c : Machine) (h : Since) → FitsMachine b → b.regs.idle ≡ false → Tick (code (quick e)).low b c
      → Row (quick e) (calm_pieces (quick e)) b h → Row (quick e) (calm_pieces (quick e)) c (after_tick h)
  quick_ticks b c h f i k (Inside l r) = block_ticks (quick e) (calm_pieces (quick e)) (calm_sound e refl (both_fits e)) r (comes r) c k
  quick_ticks b c h f i k (Alone l o) = place_ticks (quick e) (calm_pieces (quick e)) (calm_sound e refl (both_fits e)) l b c h f k o (calm_place e l b h f i o)

  -- the cycle number says nothing
  quick_cycle : (b : Machine) (h : Since) (t : ℕ) → FitsMachine b → b.regs.idle ≡ false → Row (quick e) (calm_pieces (quick e)) b h
      → Row (quick e) (calm_pieces (quick e)) (timed t b) h
  quick_cycle b h t f i (Inside l r) = Inside l (block_cycle (quick e) (calm_pieces (quick e)) (calm_sound e refl (both_fits e)) b h t r)
  quick_cycle b h t f i (Alone l o) =
      Alone l (subst (λ m. At (quick e) l (record b { cycle = t }) (record h { ticks = m })) same
      ((calm_place e l b h f i o).later i 0 (record b { cycle = t })
      (at_cycle (quick e) (calm_pieces (quick e)) (calm_sound e refl (both_fits e)) 0 b b t (after_none (code (quick e)).low b))))
    where
      same : h.ticks + 0 ≡ h.ticks
      same = omega arith

  quick_idle : (b : Machine) (h : Since) (t : ℕ) → b.regs.idle ≡ true → Row (quick e) (calm_pieces (quick e)) b h
      → Row (quick e) (calm_pieces (quick e)) (timed t b) h
  quick_idle b h t i (Inside l r) = absurd (sleeps (sym i ∙ block_awake (quick e) (pieces (quick e)) (proved_quick e) (calm_in (quick e) r)))
  quick_idle b h t i (Alone (AtTimer l) o) = absurd (sleeps (sym i ∙ timer_awake (quick e) b (now h) h.keys l o.0))
  quick_idle b h t i (Alone (AtKey l) o) = absurd (sleeps (sym i ∙ key_awake (quick e) b (now h) h.keys l o.0))
  quick_idle b h t i (Alone (AtSprite l) o) = Alone (AtSprite l) (sprite_timed (quick e) b (now h) h.keys t l i o.0, o.1)

  quick_starts : (cycle : ℕ) (b : Machine) (s : Lang) → FitsMachine b → Dispatches (quick e) b s → Row (quick e) (calm_pieces (quick e)) b (dispatched cycle s)
  quick_starts cycle b s f d =
      starts_row (quick e) (calm_pieces (quick e)) (calm_sound e refl (both_fits e)) b (dispatched cycle s) f
      (Enters (OfFetch Fetch) ((record { holds = holding (quick e) b s f.size d.keeps; p = d.p; r4 = d.r4 }, refl), tt))

  -- ---- the screen

  quick_shows : (b : Machine) (h : Since) → FitsMachine b → value b.regs.r.r2 < screen_start e → Row (quick e) (calm_pieces (quick e)) b h → Showing e b h
  quick_shows b h f below (Inside l r) = block_shows r f below
  quick_shows b h f below (Alone l o) = row_shows b h ((place_facts l).screen (quick e) b (now h) h.keys o.0)

  -- the instruction of a place writes nothing
  module _ (b : Machine) (u : Input) where
    keeps : (a : ℕ) → b ≡ on_3 a b → in_rom (word_of a) ≡ true → ((f : ℕ → Bool) → (quick_by (code (quick e)) f (on_3 a b)).ram ≡ b.ram)
        → (moved (code (quick e)) u b).ram ≡ b.ram
    keeps a is inside same =
        ap (λ (z : Machine). (moved (code (quick e)) u z).ram) is
        ∙ ap (λ (z : Machine). z.ram) (sym (quick_by_is (code (quick e)) u (on_3 a b) inside)) ∙ same (flags_in u (on_3 a b))

    place_keeps : (l : Place) (h : Since) → b.regs.idle ≡ false → At (quick e) l b h → (moved (code (quick e)) u b).ram ≡ b.ram
    place_keeps (AtTimer RandomCount) h i o = keeps AT_RANDOM_COUNT (is_on_3 AT_RANDOM_COUNT b o.0.0.entered.p o.0.0.entered.r3) refl (λ f. refl)
    place_keeps (AtTimer GetDelay) h i o = keeps AT_GET_DELAY (is_on_3 AT_GET_DELAY b o.0.0.entered.p o.0.0.entered.r3) refl (λ f. refl)
    place_keeps (AtTimer SetDelayPut) h i o = keeps AT_SET_DELAY_PUT (is_on_3 AT_SET_DELAY_PUT b o.0.0.entered.p o.0.0.entered.r3) refl (λ f. refl)
    place_keeps (AtTimer SetSoundPut) h i o = keeps AT_SET_SOUND_PUT (is_on_3 AT_SET_SOUND_PUT b o.0.0.entered.p o.0.0.entered.r3) refl (λ f. refl)
    place_keeps (AtKey (SkipTest true)) h i o = keeps (skip_test_label true) (is_on_3 (skip_test_label true) b o.0.0.p o.0.0.r3) refl (λ f. refl)
    place_keeps (AtKey (SkipTest false)) h i o = keeps (skip_test_label false) (is_on_3 (skip_test_label false) b o.0.0.p o.0.0.r3) refl (λ f. refl)
    place_keeps (AtKey (KeyTest turn)) h i o =
        keeps AT_KEY_TEST (is_on_3 AT_KEY_TEST b o.0.0.waiting.enters.entered.p o.0.0.waiting.enters.entered.r3) refl (λ f. refl)
    place_keeps (AtKey (KeyHeld turn looks)) h i o = keeps AT_KEY_HELD (is_on_3 AT_KEY_HELD b o.0.0.enters.entered.p o.0.0.enters.entered.r3) refl (λ f. refl)
    place_keeps (AtSprite ClearWait) h i o = keeps AT_CLEAR_WAIT (is_on_3 AT_CLEAR_WAIT b o.0.p o.0.r3) refl (λ f. refl)
    place_keeps (AtSprite ClearIdle) h i o = absurd (sleeps (sym o.0.1 ∙ i))
    place_keeps (AtSprite DrawWait) h i o = keeps AT_DRAW_WAIT (is_on_3 AT_DRAW_WAIT b o.0.p o.0.r3) refl (λ f. refl)
    place_keeps (AtSprite DrawIdle) h i o = absurd (sleeps (sym o.0.1 ∙ i))

  -- at a place it writes nothing at all
  module _ (b : Machine) where
    nothing : {w : ℕ × ℕ} → None ≡ Some w → ⊥
    nothing k = cc

    unwritten : (a : ℕ) → b ≡ on_3 a b → in_rom (word_of a) ≡ true
        → ((s : Regs) (j : Inputs) → (executed (opcode_in (code (quick e)) (on_3 a b)) s j).write ≡ None) → (j : Inputs) (w : ℕ × ℕ)
        → (executed (opcode_of (quick e).interpreter.rom b) (stepped b.regs b.regs.p) j).write ≡ Some w → ⊥
    unwritten a is inside none j w k =
        nothing (sym (none (stepped b.regs b.regs.p) j)
        ∙ ap (λ o. (executed o (stepped b.regs b.regs.p) j).write)
        (opcode_is (code (quick e)) (on_3 a b) inside ∙ ap (opcode_of (quick e).interpreter.rom) (sym is)) ∙ k)

    place_unwritten : (l : Place) (h : Since) → b.regs.idle ≡ false → At (quick e) l b h → (j : Inputs) (w : ℕ × ℕ)
        → (executed (opcode_of (quick e).interpreter.rom b) (stepped b.regs b.regs.p) j).write ≡ Some w → ⊥
    place_unwritten (AtTimer RandomCount) h i o = unwritten AT_RANDOM_COUNT (is_on_3 AT_RANDOM_COUNT b o.0.0.entered.p o.0.0.entered.r3) refl (λ s j. refl)
    place_unwritten (AtTimer GetDelay) h i o = unwritten AT_GET_DELAY (is_on_3 AT_GET_DELAY b o.0.0.entered.p o.0.0.entered.r3) refl (λ s j. refl)
    place_unwritten (AtTimer SetDelayPut) h i o = unwritten AT_SET_DELAY_PUT (is_on_3 AT_SET_DELAY_PUT b o.0.0.entered.p o.0.0.entered.r3) refl (λ s j. refl)
    place_unwritten (AtTimer SetSoundPut) h i o = unwritten AT_SET_SOUND_PUT (is_on_3 AT_SET_SOUND_PUT b o.0.0.entered.p o.0.0.entered.r3) refl (λ s j. refl)
    place_unwritten (AtKey (SkipTest true)) h i o = unwritten (skip_test_label true) (is_on_3 (skip_test_label true) b o.0.0.p o.0.0.r3) refl (λ s j. refl)
    place_unwritten (AtKey (SkipTest false)) h i o = unwritten (skip_test_label false) (is_on_3 (skip_test_label false) b o.0.0.p o.0.0.r3) refl (λ s j. refl)
    place_unwritten (AtKey (KeyTest turn)) h i o =
        unwritten AT_KEY_TEST (is_on_3 AT_KEY_TEST b o.0.0.waiting.enters.entered.p o.0.0.waiting.enters.entered.r3) refl (λ s j. refl)
    place_unwritten (AtKey (KeyHeld turn looks)) h i o = unwritten AT_KEY_HELD (is_on_3 AT_KEY_HELD b o.0.0.enters.entered.p o.0.0.enters.entered.r3) refl (λ s j. refl)
    place_unwritten (AtSprite ClearWait) h i o = unwritten AT_CLEAR_WAIT (is_on_3 AT_CLEAR_WAIT b o.0.p o.0.r3) refl (λ s j. refl)
    place_unwritten (AtSprite ClearIdle) h i o = absurd (sleeps (sym o.0.1 ∙ i))
    place_unwritten (AtSprite DrawWait) h i o = unwritten AT_DRAW_WAIT (is_on_3 AT_DRAW_WAIT b o.0.p o.0.r3) refl (λ s j. refl)
    place_unwritten (AtSprite DrawIdle) h i o = absurd (sleeps (sym o.0.1 ∙ i))

  quick_writes : (b : Machine) (h : Since) → b.regs.idle ≡ false → Row (quick e) (calm_pieces (quick e)) b h → (j : Inputs) (w : ℕ × ℕ)
      → (executed (opcode_of (quick e).interpreter.rom b) (stepped b.regs b.regs.p) j).write ≡ Some w → w.0 < screen_start e
  quick_writes b h i (Inside l r) j w k =
      omega (
        arith,
        screen_is e,
        block_writes (quick e) (calm_pieces (quick e)) (calm_sound e refl (both_fits e)) r (comes r) ((page_of e + 1)
            * 256) refl j w k,
      )
  quick_writes b h i (Alone l o) j w k = absurd (place_unwritten b l h i o j w k)

  quick_move_shows : (u : Input) (b : Machine) (h : Since) → FitsMachine b → b.regs.idle ≡ false → FitsMachine (moved (code (quick e)) u b)
      → value (moved (code (quick e)) u b).regs.r.r2 < screen_start e → Row (quick e) (calm_pieces (quick e)) b h
      → Showing e (moved (code (quick e)) u b) h
  quick_move_shows u b h f i g below (Inside l r) = next_shows r u g below
  quick_move_shows u b h f i g below (Alone l o) =
      above_shows b (moved (code (quick e)) u b) h f g (λ a low. ap (λ ram. slice_index ram a) (place_keeps b u l h i o))
      (row_shows b h ((place_facts l).screen (quick e) b (now h) h.keys o.0))

-- ---- over the image

module _ (e : Edition) where
  pub calm_moves : (u : Input) (b : Machine) (h : Since) → FitsMachine b → b.regs.idle ≡ false → Row (vip e) (calm_pieces (vip e)) b h
      → Outcome (vip e) (calm_pieces (vip e)) (moved (code (vip e)) u b) (after_main u h)
  calm_moves =
      subst (λ rom. (u : Input) (b : Machine) (h : Since) → FitsMachine b → b.regs.idle ≡ false
      → Row (program_of e rom) (calm_pieces (program_of e rom)) b h
      → Outcome (program_of e rom) (calm_pieces (program_of e rom)) (moved (code (program_of e rom)) u b) (after_main u h)) (both_is e)
      (quick_moves e)

  pub calm_ticks : (b c : Machine) (h : Since) → FitsMachine b → b.regs.idle ≡ false → Tick (code (vip e)).low b c
      → Row (vip e) (calm_pieces (vip e)) b h → Row (vip e) (calm_pieces (vip e)) c (after_tick h)
  calm_ticks =
      subst (λ rom. (b c : Machine) (h : Since) → FitsMachine b → b.regs.idle ≡ false → Tick (code (program_of e rom)).low b c
      → Row (program_of e rom) (calm_pieces (program_of e rom)) b h → Row (program_of e rom) (calm_pieces (program_of e rom)) c (after_tick h))
      (both_is e) (quick_ticks e)

  pub calm_cycle : (b : Machine) (h : Since) (t : ℕ) → FitsMachine b → b.regs.idle ≡ false → Row (vip e) (calm_pieces (vip e)) b h
      → Row (vip e) (calm_pieces (vip e)) (timed t b) h
  calm_cycle =
      subst (λ rom. (b : Machine) (h : Since) (t : ℕ) → FitsMachine b → b.regs.idle ≡ false
      → Row (program_of e rom) (calm_pieces (program_of e rom)) b h → Row (program_of e rom) (calm_pieces (program_of e rom)) (timed t b) h)
      (both_is e) (quick_cycle e)

  pub calm_idle : (b : Machine) (h : Since) (t : ℕ) → b.regs.idle ≡ true → Row (vip e) (calm_pieces (vip e)) b h
      → Row (vip e) (calm_pieces (vip e)) (timed t b) h
  calm_idle =
      subst (λ rom. (b : Machine) (h : Since) (t : ℕ) → b.regs.idle ≡ true → Row (program_of e rom) (calm_pieces (program_of e rom)) b h
      → Row (program_of e rom) (calm_pieces (program_of e rom)) (timed t b) h) (both_is e) (quick_idle e)

  pub calm_starts : (cycle : ℕ) (b : Machine) (s : Lang) → FitsMachine b → Dispatches (vip e) b s → Row (vip e) (calm_pieces (vip e)) b (dispatched cycle s)
  calm_starts =
      subst (λ rom. (cycle : ℕ) (b : Machine) (s : Lang) → FitsMachine b → Dispatches (program_of e rom) b s
      → Row (program_of e rom) (calm_pieces (program_of e rom)) b (dispatched cycle s)) (both_is e) (quick_starts e)

  -- the screen is that of the last dispatch point, in each row and after each move
  pub calm_shows : (b : Machine) (h : Since) → FitsMachine b → value b.regs.r.r2 < screen_start e → Row (vip e) (calm_pieces (vip e)) b h → Showing e b h
  calm_shows =
      subst (λ rom. (b : Machine) (h : Since) → FitsMachine b → value b.regs.r.r2 < screen_start e
      → Row (program_of e rom) (calm_pieces (program_of e rom)) b h → Showing e b h) (both_is e) (quick_shows e)

  -- and the instruction writes nothing of it
  pub calm_writes : (b : Machine) (h : Since) → b.regs.idle ≡ false → Row (vip e) (calm_pieces (vip e)) b h → (j : Inputs) (w : ℕ × ℕ)
      → (executed (opcode_of (vip e).interpreter.rom b) (stepped b.regs b.regs.p) j).write ≡ Some w → w.0 < screen_start e
  calm_writes =
      subst (λ rom. (b : Machine) (h : Since) → b.regs.idle ≡ false → Row (program_of e rom) (calm_pieces (program_of e rom)) b h
      → (j : Inputs) (w : ℕ × ℕ) → (executed (opcode_of rom b) (stepped b.regs b.regs.p) j).write ≡ Some w → w.0 < screen_start e) (both_is e)
      (quick_writes e)

  pub calm_move_shows : (u : Input) (b : Machine) (h : Since) → FitsMachine b → b.regs.idle ≡ false → FitsMachine (moved (code (vip e)) u b)
      → value (moved (code (vip e)) u b).regs.r.r2 < screen_start e → Row (vip e) (calm_pieces (vip e)) b h → Showing e (moved (code (vip e)) u b) h
  calm_move_shows =
      subst (λ rom. (u : Input) (b : Machine) (h : Since) → FitsMachine b → b.regs.idle ≡ false → FitsMachine (moved (code (program_of e rom)) u b)
      → value (moved (code (program_of e rom)) u b).regs.r.r2 < screen_start e → Row (program_of e rom) (calm_pieces (program_of e rom)) b h
      → Showing e (moved (code (program_of e rom)) u b) h) (both_is e) (quick_move_shows e)
