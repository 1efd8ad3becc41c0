-- Behind a wait for the display main code stays behind it, up to the dispatch.
use Rattle.std.proofs.Common.{◌≡◌, ℕ, sym, ◌∙◌, subst, true, false}
use Rattle.machine.specs.Board.{Machine}
use Rattle.machine.specs.Ranges.{FitsMachine}
use Rattle.machine.specs.Schedule.{Tick}
use Rattle.chip8_lang.specs.declared.view.Edition.{Edition}
use Rattle.rom_law.specs.Code.{Input, moved}
use Rattle.rom_law.proofs.Ranges.{tick_fits}
use Rattle.rom_law.specs.Program.{code}
use Rattle.rom_law.specs.Rows.{Since, Row, Outcome, now, after_main, after_tick}
use Rattle.rom_law.specs.Rows.Row.{Inside, Alone}
use Rattle.rom_law.proofs.Kept.{block_awake, block_moves, block_cycle, starts_row}
use Rattle.rom_rows.specs.Rom.{vip, program_of}
use Rattle.rom_rows.specs.Table.{pieces, waited_pieces}
use Rattle.rom_rows.specs.Table.Place.{AtTimer, AtKey, AtSprite}
use Rattle.rom_rows.proofs.Bytes.{quick, both_is, both_fits}
use Rattle.rom_rows.proofs.Waited.{waited_sound, joined}
use Rattle.rom_run.proofs.Image.{sprite_waited, sprite_wakes}
use Rattle.rom_run.proofs.Proved.{proved_quick}
use Rattle.rom_run.proofs.Waits.{timed, sleeps, timer_awake, key_awake}

-- ---- over the joined bytes

module _ (e : Edition) where
  quick_moves : (u : Input) (b : Machine) (h : Since) → Row (quick e) (waited_pieces (quick e)) b h
      → Outcome (quick e) (waited_pieces (quick e)) (moved (code (quick e)) u b) (after_main u h)
  quick_moves u b h (Inside l r) =
      block_moves (quick e) (waited_pieces (quick e)) (waited_sound e (both_fits e)) r (sprite_waited e l.0 l.1 r.start r.since r.fits r.head) u
  quick_moves u b h (Alone l o) = absurd o

  quick_cycle : (b : Machine) (h : Since) (t : ℕ) → Row (quick e) (waited_pieces (quick e)) b h → Row (quick e) (waited_pieces (quick e)) (timed t b) h
  quick_cycle b h t (Inside l r) = Inside l (block_cycle (quick e) (waited_pieces (quick e)) (waited_sound e (both_fits e)) b h t r)
  quick_cycle b h t (Alone l o) = absurd o

  quick_awake : (b : Machine) (h : Since) → Row (quick e) (waited_pieces (quick e)) b h → b.regs.idle ≡ false
  quick_awake b h (Inside l r) = block_awake (quick e) (pieces (quick e)) (proved_quick e) (joined (quick e) r)
  quick_awake b h (Alone l o) = absurd o

  quick_wakes : (b c : Machine) (h : Since) → FitsMachine b → b.regs.idle ≡ true → Tick (code (quick e)).low b c
      → Row (quick e) (pieces (quick e)) b h → Row (quick e) (waited_pieces (quick e)) c (after_tick h)
  quick_wakes b c h f i k (Inside l r) = absurd (sleeps (sym i ∙ block_awake (quick e) (pieces (quick e)) (proved_quick e) r))
  quick_wakes b c h f i k (Alone (AtTimer l) o) = absurd (sleeps (sym i ∙ timer_awake (quick e) b (now h) h.keys l o.0))
  quick_wakes b c h f i k (Alone (AtKey l) o) = absurd (sleeps (sym i ∙ key_awake (quick e) b (now h) h.keys l o.0))
  quick_wakes b c h f i k (Alone (AtSprite l) o) =
      starts_row (quick e) (waited_pieces (quick e)) (waited_sound e (both_fits e)) c (after_tick h) (tick_fits (code (quick e)).low b c f k)
      (sprite_wakes e l b h f i o c k)

-- ---- over the image

module _ (e : Edition) where
  pub waited_moves : (u : Input) (b : Machine) (h : Since) → Row (vip e) (waited_pieces (vip e)) b h
      → Outcome (vip e) (waited_pieces (vip e)) (moved (code (vip e)) u b) (after_main u h)
  waited_moves =
      subst (λ rom. (u : Input) (b : Machine) (h : Since) → Row (program_of e rom) (waited_pieces (program_of e rom)) b h
      → Outcome (program_of e rom) (waited_pieces (program_of e rom)) (moved (code (program_of e rom)) u b) (after_main u h)) (both_is e)
      (quick_moves e)

  pub waited_cycle : (b : Machine) (h : Since) (t : ℕ) → Row (vip e) (waited_pieces (vip e)) b h → Row (vip e) (waited_pieces (vip e)) (timed t b) h
  waited_cycle =
      subst (λ rom. (b : Machine) (h : Since) (t : ℕ) → Row (program_of e rom) (waited_pieces (program_of e rom)) b h
      → Row (program_of e rom) (waited_pieces (program_of e rom)) (timed t b) h) (both_is e) (quick_cycle e)

  -- main code doesn't wait there
  pub waited_awake : (b : Machine) (h : Since) → Row (vip e) (waited_pieces (vip e)) b h → b.regs.idle ≡ false
  waited_awake =
      subst (λ rom. (b : Machine) (h : Since) → Row (program_of e rom) (waited_pieces (program_of e rom)) b h → b.regs.idle ≡ false) (both_is e)
      (quick_awake e)

  -- a tick ends a wait
  pub row_wakes : (b c : Machine) (h : Since) → FitsMachine b → b.regs.idle ≡ true → Tick (code (vip e)).low b c → Row (vip e) (pieces (vip e)) b h
      → Row (vip e) (waited_pieces (vip e)) c (after_tick h)
  row_wakes =
      subst (λ rom. (b c : Machine) (h : Since) → FitsMachine b → b.regs.idle ≡ true → Tick (code (program_of e rom)).low b c
      → Row (program_of e rom) (pieces (program_of e rom)) b h → Row (program_of e rom) (waited_pieces (program_of e rom)) c (after_tick h))
      (both_is e) (quick_wakes e)
