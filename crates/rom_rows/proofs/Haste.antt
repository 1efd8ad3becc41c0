-- How little main code has spent at a head: so little that the next event comes within the bound of the instruction.
use Rattle.std.proofs.Common.{◌≡◌, ℕ, ◌+◌, ◌*◌, ◌/◌, ◌≤◌, refl, sym, ◌∙◌, ap₂, arith, Bool, true, false}
use Rattle.std.specs.Prelude.{Option, Some, None}
use Rattle.chip8_lang.specs.declared.view.Edition.{Edition}
use Rattle.chip8_lang.specs.Bounds.{bound_of, bound_by}
use Rattle.chip8_lang.specs.State.{Lang, is_fetchable}
use Rattle.chip8_lang.specs.Ticks.{ticks}
use Rattle.rom_law.proofs.Language.{ticks_instr}
use Rattle.rom_law.specs.Program.{Program}
use Rattle.rom_law.specs.Rows.{Since, now}
use Rattle.rom_rows.specs.Checks.{Caller, call_time}
use Rattle.rom_rows.specs.Checks.Caller.{ForDecimal, ForStore, ForRestore, ForDraw}
use Rattle.rom_rows.specs.Heads.{high_byte, low_byte}
use Rattle.rom_rows.specs.KeyBlocks.{skip_time}
use Rattle.rom_rows.specs.SpriteBlocks.{Clears, Draws, height}
use Rattle.rom_rows.proofs.Steps.{stop_ticks}

-- ---- bounds

-- ticks leave the bound
pub ticks_bound : (e : Edition) (n : ℕ) (s : Lang) → bound_of e (ticks n s) ≡ bound_of e s
ticks_bound e n s = ap₂ bound_by (stop_ticks e n s) (ticks_instr n s)

pub clears_bound : (e : Edition) (s : Lang) → is_fetchable e s ≡ true → Clears s → bound_of e s ≡ Some 7600
clears_bound e s inside is = rw (inside, is.0, is.1) refl

pub draws_bound : (x : Program) (s : Lang) → Draws x s → bound_of x.edition s ≡ Some 14672
draws_bound x s d = rw (d.inside, d.digit, d.readable) refl

pub key_bound : (e : Edition) (s : Lang) → is_fetchable e s ≡ true → high_byte s / 16 ≡ 15 → low_byte s ≡ 0x0a → bound_of e s ≡ None
key_bound e s inside digit low = rw (inside, digit, low) refl

-- ---- what main code has spent, and spends in m moves more

-- 00E0 and DXYN, also behind the wait
pub data Slow (e : Edition) (h : Since) (m : ℕ) : Type 0 where
  Clearing : bound_of e h.state ≡ Some 7600 → h.spent + 2 * m ≤ 1650 → Slow e h m
  Drawing : bound_of e h.state ≡ Some 14672 → h.spent + 2 * m ≤ 3100 → Slow e h m

-- Little under any bound; little for FX55 and FX65; or for 00E0 and DXYN. Or FX0A has no bound, and something holds that says where.
pub data Haste (e : Edition) (Endless : Type 0) (h : Since) (m : ℕ) : Type 0 where
  Brief : h.spent + 2 * m ≤ 354 → Haste e Endless h m
  Copying : bound_of e h.state ≡ Some 2600 → h.spent + 2 * m ≤ 754 → Haste e Endless h m
  Slowly : Slow e h m → Haste e Endless h m
  Boundless : bound_of e h.state ≡ None → Endless → Haste e Endless h m

-- by the bound of the state that the rows speak of
module _ (e : Edition) (h : Since) where
  at_dispatch : {o : Option ℕ} → bound_of e (now h) ≡ o → bound_of e h.state ≡ o
  at_dispatch is = sym (ticks_bound e h.ticks h.state) ∙ is

  pub copying : {Endless : Type 0} {m : ℕ} → bound_of e (now h) ≡ Some 2600 → h.spent + 2 * m ≤ 754 → Haste e Endless h m
  copying is l = Copying (at_dispatch is) l

  pub clearing : {m : ℕ} → bound_of e (now h) ≡ Some 7600 → h.spent + 2 * m ≤ 1650 → Slow e h m
  clearing is l = Clearing (at_dispatch is) l

  pub drawing : {m : ℕ} → bound_of e (now h) ≡ Some 14672 → h.spent + 2 * m ≤ 3100 → Slow e h m
  drawing is l = Drawing (at_dispatch is) l

  pub endless : {Endless : Type 0} {m : ℕ} → bound_of e (now h) ≡ None → Endless → Haste e Endless h m
  endless is o = Boundless (at_dispatch is) o

-- ---- main cycles before a head

pub call_most : (c : Caller) → call_time c ≤ 152
call_most ForDecimal = omega arith
call_most ForStore = omega arith
call_most ForRestore = omega arith
call_most ForDraw = omega arith

pub skip_most : (down : Bool) → skip_time down ≤ 94
skip_most true = omega arith
skip_most false = omega arith

pub few : (e : Edition) (s : Lang) → height e s ≤ 15
few e s = omega arith
