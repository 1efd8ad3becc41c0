-- The cycle bounds, in machine cycles with DMA and interrupts counted: from a dispatch point to the next dispatch or stop point, and
-- from reset to the first dispatch point. This project's profile.
use Rattle.std.specs.Prelude.{◌≡◌, ℕ, ◌+◌, ◌<◌, ◌≤◌, true, false, List, Option, Some, None}
use Rattle.machine.specs.Keys.{Event, held_at}
use Rattle.machine.specs.Pictures.{frame}
use Rattle.chip8_lang.specs.declared.instr.Instr.{Instr}
use Rattle.chip8_lang.specs.declared.instr.Instr.TheVariants.{Clear, Draw, WaitKey, Decimal, Store, Fetch}
use Rattle.chip8_lang.specs.declared.view.Edition.{Edition}
use Rattle.chip8_lang.specs.declared.view.Stop.{Stop}
use Rattle.chip8_lang.specs.State.{Lang, instr_at}
use Rattle.chip8_lang.specs.Step.{stop_of}

abbrev pub boot_bound : ℕ
boot_bound = 1000

abbrev pub stop_bound : ℕ
stop_bound = 2200

-- FX0A has none: it waits for the player
abbrev pub bound_of_instr : Instr → Option ℕ
bound_of_instr Clear = Some 7600
bound_of_instr (Draw x y n) = Some 14672
bound_of_instr (Decimal x) = Some 2600
bound_of_instr (Store x) = Some 2600
bound_of_instr (Fetch x) = Some 2600
bound_of_instr (WaitKey x) = None
bound_of_instr _ = Some 2200

abbrev pub bound_by : Option Stop → Instr → Option ℕ
bound_by (Some stop) instr = Some stop_bound
bound_by None instr = bound_of_instr instr

-- the bound of a state
abbrev pub bound_of : Edition → Lang → Option ℕ
bound_of e s = bound_by (stop_of e s) (instr_at s)

-- ---- the wait for a key

-- how long a key has to be down, and then all keys up, for FX0A to end: a frame's cycles each
abbrev pub key_cycles : ℕ
key_cycles = frame

-- Under the script one and the same key is down in each of a frame's cycles from u on, and behind those all keys are up in each of a frame's
-- cycles from w on.
pub record Pressed (script : List Event) (u w : ℕ) : Type 0 where
  pub key : ℕ
  pub fits : key < 16
  pub down : (t : ℕ) → u ≤ t → t < u + key_cycles → held_at script t key ≡ true
  pub behind : u + key_cycles ≤ w
  pub up : (t k : ℕ) → w ≤ t → t < w + key_cycles → k < 16 → held_at script t k ≡ false

-- Cycle t isn't too late for the next point behind a dispatch point in cycle `from`, whose state has this bound: it is within the bound. A wait for a
-- key has none: there the point comes before the end of a frame's cycles in which all keys are up, behind as many in which a key is down.
pub record IsInTime (most : Option ℕ) (script : List Event) (from t : ℕ) : Type 0 where
  pub bound : (bound : ℕ) → most ≡ Some bound → t ≤ from + bound
  pub keys : most ≡ None → (u w : ℕ) → from ≤ u → Pressed script u w → t < w + key_cycles
