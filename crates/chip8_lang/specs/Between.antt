-- What lies between two successive dispatch points of a run: one step, and the ticks and keys of the interval.
use Rattle.std.specs.Prelude.{◌≡◌, ℕ, zero, suc, ◌+◌, ◌-◌, ◌%◌, ◌<◌, ◌≤◌, ◌&&◌, Bool, true, false, nat_lt, List, [], ◌∷◌, length, filter, slice_get, Some, None}
use Rattle.std.specs.List.{range_with_len}
use Rattle.machine.specs.Keys.{Event, Keys, held_at}
use Rattle.machine.specs.Pictures.{interrupt_at}
use Rattle.chip8_lang.specs.declared.instr.Instr.{Instr}
use Rattle.chip8_lang.specs.declared.instr.Instr.TheVariants.{Clear, Draw, SkipDown, SkipUp, WaitKey}
use Rattle.chip8_lang.specs.declared.view.Edition.{Edition}
use Rattle.chip8_lang.specs.State.{Lang, variable, instr_at}
use Rattle.chip8_lang.specs.Step.{KeyInput, stop_of, step}
use Rattle.chip8_lang.specs.Step.KeyInput.{Nothing, Held, Chosen}
use Rattle.chip8_lang.specs.Ticks.{ticks}

-- ---- an interval of cycles

-- the ticks between two cycles: how many frames have their interrupt strictly between them (frame m's doesn't come before cycle m)
unfoldable pub ticks_between : ℕ → ℕ → ℕ
ticks_between a e = length (filter (λ m. nat_lt a (interrupt_at m) && nat_lt (interrupt_at m) e) (range_with_len 0 e))

-- the keys that are held down in each of n cycles from a on
abbrev pub keys_from : List Event → ℕ → ℕ → List Keys
keys_from script a zero = []
keys_from script a (suc n) = held_at script a ∷ keys_from script (a + 1) n

abbrev pub keys_between : List Event → ℕ → ℕ → List Keys
keys_between script a e = keys_from script a (e - a)

-- ---- what a step may take

-- in the u-th of the sets key k is up or down as `down` says
pub record IsAt (sets : List Keys) (u k : ℕ) (down : Bool) : Type 0 where
  pub held : Keys
  pub there : slice_get sets u ≡ Some held
  pub is : held k ≡ down

-- whether key k was held down at some cycle of the interval
pub record SomeTime (sets : List Keys) (k : ℕ) (down : Bool) : Type 0 where
  pub time : ℕ
  pub at : IsAt sets time k down

-- key k was down at a cycle of the interval, and up at a later one
pub record LetGo (sets : List Keys) (k : ℕ) : Type 0 where
  pub fits : k < 16
  pub pressed : ℕ
  pub released : ℕ
  pub order : pressed < released
  pub down : IsAt sets pressed k true
  pub up : IsAt sets released k false

-- what an instruction may take from the keypad: EX9E and EXA1 take key VX mod 16 as it is at a cycle of the interval, and FX0A takes a
-- key that was let go
abbrev pub Allows : Instr → Lang → List Keys → KeyInput → Type 0
Allows (SkipDown x) s sets (Held down) = SomeTime sets (variable s x % 16) down
Allows (SkipDown x) s sets _ = ⊥
Allows (SkipUp x) s sets (Held down) = SomeTime sets (variable s x % 16) down
Allows (SkipUp x) s sets _ = ⊥
Allows (WaitKey x) s sets (Chosen k) = LetGo sets k
Allows (WaitKey x) s sets _ = ⊥
Allows _ s sets Nothing = Unit {0}
Allows _ s sets _ = ⊥

-- 00E0 and DXYN wait for the display: they come after all ticks of their interval, and after one at least
abbrev pub WaitsWell : Instr → ℕ → ℕ → Type 0
WaitsWell Clear before after = (1 ≤ before) × (after ≡ 0)
WaitsWell (Draw x y n) before after = (1 ≤ before) × (after ≡ 0)
WaitsWell _ before after = Unit {0}

-- s' comes from s in an interval of n ticks with these sets of keys: some ticks, then one step, then the other ticks
pub record Between (e : Edition) (s : Lang) (n : ℕ) (sets : List Keys) (s' : Lang) : Type 0 where
  pub runs : stop_of e s ≡ None
  pub before : ℕ
  pub after : ℕ
  pub all : before + after ≡ n
  pub key : KeyInput
  pub allowed : Allows (instr_at s) s sets key
  pub waits : WaitsWell (instr_at s) before after
  pub is : s' ≡ ticks after (step e key (ticks before s))
