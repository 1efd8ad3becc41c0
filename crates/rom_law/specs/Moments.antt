-- The main moves since the last dispatch point, and what a step says of them: how many main cycles it takes, and at which of them it meets the ticks
-- and looks at a key.
use Rattle.std.specs.Prelude.{◌≡◌, ◌⊎◌, ℕ, ◌+◌, ◌*◌, ◌%◌, ◌<◌, Bool, true, false, List, [], ◌∷◌, Option, Some, None}
use Rattle.machine.specs.Keys.{Keys}
use Rattle.chip8_lang.specs.declared.instr.Instr.{Instr}
use Rattle.chip8_lang.specs.declared.instr.Instr.TheVariants.{Clear, Draw, WaitKey, Random, GetDelay, SetDelay, SetSound, SkipDown, SkipUp}
use Rattle.chip8_lang.specs.declared.view.Edition.{Edition}
use Rattle.chip8_lang.specs.State.{Lang, variable}
use Rattle.chip8_lang.specs.Step.{KeyInput}
use Rattle.chip8_lang.specs.Step.KeyInput.{Held, Chosen}
use Rattle.chip8_lang.specs.Timed.{cycles}

-- ---- main moves

-- a main move: the main cycles and the ticks that were made before it since the dispatch, and the keys that were held down in it
pub record Moment : Type 0 where
  pub spent : ℕ
  pub ticks : ℕ
  pub held : Keys

-- it is one of these
abbrev pub Among : Moment → List Moment → Type 0
Among m [] = ⊥
Among m (latest ∷ moments) = (m ≡ latest) ⊎ Among m moments

-- the one at so many main cycles comes after so many ticks
pub record TicksBefore (moments : List Moment) (spent ticks : ℕ) : Type 0 where
  pub moment : Moment
  pub among : Among moment moments
  pub at : moment.spent ≡ spent
  pub after : moment.ticks ≡ ticks

-- in the one at so many main cycles key k is up or down as `down` says
pub record Sees (moments : List Moment) (spent k : ℕ) (down : Bool) : Type 0 where
  pub moment : Moment
  pub among : Among moment moments
  pub at : moment.spent ≡ spent
  pub is : moment.held k ≡ down

-- ---- FX0A

-- in so many turns of its loop the key of each was up
abbrev pub Searches : List Moment → ℕ → Type 0
Searches moments turns = (i : ℕ) → i < turns → Sees moments (114 + 14 * i) (i % 16) false

-- then that of a turn was down, and so it was at so many looks
pub record Holds (moments : List Moment) (turn looks : ℕ) : Type 0 where
  pub searched : Searches moments turn
  pub down : Sees moments (114 + 14 * turn) (turn % 16) true
  pub held : (i : ℕ) → i < looks → Sees moments (116 + 14 * turn + 2 * i) (turn % 16) true

-- and at the next look it was up: it is the key that is taken, so many main cycles after the dispatch
pub record Chooses (moments : List Moment) (spent key : ℕ) : Type 0 where
  pub turn : ℕ
  pub looks : ℕ
  pub is : key ≡ turn % 16
  pub spends : spent ≡ 126 + 14 * turn + 2 * looks
  pub holds : Holds moments turn looks
  pub up : Sees moments (116 + 14 * turn + 2 * looks) (turn % 16) false

-- ---- a step

-- 00E0 and DXYN wait for the display
abbrev pub is_waiting : Instr → Bool
is_waiting Clear = true
is_waiting (Draw x y n) = true
is_waiting _ = false

-- The main cycles of a step, by what it took from the keypad. Those of FX0A are told by the cycles in which its key is down and up.
abbrev pub takes_by : Edition → Instr → Lang → KeyInput → Option ℕ
takes_by e (WaitKey x) s key = None
takes_by e i s key = Some (cycles e i key s)

-- The four instructions that use the timers or the count of ticks do so at one main move, with the ticks before it and no other; EX9E and EXA1 look at
-- their key at one. FX0A looks at the keys in turn, and then at its own.
abbrev pub MovesTell : Instr → Lang → List Moment → ℕ → ℕ → KeyInput → Type 0
MovesTell (Random x k) s moments spent before key = TicksBefore moments 90 before
MovesTell (GetDelay x) s moments spent before key = TicksBefore moments 86 before
MovesTell (SetDelay x) s moments spent before key = TicksBefore moments 100 before
MovesTell (SetSound x) s moments spent before key = TicksBefore moments 106 before
MovesTell (SkipDown x) s moments spent before (Held down) = Sees moments 90 (variable s x % 16) down
MovesTell (SkipUp x) s moments spent before (Held down) = Sees moments 96 (variable s x % 16) down
MovesTell (WaitKey x) s moments spent before (Chosen k) = Chooses moments spent k
MovesTell _ s moments spent before key = Unit {0}
