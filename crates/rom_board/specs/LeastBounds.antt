-- The least bounds: for each line of `bounds` how many machine cycles an instruction or a stop takes at most, with DMA and interrupts counted, such that a
-- game takes so many. FX0A waits for a key, and has no such number.
use Rattle.std.specs.Prelude.{◌≡◌, ℕ, ◌+◌, ◌-◌, ◌%◌, true, false, ◌<◌, ◌≤◌, List, [], ◌∷◌, length, slice_get, slice_index, Option, Some, None}
use Rattle.machine.specs.Board.{Machine}
use Rattle.machine.specs.Keys.{Event, held_at}
use Rattle.machine.specs.Pictures.{windows_ended}
use Rattle.chip8_lang.specs.declared.instr.Instr.{Instr}
use Rattle.chip8_lang.specs.declared.instr.Instr.TheVariants.{Clear, Draw, WaitKey, Decimal, Store, Fetch}
use Rattle.chip8_lang.specs.declared.view.Edition.{Edition}
use Rattle.chip8_lang.specs.declared.view.Edition.TheVariants.{Usual, Tall}
use Rattle.chip8_lang.specs.declared.view.Stop.{Stop}
use Rattle.chip8_lang.specs.Places.{state_of}
use Rattle.chip8_lang.specs.State.{Lang, first, memory_size, instr_at, variable}
use Rattle.chip8_lang.specs.Step.{stop_of}
use Rattle.chip8_lang.specs.Timed.{Next, Shown, boot_cycle, next_point, shown_behind, timed_run}
use Rattle.chip8_lang.specs.Timed.Next.{Dispatch, Stopped, Never}
use Rattle.chip8_lang.specs.Timed.Shown.{Point}
use Rattle.rom_run.specs.States.{MayStart}

-- ---- the lines

-- the lines of `bounds` behind that of boot, but for FX0A
pub data Line : Type 0 where
  ClearLine : Line
  DrawLine : Line
  DecimalLine : Line
  StoreLine : Line
  FetchLine : Line
  OtherLine : Line
  StopLine : Line

abbrev pub line_of_instr : Instr → Option Line
line_of_instr Clear = Some ClearLine
line_of_instr (Draw x y n) = Some DrawLine
line_of_instr (Decimal x) = Some DecimalLine
line_of_instr (Store x) = Some StoreLine
line_of_instr (Fetch x) = Some FetchLine
line_of_instr (WaitKey x) = None
line_of_instr _ = Some OtherLine

abbrev pub line_by : Option Stop → Instr → Option Line
line_by (Some stop) instr = Some StopLine
line_by None instr = line_of_instr instr

-- the line of a state, or none where FX0A waits
abbrev pub line_of : Edition → Lang → Option Line
line_of e s = line_by (stop_of e s) (instr_at s)

abbrev pub least_clear : Edition → ℕ
least_clear Usual = 6384
least_clear Tall = 7152

abbrev pub least : Edition → Line → ℕ
least e ClearLine = least_clear e
least e DrawLine = 10406
least e DecimalLine = 2136
least e StoreLine = 2232
least e FetchLine = 2254
least e OtherLine = 1992
least e StopLine = 2078

-- ---- what is said

-- what comes next comes, in a cycle of which this holds
abbrev pub ComesIn : (ℕ → Type 0) → Next → Type 0
ComesIn Is (Dispatch t s) = Is t
ComesIn Is (Stopped t s stop) = Is t
ComesIn Is Never = ⊥

-- a cycle and a state that a dispatch point can have: no point is in an odd cycle, and variables are bytes
pub record CanBe (t : ℕ) (s : Lang) : Type 0 where
  pub even : t % 2 ≡ 0
  pub bytes : (x : ℕ) → variable s x < 256

-- Such are the points of every run, from reset or from any machine that may start.
abbrev pub EveryPoint : Type 0
EveryPoint =
    (e : Edition) (game : List ℕ)
    → length game ≤ memory_size e
    → ((i : ℕ) → slice_index game i < 256)
    → (script : List Event) (limit k t : ℕ) (s : Lang)
    → slice_get (timed_run e script limit game) k ≡ Some (Point t s)
    → CanBe t s

abbrev pub EveryPointBehind : Type 0
EveryPointBehind =
    (e : Edition) (b : Machine)
    → MayStart e b
    → (script : List Event) (limit k t : ℕ) (s : Lang)
    → slice_get (Point b.cycle (state_of e b) ∷ shown_behind e script limit limit (windows_ended b.cycle) b.cycle (state_of e b)) k ≡ Some (Point t s)
    → CanBe t s

-- no interval of this line takes more than b cycles
abbrev pub IsBound : Edition → Line → ℕ → Type 0
IsBound e line b =
    (script : List Event) (limit t : ℕ) (s : Lang)
    → CanBe t s
    → line_of e s ≡ Some line
    → ComesIn (λ c. c ≤ t + b) (next_point e script limit t s)

-- this is a point of that line, behind which the next comes b cycles later
abbrev pub TakesAt : Edition → List Event → ℕ → Line → ℕ → Option Shown → Type 0
TakesAt e script limit line b (Some (Point t s)) = (line_of e s ≡ Some line) × ComesIn (λ c. c ≡ t + b) (next_point e script limit t s)
TakesAt e script limit line b _ = ⊥

-- the run of a game takes b cycles at its event k, a point of this line
pub record IsTaken (e : Edition) (line : Line) (b : ℕ) : Type 0 where
  pub game : List ℕ
  pub small : length game ≤ memory_size e
  pub bytes : (i : ℕ) → slice_index game i < 256
  pub script : List Event
  pub limit : ℕ
  pub k : ℕ
  pub takes : TakesAt e script limit line b (slice_get (timed_run e script limit game) k)

abbrev pub EveryBound : Type 0
EveryBound = (e : Edition) (line : Line) → IsBound e line (least e line)

abbrev pub EveryTaken : Type 0
EveryTaken = (e : Edition) (line : Line) → IsTaken e line (least e line)

-- ---- the wait for a key

-- one and the same key is down in each of so many cycles from u on, and behind those all keys are up in each of so many from w on
pub record PressedFor (down up : ℕ) (script : List Event) (u w : ℕ) : Type 0 where
  pub key : ℕ
  pub fits : key < 16
  pub pressed : (t : ℕ) → u ≤ t → t < u + down → held_at script t key ≡ true
  pub behind : u + down ≤ w
  pub released : (t k : ℕ) → w ≤ t → t < w + up → k < 16 → held_at script t k ≡ false

abbrev pub least_down : ℕ
least_down = 2172

abbrev pub least_up : ℕ
least_up = 1857

-- FX0A has ended before the cycles are over in which all keys are up
abbrev pub IsKeyBound : Edition → ℕ → ℕ → Type 0
IsKeyBound e down up =
    (script : List Event) (limit t u w : ℕ) (s : Lang)
    → CanBe t s
    → line_of e s ≡ None
    → t ≤ u
    → PressedFor down up script u w
    → w + up ≤ limit
    → ComesIn (λ c. c < w + up) (next_point e script limit t s)

-- at this point FX0A waits, by cycle u, and of what comes next this holds
abbrev pub WaitsAt : Edition → List Event → ℕ → ℕ → (Next → Type 0) → Option Shown → Type 0
WaitsAt e script limit u Is (Some (Point t s)) = (line_of e s ≡ None) × (t ≤ u) × Is (next_point e script limit t s)
WaitsAt e script limit u Is _ = ⊥

-- the run of a game waits for a key at its event k, and of what comes next behind such cycles this holds
pub record IsWaited (e : Edition) (down up : ℕ) (Is : ℕ → Next → Type 0) : Type 0 where
  pub game : List ℕ
  pub small : length game ≤ memory_size e
  pub bytes : (i : ℕ) → slice_index game i < 256
  pub script : List Event
  pub limit : ℕ
  pub k : ℕ
  pub u : ℕ
  pub w : ℕ
  pub pressed : PressedFor down up script u w
  pub within : w + up ≤ limit
  pub waits : WaitsAt e script limit u (Is w) (slice_get (timed_run e script limit game) k)

abbrev pub EveryKeyBound : Type 0
EveryKeyBound = (e : Edition) → IsKeyBound e least_down least_up

-- in the last of the cycles in which all keys are up
abbrev pub KeyTaken : Type 0
KeyTaken = (e : Edition) → IsWaited e least_down least_up (λ w. ComesIn (λ c. c + 1 ≡ w + least_up))

-- and never, where the key is down for a cycle less
abbrev pub KeyMissed : Type 0
KeyMissed = (e : Edition) → IsWaited e (least_down - 1) least_up (λ w next. ComesIn (λ c. Unit {0}) next → ⊥)

-- ---- boot

-- the first point comes in its cycle exactly, and none where the limit is below it
abbrev pub EveryBoot : Type 0
EveryBoot =
    (e : Edition) (game : List ℕ) (script : List Event) (limit : ℕ)
    → (boot_cycle ≤ limit → slice_get (timed_run e script limit game) 0 ≡ Some (Point boot_cycle (first e game)))
    × (limit < boot_cycle → timed_run e script limit game ≡ [])

-- ---- all of them

-- For each line that `bounds` prints the least number of machine cycles that holds, by the language's time alone, in both editions; and what it is said of.
pub record LeastBounds : Type 0 where
  pub boot : EveryBoot
  pub points : EveryPoint
  pub points_behind : EveryPointBehind
  pub holds : EveryBound
  pub taken : EveryTaken
  pub key : EveryKeyBound
  pub key_taken : KeyTaken
  pub key_missed : KeyMissed
