-- The cases that the examples compute.
use Rattle.std.specs.Prelude.{ℕ, ◌+◌, ◌-◌, ◌/◌, ◌%◌, ◌==◌, ◌&&◌, Bool, true, false, List, [], ◌∷◌, map, slice_index}
use Rattle.machine.specs.Keys.{Event}
use Rattle.chip8_lang.specs.State.{Lang, first}
use Rattle.chip8_lang.specs.Step.{step}
use Rattle.chip8_lang.specs.Step.KeyInput.{Nothing}
use Rattle.chip8_lang.specs.Timed.{Next, Shown, next_point, timed_run}
use Rattle.chip8_lang.specs.Timed.Next.{Dispatch, Stopped, Never}
use Rattle.chip8_lang.specs.Timed.Shown.{Picture, Point, End}
use Rattle.chip8_lang.specs.Ticks.{ticks}
use Rattle.chip8_lang.specs.declared.view.Edition.TheVariants.{Usual}

-- a game's first state, with VC = C8, VD = 38, VE = 01 and VF = FF
abbrev pub sample : List ℕ → Lang
sample game =
    record (first Usual game) { v = 0 ∷ 0 ∷ 0 ∷ 0 ∷ 0 ∷ 0 ∷ 0 ∷ 0 ∷ 0 ∷ 0 ∷ 0 ∷ 0 ∷ 0xc8 ∷ 0x38 ∷ 0x01 ∷ 0xff ∷ [] }

-- VX and pc after one step of it
abbrev pub stepped_once : List ℕ → ℕ → ℕ × ℕ
stepped_once game x = let s = step Usual Nothing (sample game) in (slice_index s.v x, s.pc)

-- DT, ST and the tone after two ticks, from DT = 1 and ST = 3
abbrev pub ticked_twice : ℕ × (ℕ × Bool)
ticked_twice = let s = ticks 2 (record (first Usual []) { dt = 1; st = 3 }) in (s.dt, (s.st, s.tone))

-- in which cycle the next point comes behind a game's first state in a cycle, and its count of ticks, where no key is ever down
abbrev pub cycle_of : Next → ℕ × ℕ
cycle_of (Dispatch cycle s) = (cycle, s.n)
cycle_of (Stopped cycle s stop) = (cycle, s.n)
cycle_of Never = (0, 0)

abbrev pub next_cycle : ℕ → List ℕ → ℕ × ℕ
next_cycle t game = cycle_of (next_point Usual [] 10000 t (first Usual game))

-- ---- times

-- a state at 0200 where this opcode comes, with I, the variables of a sample, 5 in the delay timer, 7 in the sound timer and 0300 on the stack
abbrev pub state_with : ℕ → ℕ → Lang
state_with i opcode = record (sample (opcode / 256 ∷ opcode % 256 ∷ [])) { i = i; stack = 0x300 ∷ []; dt = 5; st = 7 }

-- in which cycle the next point comes behind one in a cycle
abbrev pub cycle_behind : ℕ → List Event → Lang → ℕ
cycle_behind t script s = (cycle_of (next_point Usual script 10000 t s)).0

-- with this I each of these opcodes takes so many main cycles, from cycle 56 on
abbrev pub take : ℕ → List (ℕ × ℕ) → Bool
take i [] = true
take i (row ∷ rows) = (cycle_behind 56 [] (state_with i row.0) == 56 + row.1) && take i rows

-- The display wait: prepared in so many main cycles, the opcode waits for the interrupt in cycle 1092 where they are over by then, and else for the next. It goes
-- on a frame later then, and makes so many main cycles more.
abbrev pub wait : ℕ → List (ℕ × ℕ × ℕ) → Bool
wait i [] = true
wait i (row ∷ rows) =
    (cycle_behind (1092 - row.1) [] (state_with i row.0) == 2938 + row.2)
    && (cycle_behind (1093 - row.1) [] (state_with i row.0) == 6606 + row.2)
    && wait i rows

-- key 0 is down from one cycle to before another
abbrev pub press : ℕ → ℕ → ℕ → List Event
press key from to = record { cycle = from; key = key; down = true } ∷ record { cycle = to; key = key; down = false } ∷ []

-- the state of a next point
abbrev pub state_of_next : Next → Lang
state_of_next (Dispatch cycle s) = s
state_of_next (Stopped cycle s stop) = s
state_of_next Never = first Usual []

-- the state behind an opcode in cycle t
abbrev pub state_behind : ℕ → List Event → ℕ → Lang
state_behind t script opcode = state_of_next (next_point Usual script 10000 t (state_with 0x300 opcode))

-- what a run shows, in short: the cycle of each point, and the frame of each picture
abbrev pub in_short : Shown → ℕ
in_short (Picture m screen) = m
in_short (Point cycle s) = cycle
in_short (End cycle s stop) = cycle

abbrev pub shown_in_short : List ℕ → ℕ → List ℕ
shown_in_short game limit = map in_short (timed_run Usual [] limit game)
