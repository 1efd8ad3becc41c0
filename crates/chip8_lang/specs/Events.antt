-- The events of a run: its finished pictures, its dispatch points and its stop point.
use Rattle.std.specs.Prelude.{ℕ, zero, suc, ◌+◌, ◌-◌, ◌==◌, ◌&&◌, if◌then◌else◌, Bool, true, false, List, [], ◌∷◌, ◌++◌, filter, map}
use Rattle.machine.specs.Instruction.{at}
use Rattle.machine.specs.Keys.{Event as KeyEvent, held_at}
use Rattle.machine.specs.Board.{Machine, Case, case_of, move, start}
use Rattle.machine.specs.Board.Case.{Instruction}
use Rattle.machine.specs.Run.{run_to}
use Rattle.machine.specs.Pictures.{windows_ended, is_shown}
use Rattle.chip8_lang.specs.Places.{Interpreter}

abbrev pub is_instruction : Case → Bool
is_instruction Instruction = true
is_instruction _ = false

-- the next move is an instruction, at this address by this program counter
abbrev pub is_at : ℕ → ℕ → Machine → Bool
is_at p address b = is_instruction (case_of b) && b.regs.p == p && at b.regs p == address

abbrev pub is_dispatch : Interpreter → Machine → Bool
is_dispatch i b = is_at 4 i.fetch b

abbrev pub is_stop : Interpreter → Machine → Bool
is_stop i b = is_at 3 i.halt b

-- an event: the picture of a frame, or a state of the run
pub data Event : Type 0 where
  Picture : (m : ℕ) → Event
  Dispatch : (b : Machine) → Event
  Stopped : (b : Machine) → Event

-- n numbers from m on
abbrev pub numbers_from : ℕ → ℕ → List ℕ
numbers_from m zero = []
numbers_from m (suc n) = m ∷ numbers_from (m + 1) n

module _ (i : Interpreter) (run : List Machine) where
  -- the frames with a picture whose window has ended by cycle t, but had not by the cycle before
  abbrev pub pictures_at : ℕ → ℕ → List Event
  pictures_at before t = map Picture (filter (is_shown i.rom run) (numbers_from (windows_ended before) (windows_ended t - windows_ended before)))

  -- The events at these states of the run, of which the state before the first one has cycle `before`: a picture first, and none
  -- after the first stop point.
  abbrev pub events_at : ℕ → List Machine → List Event
  events_at before [] = []
  events_at before (b ∷ bs) =
      pictures_at before b.cycle
      ++ (if is_stop i b then Stopped b ∷ [] else if is_dispatch i b then Dispatch b ∷ events_at b.cycle bs else events_at b.cycle bs)

-- the run of a game under a script, up to a cycle
abbrev pub game_run : Interpreter → List ℕ → List KeyEvent → ℕ → List Machine
game_run i game script limit = run_to i.rom (held_at script) (start game) limit

-- its events
unfoldable pub events_of : Interpreter → List ℕ → List KeyEvent → ℕ → List Event
events_of i game script limit = events_at i (game_run i game script limit) 0 (game_run i game script limit)

-- the events of a run up to a cycle that come behind its first state
abbrev pub events_behind : Interpreter → List KeyEvent → Machine → ℕ → List Event
events_behind i script b limit =
    events_at i (run_to i.rom (held_at script) b limit) b.cycle (run_to i.rom (held_at script) (move i.rom (held_at script) b) limit)
