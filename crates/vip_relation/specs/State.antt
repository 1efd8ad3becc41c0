-- A run, as its callers see it, and its start.
use Rattle.std.specs.Prelude.{ℕ, ◌-◌, List, [], ◌∷◌, take, drop, length, replicate, slice_range, Option, Some, None}
use Rattle.machine.specs.Board.{Machine, start}
use Rattle.machine.specs.Keys.{Event as KeyEvent, held_at}
use Rattle.machine.specs.Run.{after_moves, run_to, states}
use Rattle.chip8_lang.specs.declared.view.Edition.{Edition}
use Rattle.chip8_lang.specs.Editions.{screen_start}
use Rattle.chip8_lang.specs.Events.{Event, events_behind, events_of}
use Rattle.chip8_lang.specs.Events.Event.{Dispatch}
use Rattle.chip8_lang.specs.Places.{Interpreter}
use Rattle.chip8_lang.specs.View.{View, view_at}
use Rattle.vip_text.specs.StateFile.{shown as saved_machine}
use Rattle.vip_board.specs.Seen.{Seen, held_by}
pub use Rattle.vip_byte.specs.Number.{most_cycles}
use Rattle.vip_cpu.specs.declared.cpu.Phase.TheVariants.{Boundary}
use Rattle.vip_video.specs.Chip.{nothing_before}
use Rattle.chip8_image.specs.Interpreters.{interpreter_of}

-- ---- the start of a run

-- a reset with a game in memory, or the machine state that a file shows
pub data Start : Type 0 where
  Reset : (game : List ℕ) → Start
  Saved : (file : List ℕ) → Start

abbrev pub machine_of : Start → Machine
machine_of (Reset game) = start game
machine_of (Saved file) = saved_machine file

-- the dispatch point at which a file was saved, an event that counts as met
abbrev pub first_events : Start → List Event
first_events (Reset game) = []
first_events (Saved file) = Dispatch (saved_machine file) ∷ []

-- the events of the run from a start under a script up to a cycle
abbrev pub events_from : Interpreter → List KeyEvent → Start → ℕ → List Event
events_from i script (Reset game) limit = events_of i game script limit
events_from i script (Saved file) limit = Dispatch (saved_machine file) ∷ events_behind i script (saved_machine file) limit

-- ---- a run

-- The edition and the start; how many moves were made, and how many events were met; the board with its key script; the view of the last
-- dispatch point met, and the bytes of the screen there.
pub record VipState : Type 0 where
  pub edition : Edition
  pub start : Start
  pub moves : ℕ
  pub met : ℕ
  pub board : Seen
  pub last : Option View
  pub shown : List ℕ

abbrev pub interpreter : VipState → Interpreter
interpreter v = interpreter_of v.edition

-- the run from the start under the script up to a cycle, and its events
abbrev pub run_of : VipState → ℕ → List Machine
run_of v limit = run_to (interpreter v).rom (held_at v.board.script) (machine_of v.start) limit

abbrev pub events_to : VipState → ℕ → List Event
events_to v limit = events_from (interpreter v) v.board.script v.start limit

-- the events up to a cycle that aren't met yet
abbrev pub events_left : VipState → ℕ → List Event
events_left v limit = drop v.met (events_to v limit)

-- the events up to the present cycle that are met, and those that aren't
abbrev pub events_met : VipState → List Event
events_met v = take v.met (events_to v v.board.machine.cycle)

abbrev pub events_waiting : VipState → List Event
events_waiting v = events_left v v.board.machine.cycle

-- the state of the run after so many moves, and the states before it
abbrev pub state_after : VipState → ℕ → Machine
state_after v n = after_moves (interpreter v).rom (held_by v.board) (machine_of v.start) n

abbrev pub states_before : VipState → ℕ → List Machine
states_before v n = states (interpreter v).rom (held_by v.board) (machine_of v.start) n

-- how many moves of the run end at or before a cycle
abbrev pub moves_by : VipState → ℕ → ℕ
moves_by v limit = length (run_of v limit) - 1

-- the bytes of the screen of an edition
abbrev pub screen_size : Edition → ℕ
screen_size e = 0x1000 - screen_start e

abbrev pub screen_bytes : Edition → Machine → List ℕ
screen_bytes e b = slice_range b.ram (screen_start e) 0x1000

-- what is told at a start: of the dispatch point that was saved
abbrev pub first_view : Edition → Start → Option View
first_view e (Reset game) = None
first_view e (Saved file) = Some (view_at e (saved_machine file))

abbrev pub first_screen : Edition → Start → List ℕ
first_screen e (Reset game) = replicate (screen_size e) 0
first_screen e (Saved file) = screen_bytes e (saved_machine file)

-- from a start under a script, before the first move
abbrev pub begun : Edition → Start → List KeyEvent → VipState
begun e s script =
    record {
      edition = e;
      start = s;
      moves = 0;
      met = length (first_events s);
      board =
          record {
            machine = machine_of s;
            phase = Boundary;
            pictures = nothing_before (machine_of s).cycle;
            rom = (interpreter_of e).rom;
            script = script;
          };
      last = first_view e s;
      shown = first_screen e s;
    }

-- with a game
abbrev pub started : Edition → List ℕ → List KeyEvent → VipState
started e game script = begun e (Reset game) script
