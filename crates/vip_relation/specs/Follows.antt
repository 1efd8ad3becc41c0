-- What holds of a run after every call: its board is a state of the defined run from its start, its video chip has the pictures of the moves
-- made, and what it tells is that of the events met.
use Rattle.std.specs.Prelude.{◌≡◌, ℕ, ◌-◌, ◌<◌, ◌≤◌, false, List, length, filter_map, replicate, slice_get, slice_index, Option, Some, None}
use Rattle.std.specs.Option.{option_map, option_map_or}
use Rattle.machine.specs.Board.{Machine}
use Rattle.chip8_lang.specs.declared.view.Edition.{Edition}
use Rattle.chip8_lang.specs.Events.{Event, is_stop}
use Rattle.chip8_lang.specs.Events.Event.{Dispatch}
use Rattle.chip8_lang.specs.State.{memory_size}
use Rattle.chip8_lang.specs.View.{View, view_at}
use Rattle.vip_board.specs.Shown.{HasPicturesSince}
use Rattle.vip_cpu.specs.declared.cpu.Phase.TheVariants.{Boundary}
use Rattle.vip_text.specs.StateFile.{IsAccepted}
use Rattle.vip_relation.specs.State.{most_cycles, Start, VipState, first_events, machine_of, interpreter, events_to, events_met, state_after, states_before, screen_size, screen_bytes}
use Rattle.vip_relation.specs.State.Start.{Reset, Saved}

abbrev pub dispatch_of : Event → Option Machine
dispatch_of (Dispatch b) = Some b
dispatch_of _ = None

-- the last dispatch point among some events
abbrev pub last_dispatch : List Event → Option Machine
last_dispatch events = let points = filter_map dispatch_of events in slice_get points (length points - 1)

-- its view, and its screen, which is dark where there is none
abbrev pub last_view : Edition → List Event → Option View
last_view e events = option_map (view_at e) (last_dispatch events)

abbrev pub last_screen : Edition → List Event → List ℕ
last_screen e events = option_map_or (screen_bytes e) (last_dispatch events) (replicate (screen_size e) 0)

-- a game is one of bytes that fits into game memory
pub record GameFits (e : Edition) (game : List ℕ) : Type 0 where
  pub bytes : (k : ℕ) → slice_index game k < 256
  pub fits : length game ≤ memory_size e

-- a file is one of bytes that is accepted
pub record FileFits (e : Edition) (file : List ℕ) : Type 0 where
  pub bytes : (k : ℕ) → slice_index file k < 256
  pub accepted : IsAccepted e file

abbrev pub Fits : Edition → Start → Type 0
Fits e (Reset game) = GameFits e game
Fits e (Saved file) = FileFits e file

pub record Follows (v : VipState) : Type 0 where
  pub fits : Fits v.edition v.start
  -- the board is the state of the run after the moves made, which isn't behind a stop point
  pub phase : v.board.phase ≡ Boundary
  pub rom : v.board.rom ≡ (interpreter v).rom
  pub machine : v.board.machine ≡ state_after v v.moves
  pub runs : (k : ℕ) → k < v.moves → is_stop (interpreter v) (state_after v k) ≡ false
  pub in_time : v.board.machine.cycle ≤ most_cycles
  -- its video chip has the pictures of these moves
  pub pictures : HasPicturesSince (machine_of v.start).cycle v.board.rom (states_before v v.moves) v.board.machine.cycle v.board.pictures
  -- the first events are met, and all of the states before, and at most those at the present state too
  pub first : length (first_events v.start) ≤ v.met
  pub behind : (t : ℕ) → t < v.board.machine.cycle → length (events_to v t) ≤ v.met
  pub within : v.met ≤ length (events_to v v.board.machine.cycle)
  -- what is told is that of the last dispatch point met
  pub last : v.last ≡ last_view v.edition (events_met v)
  pub shown : v.shown ≡ last_screen v.edition (events_met v)
