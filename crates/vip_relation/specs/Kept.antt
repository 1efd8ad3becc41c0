-- What the fields of a run mean, and what holds of them.
use Rattle.std.specs.Prelude.{◌≡◌, ℕ, List, [], ◌∷◌, ◌<◌, ◌≤◌, None, Some}
use Rattle.std.specs.Option.{option_map}
use Rattle.machine.specs.Pictures.{window_end, picture_of}
use Rattle.chip8_lang.specs.Events.Event.{Picture as PictureEvent}
use Rattle.chip8_lang.specs.View.{View}
use Rattle.chip8_image.specs.Interpreters.{interpreter_of}
use Rattle.vip_relation.specs.State.Start.{Reset, Saved}
use Rattle.vip_relation.specs.State.{Start, VipState, interpreter, events_met, events_waiting, state_after, states_before}
use Rattle.vip_relation.specs.Follows.{Follows, last_view, last_screen}
use Rattle.vip_relation.specs.Points.{point_of, point_events}
use Rattle.vip_relation.specs.declared.point.Point.{Point}
use Rattle.vip_relation.specs.declared.run.Named.{Named}
use Rattle.vip_relation.specs.declared.run.Origin.{Origin}
use Rattle.vip_relation.specs.declared.run.Origin.TheVariants.{Game, File}
use Rattle.vip_relation.specs.declared.run.Waits.{Waits}
use Rattle.vip_relation.specs.declared.run.Waits.TheVariants.{Picture, Point as PointWaits, Nothing}
use Rattle.vip_relation.specs.declared.run.Run.TheInside.{Inside}

-- what is told of the last dispatch point met, by the run alone: no field keeps it
abbrev pub by_run : VipState → VipState
by_run v = record v { last = last_view v.edition (events_met v); shown = last_screen v.edition (events_met v) }

-- the start, by its kind and its bytes
abbrev pub start_of : Origin → List ℕ → Start
start_of Game bytes = Reset bytes
start_of File bytes = Saved bytes

abbrev pub state_of : Inside → VipState
state_of a =
    by_run
    (record { edition = a.edition; start = start_of a.origin a.bytes.items; moves = a.moves; met = a.met; board = a.board; last = None; shown = [] })

-- what a stop names of a dispatch point
abbrev pub named : View → Named
named view = record { pc = view.pc; opcode = view.opcode }

-- the picture of a frame was finished by the last move, and its event waits with that of the point
pub record PictureWaits (v : VipState) (point : Point) : Type 0 where
  pub frame : ℕ
  pub events : events_waiting v ≡ PictureEvent frame ∷ point_events point v.board.machine
  pub ended : window_end frame ≤ v.board.machine.cycle
  pub first : (k : ℕ) → k < v.moves → (state_after v k).cycle < window_end frame
  pub finished : v.board.pictures.finished ≡ Some (picture_of (interpreter v).rom (states_before v v.moves) frame)

-- the events that wait at the present state
abbrev pub HasWaiting : Waits → VipState → Point → Type 0
HasWaiting Picture v point = PictureWaits v point
HasWaiting PointWaits v point = events_waiting v ≡ point_events point v.board.machine
HasWaiting Nothing v point = events_waiting v ≡ []

pub record IsKept (a : Inside) : Type 0 where
  pub follows : Follows (state_of a)
  pub point : a.point ≡ point_of (interpreter_of a.edition) a.board.machine
  pub waiting : HasWaiting a.waits (state_of a) a.point
  pub last : a.last ≡ option_map named (state_of a).last
