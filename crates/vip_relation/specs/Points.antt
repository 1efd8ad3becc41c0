-- What a state of a run is to the language.
use Rattle.std.specs.Prelude.{if◌then◌else◌, List, [], ◌∷◌}
use Rattle.machine.specs.Board.{Machine}
use Rattle.chip8_lang.specs.Events.{Event, is_dispatch, is_stop}
use Rattle.chip8_lang.specs.Events.Event.{Dispatch as DispatchEvent, Stopped}
use Rattle.chip8_lang.specs.Places.{Interpreter}
use Rattle.vip_relation.specs.declared.point.Point.{Point}
use Rattle.vip_relation.specs.declared.point.Point.TheVariants.{Dispatch, Stop, Other}

abbrev pub point_of : Interpreter → Machine → Point
point_of i b = if is_stop i b then Stop else if is_dispatch i b then Dispatch else Other

-- its event, where it is a point
abbrev pub point_events : Point → Machine → List Event
point_events Dispatch b = DispatchEvent b ∷ []
point_events Stop b = Stopped b ∷ []
point_events Other b = []
