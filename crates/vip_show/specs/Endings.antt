-- How a run ends.
use Rattle.std.specs.Prelude.{ℕ, List, [], ◌∷◌, Option, None}
use Rattle.chip8_lang.specs.declared.view.Edition.{Edition}
use Rattle.chip8_lang.specs.Events.{Event}
use Rattle.chip8_lang.specs.Events.Event.{Picture, Dispatch, Stopped}
use Rattle.chip8_lang.specs.View.{view_at}
use Rattle.vip_text.specs.Endings.{Ending}
use Rattle.vip_text.specs.Endings.Ending.{AtLimit, AtStop}
use Rattle.vip_relation.specs.Stops.{stop_at}

-- the ending by these events, with pc and opcode of the last dispatch point before them
unfoldable pub ending_after : Edition → ℕ → Option ℕ → List Event → Ending
ending_after e pc opcode [] = AtLimit
ending_after e pc opcode (Picture m ∷ events) = ending_after e pc opcode events
ending_after e pc opcode (Dispatch b ∷ events) = ending_after e (view_at e b).pc (view_at e b).opcode events
ending_after e pc opcode (Stopped b ∷ events) = AtStop (stop_at b) pc opcode

-- the ending of a run; a stop before any dispatch point would name pc 0 and no opcode
abbrev pub ending_of : Edition → List Event → Ending
ending_of e events = ending_after e 0 None events
