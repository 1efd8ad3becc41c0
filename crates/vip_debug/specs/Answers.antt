-- What commands write of a run, and where they leave the board: a fold over the commands. Its state is the place of the board in the run: how
-- many moves were made, which says the machine and its cycle, and how many events were met.
use Rattle.std.specs.Option.{option_to_list}
use Rattle.std.specs.Prelude.{◌≡◌, ◌⊎◌, ℕ, ◌+◌, ◌-◌, ◌==◌, if◌then◌else◌, Bool, true, false, List, [], ◌∷◌, ◌++◌, length, take, drop, find, filter_map, Option, Some, None, codes, slice_get}
use Rattle.machine.specs.Board.{Machine}
use Rattle.chip8_lang.specs.declared.view.StopRecord.{StopRecord}
use Rattle.chip8_lang.specs.Events.{Event, is_stop}
use Rattle.chip8_lang.specs.View.{view_at}
use Rattle.vip_text.specs.Stops.{stop_line}
use Rattle.vip_byte.specs.Text.{newline}
use Rattle.vip_text.specs.Traces.{told_line}
use Rattle.vip_outside.specs.Sink.{SinkMeaning}
use Rattle.vip_outside.specs.Pieces.{PutsAll, FailsWithin}
use Rattle.vip_relation.specs.State.{VipState, first_events, interpreter, events_to, begun as begun_from, state_after}
use Rattle.vip_relation.specs.Follows.{dispatch_of, last_view, last_screen}
use Rattle.vip_relation.specs.Meets.{IsSame}
use Rattle.vip_relation.specs.Stops.{stop_record}
use Rattle.vip_debug.specs.Code.{clear_byte, code_lines}
use Rattle.vip_debug.specs.Shown.{state_line, screen_text}
use Rattle.vip_debug.specs.Game.{run_at}
use Rattle.vip_debug.specs.TargetRun as run
use Rattle.vip_debug.specs.Fold.{after_all, all_pieces}
use Rattle.vip_debug.specs.Commands.{came}
use Rattle.vip_debug.specs.Answered.{completed_lines, shown}
use Rattle.vip_words.specs.Spoken.{Spoken}
use Rattle.vip_words.specs.declared.debug_commands.Command.{Command}
use Rattle.vip_words.specs.declared.debug_commands.Command.TheVariants.{Runs, Shows, Seeks, Tells}
use Rattle.vip_words.specs.declared.debug_commands.Running.{Running}
use Rattle.vip_words.specs.declared.debug_commands.Seeking.{Seeking}
use Rattle.vip_words.specs.declared.debug_commands.Seeking.TheVariants.{Next, Break}
use Rattle.vip_words.specs.declared.debug_commands.Telling.{Telling}
use Rattle.vip_words.specs.declared.debug_commands.Telling.TheVariants.{State, Screen, Code}
use Rattle.vip_debug.specs.declared.looks.Looks.{Looks}
use Rattle.vip_debug.specs.declared.run.DebugEnd.{DebugEnd}
use Rattle.vip_debug.specs.declared.run.DebugEnd.TheVariants.{Done, Stopped, WriteFault}

-- the same start under the same script before its first move: of a state of the run it tells all that the definitions below ask for
abbrev pub begun : VipState → VipState
begun v = begun_from v.edition v.start v.board.script

-- how many moves are made up to a cycle: none behind a stop point
abbrev pub moves_until : VipState → ℕ → ℕ
moves_until v cycle = run.moves_until (run_at v 0) cycle

-- the events up to the state after so many moves
abbrev pub events_by : VipState → ℕ → List Event
events_by v moves = events_to v (state_after v moves).cycle

-- ---- a place in the run

-- how many moves were made, and how many events were met
pub record Place : Type 0 where
  pub moves : ℕ
  pub met : ℕ

abbrev pub place_of : VipState → Place
place_of v = record { moves = v.moves; met = v.met }

-- before the first move: of a run from a file its own dispatch point counts as met
abbrev pub at_start : VipState → Place
at_start v = record { moves = 0; met = length (first_events v.start) }

-- after so many moves, with every event up to there met
abbrev pub all_met : VipState → ℕ → Place
all_met v moves = record { moves = moves; met = length (events_by v moves) }

-- the events that are met at a place, and the dispatch points up to the limit that aren't
abbrev pub met_at : VipState → Place → List Event
met_at v p = take p.met (events_by v p.moves)

abbrev pub points_ahead : VipState → ℕ → Place → List Machine
points_ahead v limit p = filter_map dispatch_of (drop p.met (events_to v limit))

-- ---- where a command that runs comes to

-- a place, and whether the command is completed there
pub record Arrival : Type 0 where
  pub place : Place
  pub completed : Bool

-- after so many moves more: a board that makes one meets every event up to its new cycle, and one that makes none meets none
abbrev pub moved_on : VipState → ℕ → Place → Place
moved_on v moves p = if moves == 0 then p else all_met v (p.moves + moves)

-- at a dispatch point, or at the end of the run where there is none; every event up to there is met
abbrev pub at_point : VipState → ℕ → Option Machine → Arrival
at_point v limit (Some b) = record { place = all_met v (moves_until v b.cycle); completed = true }
at_point v limit None = record { place = all_met v (moves_until v limit); completed = false }

abbrev pub has_pc : VipState → ℕ → Machine → Bool
has_pc v pc b = (view_at v.edition b).pc == pc

-- a command that runs the board, whatever runs on it
abbrev pub ran : VipState → ℕ → Running → Place → Arrival
ran v limit running p = let c = came (run_at v p.moves) limit running in record { place = moved_on v c.moves p; completed = c.completed }

-- a command that looks for a dispatch point
abbrev pub sought : VipState → ℕ → Seeking → Place → Arrival
sought v limit (Next n) p = at_point v limit (slice_get (points_ahead v limit p) (n - 1))
sought v limit (Break pc) p = at_point v limit (find (has_pc v pc) (points_ahead v limit p))

-- ---- what is written

-- the stop at a stop point, by the last dispatch point before it
abbrev pub stop_by : VipState → ℕ → StopRecord
stop_by v moves = stop_record (last_view v.edition (events_by v moves)) (state_after v moves)

abbrev pub stop_text : StopRecord → List ℕ
stop_text stop = stop_line stop.stop stop.pc stop.opcode

-- what a command writes that comes there: at a stop point the stop is named, and else one that isn't completed says so; these lines where it is
unfoldable pub lines_at : VipState → Arrival → List (List ℕ) → List (List ℕ)
lines_at v a lines =
    if is_stop (interpreter v) (state_after v a.place.moves) then stop_text (stop_by v a.place.moves) ∷ []
    else if a.completed then lines
    else (codes "end" ++ newline) ∷ []

abbrev pub running_lines : VipState → ℕ → Running → Place → List (List ℕ)
running_lines v limit running p =
    let r = run_at v p.moves in lines_at v (ran v limit running p) (completed_lines None r running (came r limit running).moves)

-- of a dispatch point its record, with the source's line that gave its opcode, where that is told
abbrev pub seeking_lines : Looks → VipState → Arrival → List (List ℕ)
seeking_lines looks v a = lines_at v a (told_line looks.origins looks.columns (view_at v.edition (state_after v a.place.moves)) ∷ [])

-- what was met of the language, or opcodes in words; a screen is one piece
abbrev pub told : Looks → VipState → Telling → Place → List (List ℕ)
told looks v State p = state_line looks.origins looks.columns (last_view v.edition (met_at v p)) ∷ []
told looks v Screen p = screen_text v.edition (last_screen v.edition (met_at v p)) ∷ []
told looks v (Code address count) p = code_lines (clear_byte (interpreter v).rom (state_after v p.moves)) looks.origins address count

-- each line is a piece of its own, that of a label too
abbrev pub pieces : Looks → VipState → ℕ → Command → Place → List (List ℕ)
pieces looks v limit (Runs running) p = running_lines v limit running p
pieces looks v limit (Shows showing) p = shown looks.origins (interpreter v).rom (state_after v p.moves) showing
pieces looks v limit (Seeks seeking) p = seeking_lines looks v (sought v limit seeking p)
pieces looks v limit (Tells telling) p = told looks v telling p

-- the place after a command
abbrev pub place_with : VipState → ℕ → Command → Place → Place
place_with v limit (Runs running) p = (ran v limit running p).place
place_with v limit (Seeks seeking) p = (sought v limit seeking p).place
place_with v limit _ p = p

-- ---- all commands

abbrev pub place_after : VipState → ℕ → List Spoken → Place → Place
place_after v limit = after_all (place_with v limit)

abbrev pub written : Looks → VipState → ℕ → List Spoken → Place → List (List ℕ)
written looks v limit = all_pieces (place_with v limit) (pieces looks v limit)

-- the board is at a place of the run of `start`
pub record StandsAt (start : VipState) (p : Place) (v : VipState) : Type 0 where
  pub same : IsSame start v
  pub made : v.moves ≡ p.moves
  pub met : v.met ≡ p.met
  pub machine : v.board.machine ≡ state_after start p.moves

-- A put of a command's echo failed, and the board is at the place before it; or the echo went out, a put of its answer failed, and the board is
-- where the command leaves it.
abbrev pub Breaks : Looks → VipState → ℕ → Spoken → Place → VipState → SinkMeaning → SinkMeaning → Type 0
Breaks looks start limit spoken p v old new =
    (FailsWithin (option_to_list spoken.echo) old new × StandsAt start p v)
    ⊎ ((middle : SinkMeaning) × PutsAll (option_to_list spoken.echo) old middle × FailsWithin (pieces looks start limit spoken.command p) middle new
    × StandsAt start (place_with start limit spoken.command p) v)

-- the commands before one went out whole, and it broke off
pub record Faults (looks : Looks) (start : VipState) (limit : ℕ) (commands : List Spoken) (p : Place) (v : VipState) (old new : SinkMeaning) : Type 0 where
  pub before : List Spoken
  pub command : Spoken
  pub after : List Spoken
  pub place : commands ≡ before ++ command ∷ after
  pub middle : SinkMeaning
  pub whole : PutsAll (written looks start limit before p) old middle
  pub breaks : Breaks looks start limit command (place_after start limit before p) v middle new

-- all pieces went out whole, and the board is where the commands leave it
pub record RunsWhole (looks : Looks) (start : VipState) (limit : ℕ) (commands : List Spoken) (p : Place) (v : VipState) (old new : SinkMeaning) : Type 0 where
  pub puts : PutsAll (written looks start limit commands p) old new
  pub stands : StandsAt start (place_after start limit commands p) v

-- what all commands answer, from a place on; it is a stop exactly where the board is at a stop point in the end
abbrev pub DebugAnswers : Looks → VipState → ℕ → List Spoken → Place → VipState → SinkMeaning → SinkMeaning → DebugEnd → Type 0
DebugAnswers looks start limit commands p v old new Done =
    RunsWhole looks start limit commands p v old new × (is_stop (interpreter start) v.board.machine ≡ false)
DebugAnswers looks start limit commands p v old new (Stopped stop) =
    RunsWhole looks start limit commands p v old new
    × (is_stop (interpreter start) v.board.machine ≡ true)
    × (stop ≡ stop_by start (place_after start limit commands p).moves)
DebugAnswers looks start limit commands p v old new WriteFault =
    FailsWithin (written looks start limit commands p) old new × Faults looks start limit commands p v old new
