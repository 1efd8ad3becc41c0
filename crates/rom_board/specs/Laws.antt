-- What holds of every run.
use Rattle.std.specs.Prelude.{ℕ, ◌<◌, ◌≤◌, List, length, slice_index}
use Rattle.machine.specs.Board.{Machine, start}
use Rattle.machine.specs.Keys.{Event as KeyEvent, held_at}
use Rattle.machine.specs.Pictures.{windows_ended}
use Rattle.machine.specs.Run.{run_to}
use Rattle.chip8_lang.specs.declared.view.Edition.{Edition}
use Rattle.chip8_lang.specs.Events.{events_behind, events_of, game_run}
use Rattle.chip8_lang.specs.Places.{state_of}
use Rattle.chip8_lang.specs.State.{memory_size}
use Rattle.chip8_lang.specs.Timed.{shown_behind, timed_run}
use Rattle.chip8_image.specs.Interpreters.{interpreter_of}
use Rattle.rom_run.specs.States.{MayStart}
use Rattle.rom_run.specs.Timeline.{AreShown}
use Rattle.vip_text.specs.StateFile.{shown, IsAccepted}
use Rattle.vip_relation.specs.Follows.{Follows}
use Rattle.vip_relation.specs.Meets.{HasStopped, MeetsNext}
use Rattle.vip_relation.specs.State.{VipState, events_left}
use Rattle.vip_relation.specs.declared.run.Met.{Met}
use Rattle.rom_board.specs.Answers.{GoesOnFrom, Speaks, last_met}
use Rattle.rom_board.specs.Boards.{IsKnown}
use Rattle.rom_board.specs.Frames.{KeepsFrames}
use Rattle.rom_board.specs.Program.{IsRun, IsRunBehind, numbered, program}

-- the run of each game that fits is one of CHIP-8, under every script and up to every limit
abbrev pub EveryRun : Type 0
EveryRun =
    (e : Edition) (game : List ℕ)
    → length game ≤ memory_size e
    → ((i : ℕ) → slice_index game i < 256)
    → (script : List KeyEvent) (limit : ℕ)
    → IsRun e game script limit numbered

-- and so is the run from each machine that may start, behind the language state that lies in it
abbrev pub EveryStart : Type 0
EveryStart =
    (e : Edition) (b : Machine)
    → MayStart e b
    → (script : List KeyEvent) (limit : ℕ)
    → IsRunBehind e b script limit numbered

-- The events of each of these runs are those of the language's time, one for one, from reset
abbrev pub EveryTime : Type 0
EveryTime =
    (e : Edition) (game : List ℕ)
    → length game ≤ memory_size e
    → ((i : ℕ) → slice_index game i < 256)
    → (script : List KeyEvent) (limit : ℕ)
    → AreShown (program e) (game_run (interpreter_of e) game script limit) (events_of (interpreter_of e) game script limit) (timed_run e script limit game)

-- and from each machine that may start
abbrev pub EveryTimeBehind : Type 0
EveryTimeBehind =
    (e : Edition) (b : Machine)
    → MayStart e b
    → (script : List KeyEvent) (limit : ℕ)
    → AreShown (program e) (run_to (interpreter_of e).rom (held_at script) b limit) (events_behind (interpreter_of e) script b limit)
    (shown_behind e script limit limit (windows_ended b.cycle) b.cycle (state_of e b))

-- such as the one that any accepted file shows
abbrev pub FileMayStart : Type 0
FileMayStart = (e : Edition) (f : List ℕ) → ((k : ℕ) → slice_index f k < 256) → IsAccepted e f → MayStart e (shown f)

-- Each of these runs keeps to its frames up to its stop: an interrupt comes exactly in cycle 0 of a frame's line 78, none of these cycles is passed over,
-- and the screen is changed between them.
abbrev pub EveryFrame : Type 0
EveryFrame =
    (e : Edition) (game : List ℕ)
    → length game ≤ memory_size e
    → ((i : ℕ) → slice_index game i < 256)
    → (script : List KeyEvent)
    → KeepsFrames (program e) script (start game)

abbrev pub EveryFrameBehind : Type 0
EveryFrameBehind =
    (e : Edition) (b : Machine)
    → MayStart e b
    → (script : List KeyEvent)
    → KeepsFrames (program e) script b

-- after every call the board is known
abbrev pub EveryBoard : Type 0
EveryBoard = (v : VipState) → Follows v → IsKnown v

-- the events that are left are those of a run of CHIP-8 from the last dispatch point met on
abbrev pub EveryEvent : Type 0
EveryEvent =
    (v : VipState) (limit : ℕ)
    → Follows v
    → (HasStopped v → ⊥)
    → v.board.machine.cycle ≤ limit
    → GoesOnFrom v limit (last_met v) (events_left v limit)

-- so each answer of `advance` says what comes next in such a run
abbrev pub EveryAnswer : Type 0
EveryAnswer =
    (limit : ℕ) (old new : VipState) (met : Met)
    → Follows old
    → (HasStopped old → ⊥)
    → old.board.machine.cycle ≤ limit
    → MeetsNext limit old new (events_left old limit) met
    → Speaks old limit new (last_met old) met
