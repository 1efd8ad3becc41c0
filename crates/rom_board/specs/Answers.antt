-- What the events that a machine meets say of the language.
use Rattle.std.specs.Prelude.{◌≡◌, ℕ, ◌+◌, ◌<◌, ◌≤◌, List, length, Option, Some, None}
use Rattle.machine.specs.Board.{Machine}
use Rattle.machine.specs.Pictures.{windows_ended}
use Rattle.chip8_lang.specs.declared.view.StopRecord.{StopRecord}
use Rattle.chip8_lang.specs.Bounds.{boot_bound}
use Rattle.chip8_lang.specs.Events.{Event}
use Rattle.chip8_lang.specs.Places.{state_of}
use Rattle.chip8_lang.specs.State.{first}
use Rattle.chip8_lang.specs.Timed.{next_point}
use Rattle.chip8_lang.specs.View.{opcode_at}
use Rattle.rom_law.specs.Language.{Begins, GoesOn, InTime, IsPast, IsStep, IsStop, frames_of}
use Rattle.rom_law.specs.Pictures.{ShowsScreen}
use Rattle.rom_law.specs.Program.{Dispatches}
use Rattle.vip_relation.specs.Follows.{last_dispatch}
use Rattle.vip_relation.specs.State.{Start, VipState, events_met, machine_of, run_of}
use Rattle.vip_relation.specs.State.Start.{Reset, Saved}
use Rattle.vip_relation.specs.declared.run.Met.{Met}
use Rattle.vip_relation.specs.declared.run.Met.TheVariants.{Picture, Dispatch, Stopped, End}
use Rattle.rom_board.specs.Program.{numbered, program}

-- The last dispatch point that was met, if one was. What `last` tells is its view, and what `shown` tells its screen.
abbrev pub last_met : VipState → Option Machine
last_met v = last_dispatch (events_met v)

-- how many frames have passed, those before the start and those whose pictures were met
abbrev pub frames_met : VipState → ℕ
frames_met v = windows_ended (machine_of v.start).cycle + length (frames_of (events_met v))

-- Events up to a limit, where no dispatch point was met, are those of a run of the language from reset. A saved machine's dispatch point was met.
abbrev pub BeginsFrom : VipState → ℕ → Start → List Event → Type 0
BeginsFrom v limit (Reset game) events = Begins (program v.edition) v.board.script limit (run_of v limit) numbered game events
BeginsFrom v limit (Saved file) events = ⊥

-- Events up to a limit, behind those met, are those of a run of the language from the last dispatch point met on, or from reset. The first picture
-- among them is that of the frame whose number is the count of those that have passed.
abbrev pub GoesOnFrom : VipState → ℕ → Option Machine → List Event → Type 0
GoesOnFrom v limit None events = BeginsFrom v limit v.start events
GoesOnFrom v limit (Some b) events = GoesOn (program v.edition) v.board.script limit (run_of v limit) numbered (frames_met v) b events

-- ---- one answer

module _ (v : VipState) where
  -- cycle t isn't too late for the next point behind the dispatch point b
  abbrev pub IsInTime : Machine → ℕ → Type 0
  IsInTime b t = InTime (program v.edition) v.board.script b.cycle (state_of v.edition b) t

  -- the first dispatch point is that of the game's first state, within the bound of boot
  pub record BeginsAt (game : List ℕ) (c : Machine) : Type 0 where
    pub stands : Dispatches (program v.edition) c (first v.edition game)
    pub soon : c.cycle ≤ boot_bound

  abbrev pub BeginsBy : Start → Machine → Type 0
  BeginsBy (Reset game) c = BeginsAt game c
  BeginsBy (Saved file) c = ⊥

  -- each next one comes by one step of the language, in time
  pub record StepsTo (b c : Machine) : Type 0 where
    pub step : IsStep (program v.edition) v.board.script b c
    pub soon : IsInTime b c.cycle

  -- the video chip has finished a picture of the screen of the language state at b
  pub record HasShown (b : Machine) (new : VipState) : Type 0 where
    pub picture : List (List ℕ)
    pub finished : new.board.pictures.finished ≡ Some picture
    pub shows : ShowsScreen v.edition picture (state_of v.edition b).screen

  -- the stop is that of the state at b, and is named with its pc and its opcode
  pub record StopsAt (b c : Machine) (answer : StopRecord) : Type 0 where
    pub stop : IsStop (program v.edition) b c
    pub soon : IsInTime b c.cycle
    pub named : answer ≡ record { stop = stop.stop; pc = (state_of v.edition b).pc; opcode = opcode_at v.edition (state_of v.edition b); cycle = c.cycle }

  -- no next point comes up to the limit: one cycle later it wouldn't be too late, and by the language's time none is due
  pub record ComesLater (limit : ℕ) (b : Machine) : Type 0 where
    pub soon : IsInTime b (limit + 1)
    pub none_due : IsPast limit (next_point v.edition v.board.script limit b.cycle (state_of v.edition b))

  -- What an answer of `advance` says, by the last dispatch point met before the call: where there is none, the first event is a dispatch point.
  abbrev pub Speaks : ℕ → VipState → Option Machine → Met → Type 0
  Speaks limit new None Dispatch = BeginsBy v.start new.board.machine
  Speaks limit new (Some b) Dispatch = StepsTo b new.board.machine
  Speaks limit new (Some b) Picture = HasShown b new
  Speaks limit new (Some b) (Stopped answer) = StopsAt b new.board.machine answer
  Speaks limit new None End = limit < boot_bound
  Speaks limit new (Some b) End = ComesLater limit b
  Speaks limit new None _ = ⊥
