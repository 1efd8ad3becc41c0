-- What is proved of the whole interpreter's ROM.
use Rattle.std.specs.Prelude.{◌≡◌, ℕ, suc, ◌+◌, ◌-◌, ◌<◌, ◌≤◌, true, false, List, length, slice_index, Some}
use Rattle.machine.specs.Instruction.{at}
use Rattle.machine.specs.Board.{Machine, move, start}
use Rattle.machine.specs.Keys.{Event, held_at}
use Rattle.machine.specs.Pictures.{interrupt_at, windows_ended, place, interrupt_place}
use Rattle.machine.specs.Ranges.{FitsMachine}
use Rattle.machine.specs.Run.{run_to}
use Rattle.chip8_image.specs.declared.parts.Part.{Part}
use Rattle.chip8_image.specs.declared.TheConstants.{DISPATCH}
use Rattle.chip8_image.specs.declared.parts.Part.TheVariants.{Fetch}
use Rattle.chip8_image.specs.Parts.{part_of}
use Rattle.chip8_lang.specs.declared.view.Edition.{Edition}
use Rattle.chip8_lang.specs.Bounds.{bound_of}
use Rattle.chip8_lang.specs.Events.{game_run, events_of, numbers_from, events_behind}
use Rattle.chip8_lang.specs.State.{memory_size, is_fetchable}
use Rattle.rom_law.specs.Code.{Input, moved}
use Rattle.rom_law.specs.Language.{Begins, GoesOn, nothing_else, frames_of, end_cycle}
use Rattle.rom_law.specs.Program.{code}
use Rattle.rom_law.specs.Runs.{Moves, carried, state_after}
use Rattle.rom_law.specs.Rows.{Since, Row, Outcome, after_main}
use Rattle.rom_law.specs.Schedules.{EverySchedule}
use Rattle.rom_rows.specs.Rom.{image, vip}
use Rattle.rom_rows.specs.Table.{pieces}
use Rattle.rom_parts.specs.fetch.Laws.{boot_moves}
use Rattle.rom_run.specs.Display.{Display, WritesScreen, SameInterval, AtDisplay, Changes}
use Rattle.rom_run.specs.Running.{Running, Booting, FromBoot, Showing}
use Rattle.rom_run.specs.Time.{most_changing, since_return, wait_time}
use Rattle.rom_run.specs.States.{MayStart, Beginning, BootsTo, Unstopped, StateKnown, InterruptedThere, ReachesCycle}

-- whenever timer ticks come, main code does what the language says
abbrev pub AnySchedule : Type 0
AnySchedule = (e : Edition) → EverySchedule (vip e)

-- the law of a run of the board from reset, for every game that fits into game memory, every key script and every limit
abbrev pub EveryRun : Type 0
EveryRun =
    (e : Edition) (game : List ℕ)
    → length game ≤ memory_size e
    → ((i : ℕ) → slice_index game i < 256)
    → (script : List Event) (limit : ℕ)
    → Begins (vip e) script limit (game_run (vip e).interpreter game script limit) nothing_else game (events_of (vip e).interpreter game script limit)

-- and from any machine that may start
abbrev pub FromAnyStart : Type 0
FromAnyStart =
    (e : Edition) (b : Machine)
    → MayStart e b
    → (script : List Event) (limit : ℕ)
    → GoesOn (vip e) script limit (run_to (image e) (held_at script) b limit) nothing_else (windows_ended b.cycle) b
    (events_behind (vip e).interpreter script b limit)

-- boot comes to such a machine
abbrev pub BootStarts : Type 0
BootStarts =
    (e : Edition) (game : List ℕ)
    → length game ≤ memory_size e
    → ((i : ℕ) → slice_index game i < 256)
    → (script : List Event)
    → BootsTo e game (state_after (vip e) script (start game) boot_moves)

-- The pictures of a run from reset, and from any start, are those of all frames whose windows end before it stops, or up to its limit.
abbrev pub EveryPicture : Type 0
EveryPicture =
    (e : Edition) (game : List ℕ)
    → length game ≤ memory_size e
    → ((i : ℕ) → slice_index game i < 256)
    → (script : List Event) (limit : ℕ)
    → let events = events_of (vip e).interpreter game script limit in
    frames_of events ≡ numbers_from 0 (windows_ended (end_cycle limit events))

abbrev pub EveryPictureBehind : Type 0
EveryPictureBehind =
    (e : Edition) (b : Machine)
    → MayStart e b
    → (script : List Event) (limit : ℕ)
    → let events = events_behind (vip e).interpreter script b limit in
    frames_of events ≡ numbers_from (windows_ended b.cycle) (windows_ended (end_cycle limit events) - windows_ended b.cycle)

-- ---- every state of a run

-- each state up to the stop is in boot, or `Running` holds of it with the record of the moves since the last dispatch point
abbrev pub EveryState : Type 0
EveryState = (e : Edition) (script : List Event) (first : Machine) → Beginning e first → (i : ℕ) → Unstopped (vip e) script first (suc i) → StateKnown e script first i

-- the next move of each of these is an interrupt exactly in the cycle of a frame's interrupt
abbrev pub EveryInterrupt : Type 0
EveryInterrupt =
    (e : Edition) (script : List Event) (first : Machine) → Beginning e first → (i : ℕ) → Unstopped (vip e) script first (suc i)
    → InterruptedThere (state_after (vip e) script first i)

-- and none of these cycles is passed over
abbrev pub NoneMissing : Type 0
NoneMissing =
    (e : Edition) (script : List Event) (first : Machine)
    → Beginning e first
    → (i : ℕ)
    → Unstopped (vip e) script first i
    → (m : ℕ)
    → first.cycle ≤ interrupt_at m
    → interrupt_at m ≤ (state_after (vip e) script first i).cycle
    → ReachesCycle (vip e) script first i (interrupt_at m)

-- ---- a move

-- Each move of the board keeps what is known of it, and carries its record on: it comes to no event; to a dispatch, with what lies between the
-- two, and the record begins anew; or to the stop of the state.
abbrev pub MainRows : Type 0
MainRows =
    (e : Edition) (script : List Event) (b : Machine) (h : Since)
    → Running e script b h
    → Moves (vip e) script (Running e script) (carried (image e) (held_at script) b h) (move (image e) (held_at script) b)

-- and it ends within the bound of the instruction, where that has one
abbrev pub Timely : Type 0
Timely =
    (e : Edition) (script : List Event) (b : Machine) (h : Since) (bound : ℕ)
    → Running e script b h
    → bound_of e h.state ≡ Some bound
    → (move (image e) (held_at script) b).cycle ≤ h.from + bound

-- ---- the display

-- No interrupt comes while the screen is changed: in the cycle of each one the screen in RAM is that of the last dispatch point.
abbrev pub Undisturbed : Type 0
Undisturbed =
    (e : Edition) (script : List Event) (b : Machine) (h : Since)
    → Running e script b h
    → place b.cycle ≡ interrupt_place
    → Showing e b h

-- Where main code waits, its instruction is 00E0 or DXYN: it waits for the display, after exactly the main cycles of its time, which are these at most.
abbrev pub WaitsSoon : Type 0
WaitsSoon =
    (e : Edition) (script : List Event) (b : Machine) (h : Since)
    → Running e script b h
    → b.regs.ie ≡ true
    → b.regs.idle ≡ true
    → Display h (λ most. (h.spent ≡ wait_time e h.state) × (h.spent ≤ most))

-- Main code writes to the screen in 00E0 and DXYN alone, at most 1,560 cycles after the return of the interrupt routine that ended the wait.
abbrev pub WritesSoon : Type 0
WritesSoon =
    (e : Edition) (script : List Event) (b : Machine) (h : Since)
    → Running e script b h
    → WritesScreen (vip e) (held_at script) b
    → Display h (λ most. since_return b.cycle ≤ most_changing)

-- Behind the wait, and from the first write to the screen on, main code runs up to the next dispatch point, and no interrupt comes.
abbrev pub ChangesSoon : Type 0
ChangesSoon =
    (e : Edition) (script : List Event) (first : Machine)
    → MayStart e first
    → (j i : ℕ)
    → j ≤ i
    → Unstopped (vip e) script first (suc i)
    → SameInterval (vip e) script first j i
    → AtDisplay (vip e) script first j
    → Changes (vip e) script first j i

-- ---- a part of the ROM

-- the next address lies in the part
abbrev pub IsIn : Part → Machine → Type 0
IsIn p b = part_of (at b.regs b.regs.p) ≡ p

-- From each state in a row whose next address lies there a main move, with a value of EFX and some keys, comes to a row without an event, to a
-- dispatch or to a stop, with the record carried on.
abbrev pub RowsIn : Part → Type 0
RowsIn p =
    (e : Edition) (u : Input) (b : Machine) (h : Since)
    → FitsMachine b
    → b.regs.idle ≡ false
    → IsIn p b
    → Row (vip e) (pieces (vip e)) b h
    → Outcome (vip e) (pieces (vip e)) (moved (code (vip e)) u b) (after_main u h)

-- The same of the board's own move, where `Running` holds.
abbrev pub MovesIn : Part → Type 0
MovesIn p =
    (e : Edition) (script : List Event) (b : Machine) (h : Since)
    → Running e script b h
    → IsIn p b
    → Moves (vip e) script (Running e script) (carried (image e) (held_at script) b h) (move (image e) (held_at script) b)

-- and of those of boot
abbrev pub BootRows : Type 0
BootRows =
    (e : Edition) (script : List Event) (game : List ℕ) (b : Machine)
    → Booting e script game b
    → FromBoot e script game (move (image e) (held_at script) b)

-- Where a move of the fetch takes P from 4 to 3 for an opcode in game memory, exactly DISPATCH main cycles have passed since the dispatch point
-- when it ends.
abbrev pub DispatchIn : Type 0
DispatchIn =
    (e : Edition) (script : List Event) (b : Machine) (h : Since)
    → Running e script b h
    → IsIn Fetch b
    → is_fetchable e h.state ≡ true
    → b.regs.p ≡ 4
    → (move (image e) (held_at script) b).regs.p ≡ 3
    → (carried (image e) (held_at script) b h).spent ≡ DISPATCH
