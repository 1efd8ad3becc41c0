-- What is known of the board along its run, from the first dispatch point up to the stop, with the record of what came since the last
-- dispatch point.
use Rattle.std.specs.Prelude.{◌≡◌, ℕ, ◌+◌, ◌%◌, ◌<◌, ◌≤◌, ◌⊎◌, true, false, List, length, slice_index}
use Rattle.machine.specs.Board.{Machine, start}
use Rattle.machine.specs.Keys.{Event, held_at}
use Rattle.machine.specs.Run.{after_moves}
use Rattle.machine.specs.Ranges.{FitsMachine}
use Rattle.machine.specs.Pictures.{interrupt_at, place, interrupt_place}
use Rattle.chip8_lang.specs.declared.view.Edition.{Edition}
use Rattle.chip8_lang.specs.declared.view.Stop.{Stop}
use Rattle.chip8_lang.specs.Editions.{rows_of}
use Rattle.chip8_lang.specs.Places.{state_of}
use Rattle.chip8_lang.specs.State.{Lang, first, memory_size, instr_at}
use Rattle.chip8_lang.specs.Bounds.{boot_bound}
use Rattle.chip8_lang.specs.Events.{is_dispatch, is_stop}
use Rattle.chip8_lang.specs.Timed.{between_routines, interrupts, later}
use Rattle.rom_law.specs.Code.{is_event}
use Rattle.rom_law.specs.Moments.{Moment, Among, is_waiting}
use Rattle.rom_law.specs.Program.{code, Dispatches}
use Rattle.rom_law.specs.Rows.{Since, Row, Stepped, Stopped, after_tick, dispatched}
use Rattle.rom_law.specs.Runs.{Covers}
use Rattle.rom_rows.specs.Rom.{image, vip}
use Rattle.rom_rows.specs.Table.{pieces}
use Rattle.rom_parts.specs.fetch.Laws.{boot_moves}
use Rattle.rom_parts.specs.timer.Frame.{IsOutside, IsMainPlace}
use Rattle.rom_parts.specs.timer.Routine.{routine_moves}
use Rattle.rom_run.specs.Time.{since_return, Timed, DueInTime}

-- Behind an interrupt of the interval main code runs where its routine has returned, up to the next one's cycle; and an instruction is made before it
-- waits.
pub record IsBehind (b : Machine) : Type 0 where
  pub back : since_return b.cycle ≤ between_routines
  pub moved : b.regs.idle ≡ true → 2 ≤ since_return b.cycle

-- A main move is made in the cycle that its main cycles tell: its ticks are the interrupts before, and its keys those of the cycle after its fetch.
pub record Dated (script : List Event) (from : ℕ) (m : Moment) : Type 0 where
  pub ticks : m.ticks ≡ interrupts from m.spent
  pub held : m.held ≡ held_at script (later from m.spent + 1)

-- The interval from the last dispatch point up to b, where main code runs or waits, which the record covers. Where main code runs, the cycle is
-- even. Its main moves are made in their cycles, but for an instruction that waits for the display.
pub record Interval (e : Edition) (script : List Event) (b : Machine) (h : Since) : Type 0 where
  pub fits : FitsMachine b
  pub outside : IsOutside b.cycle
  pub even : b.regs.idle ≡ false → b.cycle % 2 ≡ 0
  pub from : h.from ≤ b.cycle
  pub begun : place h.from ≡ interrupt_place → ⊥
  pub starts : IsMainPlace h.from
  pub behind : (h.ticks ≡ 0) ⊎ IsBehind b
  pub past : is_waiting (instr_at h.state) ≡ false → (m : Moment) → Among m h.moments → Dated script h.from m
  pub covers : Covers (vip e) script b h

-- b is at no dispatch and at no stop, or it is the dispatch point at which the record begins
pub data Counted (e : Edition) (b : Machine) : Type 0 where
  NoEvent : is_event (code (vip e)) b ≡ false → Counted e b
  Renewed : b.regs.idle ≡ false → (place b.cycle ≡ interrupt_place → ⊥) → Counted e b

-- a dispatch, which isn't that of 00E0 or DXYN, or a stop
pub data Due (e : Edition) (b : Machine) (h : Since) : Type 0 where
  Arrives : (s : Lang) → Stepped (vip e) b h s → is_waiting (instr_at h.state) ≡ false → Due e b h
  Ends : (stop : Stop) → Stopped (vip e) b h stop → Due e b h

-- ---- the screen

-- the screen in RAM is that of the language state at the last dispatch point
abbrev pub Showing : Edition → Machine → Since → Type 0
Showing e b h = (px py : ℕ) → px < 64 → py < rows_of e → (state_of e b).screen px py ≡ h.state.screen px py

-- ---- the board

-- Outside of the interrupt routine the machine is in a row. Or a dispatch or a stop came in the cycle of an interrupt: then the board makes
-- the interrupt first, and the event is the state after the routine; the screen hasn't changed since the last dispatch point.
pub data Outside (e : Edition) (script : List Event) (b : Machine) (h : Since) : Type 0 where
  AtRow : Interval e script b h → Row (vip e) (pieces (vip e)) b h → Counted e b → Timed e b h → Outside e script b h
  AtEvent : Interval e script b h → place b.cycle ≡ interrupt_place → Due e b h → DueInTime e b h → Showing e b h → Outside e script b h

-- in the routine of frame m, k moves past the cycle of the interrupt, which was counted as a tick
pub record Serving (e : Edition) (script : List Event) (b : Machine) (h : Since) : Type 0 where
  pub start : Machine
  pub before : Since
  pub counted : h ≡ after_tick before
  pub outside : Outside e script start before
  pub m : ℕ
  pub cycle : start.cycle ≡ interrupt_at m
  pub k : ℕ
  pub some : 0 < k
  pub inside : k < routine_moves
  pub is : b ≡ after_moves (image e) (held_at script) start k

pub data Running (e : Edition) (script : List Event) (b : Machine) (h : Since) : Type 0 where
  InMain : Outside e script b h → Running e script b h
  InRoutine : Serving e script b h → Running e script b h

-- ---- boot

-- so many moves past reset, before the first dispatch point
pub record Booting (e : Edition) (script : List Event) (game : List ℕ) (b : Machine) : Type 0 where
  pub room : length game ≤ memory_size e
  pub bytes : (i : ℕ) → slice_index game i < 256
  pub k : ℕ
  pub inside : k < boot_moves
  pub is : b ≡ after_moves (image e) (held_at script) (start game) k

-- What a move of boot comes to: boot goes on, with no event; or the first dispatch point, where the game's first state lies and a record
-- begins.
pub data FromBoot (e : Edition) (script : List Event) (game : List ℕ) (c : Machine) : Type 0 where
  Boots : is_dispatch (vip e).interpreter c ≡ false → is_stop (vip e).interpreter c ≡ false → Booting e script game c → FromBoot e script game c
  Begins : is_dispatch (vip e).interpreter c ≡ true → is_stop (vip e).interpreter c ≡ false → c.cycle ≤ boot_bound
      → Dispatches (vip e) c (first e game) → Running e script c (dispatched c.cycle (first e game)) → FromBoot e script game c
