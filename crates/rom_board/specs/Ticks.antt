-- What a run of the interrupt routine makes of a board.
use Rattle.std.specs.Prelude.{◌≡◌, ℕ, zero, suc, ◌+◌, ◌/◌}
use Rattle.machine.specs.Board.{case_of}
use Rattle.machine.specs.Board.Case.{Interrupt}
use Rattle.machine.specs.Pictures.{frame, interrupt_at}
use Rattle.machine.specs.Schedule.{Tick}
use Rattle.chip8_lang.specs.declared.view.Edition.{Edition}
use Rattle.chip8_lang.specs.Editions.{memory_end}
use Rattle.chip8_lang.specs.Timed.{routine_cycles}
use Rattle.rom_law.specs.Rows.{Since, after_tick}
use Rattle.rom_law.specs.Runs.{Moves}
use Rattle.rom_rows.specs.Rom.{vip}
use Rattle.rom_run.specs.Running.{Running}
use Rattle.rom_parts.specs.timer.Routine.{routine_moves}
use Rattle.rom_parts.specs.timer.Scan.{Scans}
use Rattle.vip_board.specs.Moves.{moved}
use Rattle.vip_board.specs.Seen.{Seen, held_by}
use Rattle.rom_board.specs.Runs.{RunsWith}

-- the board after so many moves
unfoldable pub moved_times : ℕ → Seen → Seen
moved_times zero b = b
moved_times (suc n) b = moved (moved_times n b)

-- the board behind a run of the routine
abbrev pub ticked : Seen → Seen
ticked b = moved_times routine_moves b

-- the board runs the interpreter, and its next move is an interrupt
abbrev pub StartsTick : Edition → Since → Seen → Type 0
StartsTick e h b = RunsWith e h b × (case_of b.machine ≡ Interrupt)

-- One timer tick was made and counted: with that record it comes to no event, to a dispatch point, or to a stop.
pub record MadeTick (e : Edition) (h : Since) (old new : Seen) : Type 0 where
  pub tick : Tick (memory_end e) old.machine new.machine
  pub comes : Moves (vip e) old.script (Running e old.script) (after_tick h) new.machine

-- the frame of a board's cycle
abbrev pub frame_of : Seen → ℕ
frame_of b = b.machine.cycle / frame

-- The interrupt is that of the board's frame. Of the routine's moves 1,024 are DMA cycles, eight in each line of the frame's window, with the bytes
-- of the line's row of the screen as they lie in RAM at the interrupt.
pub record Scanned (e : Edition) (b : Seen) : Type 0 where
  pub interrupt : b.machine.cycle ≡ interrupt_at (frame_of b)
  pub scans : Scans e b.rom (frame_of b) b.machine (held_by b)

-- from each interrupt of a board that runs the interpreter
abbrev pub TakesTick : Type 0
TakesTick = (e : Edition) (h : Since) (b : Seen) → StartsTick e h b → (ticked b).machine.cycle ≡ b.machine.cycle + routine_cycles

abbrev pub MakesTick : Type 0
MakesTick = (e : Edition) (h : Since) (b : Seen) → StartsTick e h b → MadeTick e h b (ticked b)

abbrev pub ScansScreen : Type 0
ScansScreen = (e : Edition) (h : Since) (b : Seen) → StartsTick e h b → Scanned e b
