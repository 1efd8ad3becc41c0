-- What the interrupt routine makes, from an accepted interrupt to its return.
use Rattle.std.specs.Prelude.{◌≡◌, ℕ, ◌+◌, ◌<◌, ◌≤◌, true, false, List}
use Rattle.machine.specs.Bank.{value, word_of}
use Rattle.machine.specs.Board.{Machine}
use Rattle.machine.specs.Keys.{Keys}
use Rattle.machine.specs.Run.{after_moves}
use Rattle.machine.specs.Schedule.{Tick}
use Rattle.machine.specs.Ranges.{FitsMachine}
use Rattle.machine.specs.Pictures.{interrupt_at, window_end}
use Rattle.chip8_lang.specs.declared.view.Edition.{Edition}
use Rattle.chip8_lang.specs.Editions.{memory_end, variables}
use Rattle.chip8_lang.specs.Timed.{routine_cycles}
use Rattle.chip8_image.specs.declared.TheConstants.{ENTRY}
use Rattle.rom_parts.specs.timer.Frame.{IsMainPlace}

-- Main code runs or waits in the cycle of frame m's interrupt, and between game memory and V0 there is room for the two bytes that the
-- routine pushes.
pub record IsInterrupted (e : Edition) (m : ℕ) (b : Machine) : Type 0 where
  pub cycle : b.cycle ≡ interrupt_at m
  pub on : b.on ≡ true
  pub enabled : b.regs.ie ≡ true
  pub latch : b.latch ≡ false
  pub entry : b.regs.r.r1 ≡ word_of ENTRY
  pub fits : FitsMachine b
  pub room : memory_end e + 2 ≤ value b.regs.r.r2
  pub top : value b.regs.r.r2 < variables e

-- the moves from that cycle to the return, 1,024 of them DMA cycles
abbrev pub routine_moves : ℕ
routine_moves = 1435

-- the moves from that cycle to the end of the window
abbrev pub window_moves : ℕ
window_moves = 1422

-- while the routine runs, the program counter is R1, interrupts are disabled, the processor doesn't idle, and the display is on
pub record RunsRoutine (b : Machine) : Type 0 where
  pub by_r1 : b.regs.p ≡ 1
  pub disabled : b.regs.ie ≡ false
  pub awake : b.regs.idle ≡ false
  pub on : b.on ≡ true

-- The routine is one tick, after which main code goes on, at an even cycle behind the window; one of its moves ends where the window does.
pub record IsTick (e : Edition) (rom : List ℕ) (m : ℕ) (b : Machine) (held : ℕ → Keys) : Type 0 where
  pub tick : Tick (memory_end e) b (after_moves rom held b routine_moves)
  pub cycle : (after_moves rom held b routine_moves).cycle ≡ interrupt_at m + routine_cycles
  pub place : IsMainPlace (after_moves rom held b routine_moves).cycle
  pub window : (after_moves rom held b window_moves).cycle ≡ window_end m
  pub inside : (k : ℕ) → 0 < k → k < routine_moves → RunsRoutine (after_moves rom held b k)

abbrev pub RunTick : (Edition → List ℕ) → Type 0
RunTick rom = (e : Edition) (m : ℕ) (b : Machine) (held : ℕ → Keys) → IsInterrupted e m b → IsTick e (rom e) m b held
