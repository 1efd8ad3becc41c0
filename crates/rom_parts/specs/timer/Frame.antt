-- Which move the board makes where main code runs or waits, with the display on: by the place of its cycle in the frame of 3,668 cycles.
use Rattle.std.specs.Prelude.{◌≡◌, ℕ, ◌+◌, ◌/◌, ◌%◌, ◌≤◌, ◌⊎◌, true, false, List}
use Rattle.machine.specs.Opcodes.{cycles_of}
use Rattle.machine.specs.Instruction.{interrupted}
use Rattle.machine.specs.Signals.{efx_at}
use Rattle.machine.specs.Board.{Machine, main_move, move, opcode_of}
use Rattle.machine.specs.Keys.{Keys}
use Rattle.machine.specs.Pictures.{frame, place, interrupt_at, interrupt_place, window_place}

-- Main code runs or waits at the places up to that of the interrupt, and from the end of the window on. Where it runs, the cycle is even.
abbrev pub IsOutside : ℕ → Type 0
IsOutside t = (place t ≤ interrupt_place) ⊎ (window_place ≤ place t)

pub record IsMainPlace (t : ℕ) : Type 0 where
  pub outside : IsOutside t
  pub even : t % 2 ≡ 0

-- What the move of the board is: at the interrupt's place the interrupt, and elsewhere a main move with EFX and the keys of the cycle
-- after its fetch, or an idle cycle where the processor waits.
pub data Makes (rom : List ℕ) (held : ℕ → Keys) (b c : Machine) : Type 0 where
  Runs : (place b.cycle ≡ interrupt_place → ⊥) → b.regs.idle ≡ false
      → c ≡ record (main_move rom (efx_at (b.cycle + 1) true) (held (b.cycle + 1)) b) { cycle = b.cycle + cycles_of (opcode_of rom b) }
      → Makes rom held b c
  Waits : (place b.cycle ≡ interrupt_place → ⊥) → b.regs.idle ≡ true → c ≡ record b { cycle = b.cycle + 1 } → Makes rom held b c
  Accepts : b.cycle ≡ interrupt_at (b.cycle / frame) → c ≡ record b { regs = interrupted b.regs; cycle = b.cycle + 1 } → Makes rom held b c

abbrev pub EveryMove : Type 0
EveryMove =
    (rom : List ℕ) (held : ℕ → Keys) (b : Machine)
    → b.on ≡ true
    → b.regs.ie ≡ true
    → IsOutside b.cycle
    → Makes rom held b (move rom held b)

-- A main move of two cycles that isn't made at the interrupt's place ends where main code runs, and an idle cycle where it runs or waits.
abbrev pub KeepsPlace : Type 0
KeepsPlace = (t : ℕ) → IsMainPlace t → (place t ≡ interrupt_place → ⊥) → IsMainPlace (t + 2)

abbrev pub KeepsWaiting : Type 0
KeepsWaiting = (t : ℕ) → IsOutside t → (place t ≡ interrupt_place → ⊥) → IsOutside (t + 1)
