-- Where a language state lies in the machine.
use Rattle.std.specs.Prelude.{min, ◌≡◌, ℕ, zero, suc, ◌+◌, ◌-◌, ◌*◌, ◌/◌, ◌%◌, ◌&&◌, true, false, nat_lt, List, [], ◌∷◌, length, slice_index, slice_range}
use Rattle.machine.specs.Bank.{value}
use Rattle.machine.specs.Board.{Machine}
use Rattle.chip8_lang.specs.declared.view.Edition.{Edition}
use Rattle.chip8_lang.specs.Editions.{memory_start, memory_end, stack_top, variables, screen_start, rows_of, random_cell}
use Rattle.chip8_lang.specs.Screen.{Pixels, is_set}
use Rattle.chip8_lang.specs.State.{Lang}

-- an interpreter: its ROM of 2,048 bytes from 8000 on, and the addresses of the fetch loop, of the stop and of the interrupt routine
pub record Interpreter : Type 0 where
  pub rom : List ℕ
  pub fetch : ℕ
  pub halt : ℕ
  pub entry : ℕ

-- pixel (x, y) is bit 7 - (x mod 8) of byte 8y + x / 8 of the screen
abbrev pub pixels : ℕ → List ℕ → Pixels
pixels rows bytes x y = (nat_lt x 64 && nat_lt y rows) && is_set (slice_index bytes (8 * y + x / 8)) (7 - x % 8)

-- n addresses, the oldest first: each has its low byte at `low` and its high byte below, and the next one lies below that
abbrev pub addresses : List ℕ → ℕ → ℕ → List ℕ
addresses ram low zero = []
addresses ram low (suc n) = (slice_index ram (low - 1) * 256 + slice_index ram low) ∷ addresses ram (low - 2) n

-- the most addresses on the stack
abbrev pub most_addresses : ℕ
most_addresses = 12

-- The language state that is read off a machine: V0 to VF, game memory, the random byte and the screen lie in RAM; I is RA, pc is R5,
-- the timers are the halves of R8, n is R9, the tone is Q, and the stack lies above R2.
unfoldable pub state_of : Edition → Machine → Lang
state_of e b =
    record {
      v = slice_range b.ram (variables e) (variables e + 16);
      i = value b.regs.r.ra;
      pc = value b.regs.r.r5;
      stack = addresses b.ram (stack_top e) (min most_addresses ((stack_top e - value b.regs.r.r2) / 2));
      memory = slice_range b.ram memory_start (memory_end e);
      dt = b.regs.r.r8.hi;
      st = b.regs.r.r8.lo;
      tone = b.regs.q;
      n = value b.regs.r.r9;
      b = slice_index b.ram random_cell;
      screen = pixels (rows_of e) (slice_range b.ram (screen_start e) 0x1000);
    }

-- The state s lies in the machine, whose main code runs: R2 is two bytes below the top for each address on the stack;
-- the latch is clear, interrupts are enabled, and the processor doesn't idle.
pub record Lies (e : Edition) (b : Machine) (s : Lang) : Type 0 where
  pub is : state_of e b ≡ s
  pub stack : value b.regs.r.r2 + 2 * length s.stack ≡ stack_top e
  pub latch : b.latch ≡ false
  pub enabled : b.regs.ie ≡ true
  pub awake : b.regs.idle ≡ false
