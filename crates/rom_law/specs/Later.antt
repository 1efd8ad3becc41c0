-- A state some timer ticks later.
use Rattle.std.specs.Prelude.{◌≡◌, ℕ, zero, suc, ◌==◌, ◌<◌, ◌≤◌, Bool, not, List, length, slice_index}
use Rattle.machine.specs.Bank.{Word, value, up, Bank}
use Rattle.machine.specs.Instruction.{Regs}
use Rattle.machine.specs.Board.{Machine}
use Rattle.machine.specs.Schedule.{fallen}

-- R8, R9 and Q after n ticks
abbrev pub falls : ℕ → Word → Word
falls zero w = w
falls (suc n) w = fallen (falls n w)

abbrev pub ups : ℕ → Word → Word
ups zero w = w
ups (suc n) w = up (ups n w)

abbrev pub tones : ℕ → Word → Bool → Bool
tones zero w q = q
tones (suc n) w q = not ((falls n w).lo == 0)

-- the registers after n ticks that left v in R0, w in RF and t in T
abbrev pub later_bank : ℕ → Word → Word → Bank → Bank
later_bank n v w r = record r { r0 = v; r8 = falls n r.r8; r9 = ups n r.r9; rf = w }

abbrev pub later_regs : ℕ → Word → Word → ℕ → Regs → Regs
later_regs n v w t s = record s { r = later_bank n v w s.r; t = t; q = tones n s.r.r8 s.q }

abbrev pub later : ℕ → Word → Word → ℕ → List ℕ → ℕ → Machine → Machine
later n v w t ram cycle b = record b { regs = later_regs n v w t b.regs; ram = ram; cycle = cycle }

-- what main code may read of RAM: all but the bytes that ticks write and the one at R2, where an interrupt may have come between a push
-- and the read
abbrev pub Steady : ℕ → Regs → ℕ → Type 0
Steady low s a = low ≤ a → value s.r.r2 < a

-- c is b after n ticks: the timers have gone on, and all that main code uses is as it was
pub record After (low n : ℕ) (b c : Machine) : Type 0 where
  pub is : c ≡ later n c.regs.r.r0 c.regs.r.rf c.regs.t c.ram c.cycle b
  pub size : length c.ram ≡ length b.ram
  pub ram : (a : ℕ) → Steady low b.regs a → slice_index c.ram a ≡ slice_index b.ram a
