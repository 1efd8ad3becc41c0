-- Schedules: runs of main moves in which a timer tick may come at any state, whenever the interrupts come in a run of the board.
use Rattle.std.specs.Prelude.{◌≡◌, ℕ, ◌-◌, ◌==◌, ◌<◌, ◌≤◌, Bool, false, not, List, length, slice_index}
use Rattle.machine.specs.Bank.{Word, word, value, up}
use Rattle.machine.specs.Board.{Machine, main_move}
use Rattle.machine.specs.Keys.{Keys}
use Rattle.machine.specs.Ranges.{FitsWord}

-- a main move, with some value of EFX and some keys held down, of a machine that doesn't idle
pub record IsMain (rom : List ℕ) (efx : Bool) (held : Keys) (b c : Machine) : Type 0 where
  pub awake : b.regs.idle ≡ false
  pub moved : c ≡ main_move rom efx held b

-- both halves of a word, each one less where it isn't 0
abbrev pub fallen : Word → Word
fallen w = word (w.hi - 1) (w.lo - 1)

-- the byte lies where a tick may put any byte: from `low` up to R2 - 1
abbrev pub IsFree : ℕ → Machine → ℕ → Type 0
IsFree low b a = (low ≤ a) × (a < value b.regs.r.r2)

-- A tick: what a run of the interrupt routine makes. Both timers, in the halves of R8, fall; R9 counts; Q is whether the sound timer
-- ran; idling ends. R0, RF.0 and T take any values, and so do the bytes from `low` up to R2 - 1. The cycle number plays no part. All
-- else stays.
pub record Tick (low : ℕ) (b c : Machine) : Type 0 where
  pub is : c ≡ record b {
    regs = record b.regs {
      r = record b.regs.r { r0 = c.regs.r.r0; r8 = fallen b.regs.r.r8; r9 = up b.regs.r.r9; rf = word b.regs.r.rf.hi c.regs.r.rf.lo };
      t = c.regs.t;
      q = not (b.regs.r.r8.lo == 0);
      idle = false;
    };
    ram = c.ram;
    cycle = c.cycle;
  }
  pub size : length c.ram ≡ length b.ram
  pub kept : (a : ℕ) → (IsFree low b a → ⊥) → slice_index c.ram a ≡ slice_index b.ram a
  pub r0_fits : FitsWord c.regs.r.r0
  pub rf_fits : c.regs.r.rf.lo < 256
  pub t_fits : c.regs.t < 256
  pub bytes_fit : (a : ℕ) → IsFree low b a → slice_index c.ram a < 256
