-- The main code of an interpreter, and its moves.
use Rattle.std.specs.Prelude.{ℕ, zero, suc, ◌==◌, ◌&&◌, ◌||◌, Bool, false, List}
use Rattle.machine.specs.Instruction.{at}
use Rattle.machine.specs.Board.{Machine, main_move}
use Rattle.machine.specs.Keys.{Keys}

-- What the theory asks of an interpreter: the bytes of its ROM, the addresses of its fetch loop and of its stop, and the lowest address
-- that a timer tick may write.
pub record Code : Type 0 where
  pub rom : List ℕ
  pub fetch : ℕ
  pub halt : ℕ
  pub low : ℕ

-- what a main move takes from outside: a value of EFX, and the keys that are held down
pub record Input : Type 0 where
  pub efx : Bool
  pub held : Keys

abbrev pub nothing : Input
nothing = record { efx = false; held = λ k. false }

abbrev pub moved : Code → Input → Machine → Machine
moved x u b = main_move x.rom u.efx u.held b

-- k main moves that take nothing
abbrev pub run : Code → ℕ → Machine → Machine
run x zero b = b
run x (suc k) b = moved x nothing (run x k b)

-- the program counter is R(p), and it is there
abbrev pub is_by : ℕ → ℕ → Machine → Bool
is_by p address b = b.regs.p == p && at b.regs p == address

-- the next instruction is the one at the fetch loop with P = 4, or the one at the stop with P = 3
abbrev pub is_event : Code → Machine → Bool
is_event x b = is_by 4 x.fetch b || is_by 3 x.halt b
