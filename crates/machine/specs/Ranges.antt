-- The ranges of the registers, of what an instruction reads, and of the machine.
use Rattle.std.specs.Prelude.{◌≡◌, ◌<◌, ◌≤◌, ℕ, List, slice_index, length}
use Rattle.machine.specs.Bank.{Word, Bank}
use Rattle.machine.specs.Instruction.{Regs, Inputs}
use Rattle.machine.specs.Board.{Machine}

pub record FitsWord (w : Word) : Type 0 where
  pub hi : w.hi < 256
  pub lo : w.lo < 256

pub record FitsBank (r : Bank) : Type 0 where
  pub r0 : FitsWord r.r0
  pub r1 : FitsWord r.r1
  pub r2 : FitsWord r.r2
  pub r3 : FitsWord r.r3
  pub r4 : FitsWord r.r4
  pub r5 : FitsWord r.r5
  pub r6 : FitsWord r.r6
  pub r7 : FitsWord r.r7
  pub r8 : FitsWord r.r8
  pub r9 : FitsWord r.r9
  pub ra : FitsWord r.ra
  pub rb : FitsWord r.rb
  pub rc : FitsWord r.rc
  pub rd : FitsWord r.rd
  pub re : FitsWord r.re
  pub rf : FitsWord r.rf

pub record FitsRegs (s : Regs) : Type 0 where
  pub r : FitsBank s.r
  pub d : s.d < 256
  pub df : s.df ≤ 1
  pub p : s.p < 16
  pub x : s.x < 16
  pub t : s.t < 256

pub record FitsInputs (i : Inputs) : Type 0 where
  pub byte : (a : ℕ) → i.byte a < 256
  pub next : i.next < 256
  pub after : i.after < 256
  pub taken : i.taken < 256

pub record FitsMachine (b : Machine) : Type 0 where
  pub regs : FitsRegs b.regs
  pub ram : (a : ℕ) → slice_index b.ram a < 256
  pub size : length b.ram ≡ 0x1000
  pub key : b.key < 16

-- a ROM: 2,048 bytes
pub record FitsRom (rom : List ℕ) : Type 0 where
  pub size : length rom ≡ 0x800
  pub bytes : (a : ℕ) → slice_index rom a < 256
