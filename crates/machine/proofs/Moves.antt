-- The move of a machine, case by case.
use Rattle.std.proofs.Common.{◌≡◌, ℕ, List, true, false, ◌&&◌}
use Rattle.machine.specs.Signals.{int_at, dma_at}
use Rattle.machine.specs.Keys.{Keys}
use Rattle.machine.specs.Board.{Machine, Case, case_of, moved_in, move, length_in, length_of}
use Rattle.machine.specs.Board.Case.{Dma, Interrupt, Idle, Instruction}

-- ---- which case it is

module _ (b : Machine) where
  pub case_dma : dma_at b.cycle b.on ≡ true → case_of b ≡ Dma
  case_dma d = rw d

  pub case_interrupt : dma_at b.cycle b.on ≡ false → (b.regs.ie && int_at b.cycle b.on) ≡ true → case_of b ≡ Interrupt
  case_interrupt d i = rw (d, i)

  pub case_idle : dma_at b.cycle b.on ≡ false → (b.regs.ie && int_at b.cycle b.on) ≡ false → b.regs.idle ≡ true → case_of b ≡ Idle
  case_idle d i e = rw (d, i, e)

  pub case_instruction : dma_at b.cycle b.on ≡ false → (b.regs.ie && int_at b.cycle b.on) ≡ false → b.regs.idle ≡ false → case_of b ≡ Instruction
  case_instruction d i e = rw (d, i, e)

-- ---- what the move is in a case

module _ (rom : List ℕ) (held : ℕ → Keys) (b : Machine) where
  pub move_in : (k : Case) → case_of b ≡ k → move rom held b ≡ moved_in k rom held b
  move_in k e = rw e

  pub length_of_in : (k : Case) → case_of b ≡ k → length_of rom b ≡ length_in k rom b
  length_of_in k e = rw e
