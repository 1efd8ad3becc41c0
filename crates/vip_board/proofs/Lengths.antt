-- A move that is no instruction takes one machine cycle.
use Rattle.std.proofs.Common.{◌≡◌, ℕ, List, refl, sym, subst}
use Rattle.machine.specs.Board.{Machine, Case, case_of, length_in, length_of}
use Rattle.machine.specs.Board.Case.{Dma as DmaCase, Interrupt as InterruptCase, Idle as IdleCase, Instruction as InstructionCase}
use Rattle.vip_board.specs.Moves.{name_of, name_in}
use Rattle.vip_board.specs.declared.board.Move.{Move}
use Rattle.vip_board.specs.declared.board.Move.TheVariants.{Instruction}

abbrev pub IsInstruction : Move → Type 0
IsInstruction (Instruction address) = Unit {0}
IsInstruction _ = ⊥

pub one-long : (rom : List ℕ) (b : Machine) (m : Move) → m ≡ name_of b → (IsInstruction m → ⊥) → 1 ≡ length_of rom b
one-long rom b m is none = by_case (case_of b) (λ some. none (subst IsInstruction (sym is) some))
  where
    by_case : (k : Case) → (IsInstruction (name_in k b) → ⊥) → 1 ≡ length_in k rom b
    by_case DmaCase none = refl
    by_case InterruptCase none = refl
    by_case IdleCase none = refl
    by_case InstructionCase none = absurd (none tt)
