-- The labels before the line of a move.
use Rattle.std.proofs.Common.{◌≡◌, refl}
use Rattle.std.specs.Prelude.{None}
use Rattle.machine.specs.Board.{Machine, Case, case_of}
use Rattle.machine.specs.Board.Case.{Dma, Interrupt, Idle, Instruction}
use Rattle.vip_program.specs.Lines.{place_in}

none_in : (b : Machine) (case : Case) → (case ≡ Instruction → ⊥) → place_in case b ≡ None
none_in b Instruction other = absurd (other refl)
none_in b Dma other = refl
none_in b Interrupt other = refl
none_in b Idle other = refl

pub place-none : (b : Machine) → (case_of b ≡ Instruction → ⊥) → place_in (case_of b) b ≡ None
place-none b other = none_in b (case_of b) other
