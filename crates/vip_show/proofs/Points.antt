-- The states of a run that are no stop points.
use Rattle.std.proofs.lemmas.Bool.{cases_eq}
use Rattle.std.proofs.Common.{◌≡◌, ◌⊎◌, inl, inr, ℕ, suc, ◌&&◌, Bool, true, false, List, ◌-◌, refl, ap, ◌∙◌, arith}
use Rattle.std.specs.Prelude.{◌==◌}
use Rattle.machine.specs.Instruction.{at}
use Rattle.machine.specs.Board.{Machine, case_of}
use Rattle.machine.specs.Keys.{Event as KeyEvent}
use Rattle.chip8_lang.specs.Events.{is_dispatch, is_stop, is_instruction}
use Rattle.chip8_lang.specs.Places.{Interpreter}
use Rattle.vip_relation.specs.State.{Start}
use Rattle.vip_relation.proofs.Past.{state, Runs}

-- a dispatch point is no stop point
either_point : (s p q : Bool) (n : ℕ) → ((s && n == 4) && p) ≡ true → ((s && n == 3) && q) ≡ false
either_point true p q n h = grind arith
either_point false p q n h = refl

pub no-stop : (i : Interpreter) (b : Machine) → is_dispatch i b ≡ true → is_stop i b ≡ false
no-stop i b h = either_point (is_instruction (case_of b)) (at b.regs 4 == i.fetch) (at b.regs 3 == i.halt) b.regs.p h

-- one state more that is no stop point
pub one_more : (i : Interpreter) (s : Start) (script : List KeyEvent) (n : ℕ) → Runs i s script n → is_stop i (state i s script n) ≡ false
    → Runs i s script (suc n)
one_more i s script n runs here k below = go (cases_eq k n)
  where
    go : (k ≡ n) ⊎ (k ≡ n → ⊥) → is_stop i (state i s script k) ≡ false
    go (inl same) = ap (λ k. is_stop i (state i s script k)) same ∙ here
    go (inr differ) = runs k (omega (arith, below, differ))
