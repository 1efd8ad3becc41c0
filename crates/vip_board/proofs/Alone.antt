-- On empty wires a linked move is the move of the board.
use Rattle.std.proofs.Common.{◌≡◌, ℕ, zero, suc, ◌+◌, ◌⊎◌, inl, inr, refl, ◌∙◌, ap, arith, Bool, true, false, cond, List}
use Rattle.std.specs.Prelude.{◌==◌, None}
use Rattle.std.proofs.lemmas.Bool.{cases_eq, ne_eqb}
use Rattle.machine.specs.Opcodes.{cycles_of, opcode_number}
use Rattle.machine.specs.Instruction.{instruction}
use Rattle.machine.specs.Signals.{efx_at}
use Rattle.machine.specs.Board.{Machine, Case, case_of, acted, byte_of, opcode_of, flags_of, moved_in, move}
use Rattle.machine.specs.Board.Case.{Dma, Interrupt, Idle, Instruction}
use Rattle.machine.specs.Keys.{Keys}
use Rattle.vip_board.specs.Linked.{Joined, joined, linked_flags, taken_at, linked_in, linked_move}
use Rattle.vip_board.specs.Alone.{AsAlone, AreEmpty, after_linked}

flags_alone : (efx held : Bool) (flag : ℕ) → linked_flags efx held None None flag ≡ flags_of efx held flag
flags_alone efx held flag = go (cases_eq flag 2) (cases_eq flag 4)
  where
    go : (flag ≡ 2) ⊎ (flag ≡ 2 → ⊥) → (flag ≡ 4) ⊎ (flag ≡ 4 → ⊥) → linked_flags efx held None None flag ≡ flags_of efx held flag
    go (inl e) f = rw e refl
    go (inr n) (inl e) = rw e refl
    go (inr n) (inr m) = rw (ne_eqb flag 2 n, ne_eqb flag 4 m) refl

taken_alone : (port : ℕ) → taken_at port None ≡ 0
taken_alone port = either (port == 3) 0
  where
    either : (t : Bool) (x : ℕ) → cond t x x ≡ x
    either true x = refl
    either false x = refl

module _ (rom : List ℕ) (held : ℕ → Keys) (b : Machine) where
  moved_alone : (k : Case) → (linked_in k rom held (joined b None None)).machine ≡ moved_in k rom held b
  moved_alone Dma = refl
  moved_alone Interrupt = refl
  moved_alone Idle = refl
  moved_alone Instruction =
      λ i. record (acted (instruction b.regs (byte_of rom b) (λ flag. flags_alone (efx_at (b.cycle + 1) b.on) (held (b.cycle + 1) b.key) flag i)
      (taken_alone (opcode_number (opcode_of rom b)) i)) b) {
        cycle = b.cycle + cycles_of (opcode_of rom b);
      }

  -- one move
  pub move_alone : (linked_move rom held (joined b None None)).machine ≡ move rom held b
  move_alone = moved_alone (case_of b)

same_joined : (j : Joined) → AreEmpty j → j ≡ joined j.machine None None
same_joined j h = λ i. joined j.machine (h.0 i) (h.1 i)

pub as_alone : AsAlone
as_alone rom held b zero h = refl
as_alone rom held b (suc n) h =
    ap (λ j. (linked_move rom held j).machine) (same_joined (after_linked rom held (joined b None None) n) (h n (omega arith)))
    ∙ move_alone rom held (after_linked rom held (joined b None None) n).machine
    ∙ ap (move rom held) (as_alone rom held b n (λ m l. h m (omega arith)))
