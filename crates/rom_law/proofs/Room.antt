-- An instruction of main code moves R2 by one at most, so a block leaves the stack pointer near where it was.
use Rattle.std.proofs.Common.{Option, ◌≡◌, ℕ, zero, suc, ◌+◌, ◌-◌, ◌<◌, ◌≤◌, ◌⊎◌, inl, inr, refl, sym, subst, arith, true, false, T}
use Rattle.std.proofs.lemmas.Bool.{and_parts, cases_eq}
use Rattle.machine.specs.declared.Kind.{Kind}
use Rattle.machine.specs.declared.Kind.TheVariants.{Inc, Dec, Br, Bq, Bz, Bdf, B1, B2, B3, B4, Skp, Bnq, Bnz, Bnf, Bn1, Bn2, Bn3, Bn4, Lda, Irx, Out, Ret, Dis, Ldxa, Stxd, Mark, Adci, Sdbi, Smbi, Plo, Phi, Lbr, Lbq, Lbz, Lbdf, Lsnq, Lsnz, Lsnf, Lskp, Lbnq, Lbnz, Lbnf, Lsie, Lsq, Lsz, Lsdf, Ldi, Ori, Ani, Xri, Adi, Sdi, Smi}
use Rattle.machine.specs.Bank.{Word, value, up, down, Bank, get, put}
use Rattle.machine.specs.Opcodes.{kind_of, opcode_number}
use Rattle.machine.specs.Instruction.{Regs, Inputs, effect, stepped}
use Rattle.machine.specs.Board.{Machine}
use Rattle.rom_law.specs.Code.{Code}
use Rattle.rom_law.proofs.Registers.{is_plain, put-r2}
use Rattle.rom_law.proofs.Passing.{Passes, first_of, second_of, true_from}
use Rattle.rom_law.proofs.Moves.{AllGood, Fine, Passable, opcode_in, quick, quicks, rom_inputs}
use Rattle.rom_law.proofs.Kept.{at_move}

-- n apart at most
pub record Near (n a b : ℕ) : Type 0 where
  pub above : b ≤ a + n
  pub below : a ≤ b + n

same : (a : ℕ) → Near 1 a a
same a = record { above = omega arith; below = omega arith }

put_near : (k : ℕ) (r : Bank) (y : Word) → (k ≡ 2 → Near 1 (value r.r2) (value y)) → Near 1 (value r.r2) (value (put r k y).r2)
put_near (suc (suc zero)) r y h = h refl
put_near (suc (suc (suc (suc (suc (suc (suc (suc (suc (suc (suc (suc (suc (suc (suc n))))))))))))))) r y h = same (value r.r2)
put_near _ r y h = same (value r.r2)

module _ (low : ℕ) (s : Regs) (i : Inputs) (m : ℕ) (some : 0 < value s.r.r2) (room : value s.r.r2 < 65535) where
  one_up : Near 1 (value s.r.r2) (value (up s.r.r2))
  one_up = record { above = omega arith; below = omega arith }

  one_down : Near 1 (value s.r.r2) (value (down s.r.r2))
  one_down = record { above = omega arith; below = omega arith }

  goes_up : (k : ℕ) → Near 1 (value s.r.r2) (value (put s.r k (up (get s.r k))).r2)
  goes_up k = put_near k s.r (up (get s.r k)) (λ e. subst (λ z. Near 1 (value s.r.r2) (value (up (get s.r z)))) (sym e) one_up)

  goes_down : (k : ℕ) → Near 1 (value s.r.r2) (value (put s.r k (down (get s.r k))).r2)
  goes_down k = put_near k s.r (down (get s.r k)) (λ e. subst (λ z. Near 1 (value s.r.r2) (value (down (get s.r z)))) (sym e) one_down)

  other : (k : ℕ) (y : Word) → T (is_plain k) → Near 1 (value s.r.r2) (value (put s.r k y).r2)
  other k y h = subst (λ w. Near 1 (value s.r.r2) (value w)) (sym (put-r2 k s.r y (true_from _ h))) (same (value s.r.r2))

  near_of : (k : Kind) → Passes low k m s → Near 1 (value s.r.r2) (value (effect k m s i).regs.r.r2)
  near_of Inc h = goes_up m
  near_of Lda h = goes_up m
  near_of Irx h = goes_up s.x
  near_of Out h = goes_up s.x
  near_of Ldxa h = goes_up s.x
  near_of Stxd h = goes_down s.x
  near_of Dec h = other m _ h
  near_of Plo h = other m _ h
  near_of Phi h = other m _ h
  near_of Br h = other s.p _ h
  near_of Bz h = other s.p _ h
  near_of Bdf h = other s.p _ h
  near_of B1 h = other s.p _ h
  near_of B2 h = other s.p _ h
  near_of B3 h = other s.p _ h
  near_of B4 h = other s.p _ h
  near_of Skp h = other s.p _ h
  near_of Bnz h = other s.p _ h
  near_of Bnf h = other s.p _ h
  near_of Bn1 h = other s.p _ h
  near_of Bn2 h = other s.p _ h
  near_of Bn3 h = other s.p _ h
  near_of Bn4 h = other s.p _ h
  near_of Adci h = other s.p _ h
  near_of Sdbi h = other s.p _ h
  near_of Smbi h = other s.p _ h
  near_of Lbr h = other s.p _ h
  near_of Lbz h = other s.p _ h
  near_of Lbdf h = other s.p _ h
  near_of Lsnz h = other s.p _ h
  near_of Lsnf h = other s.p _ h
  near_of Lskp h = other s.p _ h
  near_of Lbnz h = other s.p _ h
  near_of Lbnf h = other s.p _ h
  near_of Lsie h = other s.p _ h
  near_of Lsz h = other s.p _ h
  near_of Lsdf h = other s.p _ h
  near_of Ldi h = other s.p _ h
  near_of Ori h = other s.p _ h
  near_of Ani h = other s.p _ h
  near_of Xri h = other s.p _ h
  near_of Adi h = other s.p _ h
  near_of Sdi h = other s.p _ h
  near_of Smi h = other s.p _ h
  near_of Bq h = absurd h
  near_of Bnq h = absurd h
  near_of Ret h = absurd h
  near_of Dis h = absurd h
  near_of Mark h = absurd h
  near_of Lbq h = absurd h
  near_of Lbnq h = absurd h
  near_of Lsq h = absurd h
  near_of Lsnq h = absurd h
  near_of _ h = same (value s.r.r2)

module _ (x : Code) where
  passed : (b : Machine) → Fine x b → Passable x b
  passed b h = second_of _ _ h

  plain : (b : Machine) → Passable x b → is_plain b.regs.p ≡ true
  plain b h = (and_parts _ _ (first_of _ _ h)).0

  may : (b : Machine) → Passable x b → Passes x.low (kind_of (opcode_in x b)) (opcode_number (opcode_in x b)) (stepped b.regs b.regs.p)
  may b h = second_of _ _ h

  near_quick : (b : Machine) → Fine x b → 0 < value b.regs.r.r2 → value b.regs.r.r2 < 65535 → Near 1 (value b.regs.r.r2) (value (quick x b).regs.r.r2)
  near_quick b h some room =
      subst (λ w. Near 1 (value w) (value (quick x b).regs.r.r2)) r2
      (near_of x.low (stepped b.regs b.regs.p) (rom_inputs x b (λ k. false)) (opcode_number (opcode_in x b))
      (subst (λ w. 0 < value w) (sym r2) some) (subst (λ w. value w < 65535) (sym r2) room) (kind_of (opcode_in x b)) (may b (passed b h)))
    where
      r2 : (stepped b.regs b.regs.p).r.r2 ≡ b.regs.r.r2
      r2 = put-r2 b.regs.p b.regs.r (up (get b.regs.r b.regs.p)) (plain b (passed b h))

  -- from the j-th to the k-th of m instructions
  pub near_quicks : (top : Option ℕ) (m : ℕ) (b : Machine) → AllGood x top m b → (j : ℕ) → m ≤ value (quicks x j b).regs.r.r2
      → value (quicks x j b).regs.r.r2 + m < 65535 → (k : ℕ) → j ≤ k → k < m
      → Near (k - j) (value (quicks x j b).regs.r.r2) (value (quicks x k b).regs.r.r2)
  near_quicks top m b g j some room zero l h =
      subst (λ z. Near (0 - j) (value (quicks x z b).regs.r.r2) (value b.regs.r.r2)) (sym none) (record { above = omega arith; below = omega arith })
    where
      none : j ≡ 0
      none = omega (arith, l)
  near_quicks top m b g j some room (suc k) l h = go (cases_eq j (suc k)) (λ d. near_quicks top m b g j some room k d (omega (arith, h)))
    where
      go : (j ≡ suc k) ⊎ (j ≡ suc k → ⊥) → (j ≤ k → Near (k - j) (value (quicks x j b).regs.r.r2) (value (quicks x k b).regs.r.r2))
          → Near (suc k - j) (value (quicks x j b).regs.r.r2) (value (quicks x (suc k) b).regs.r.r2)
      go (inl e) f =
          subst (λ z. Near (suc k - z) (value (quicks x z b).regs.r.r2) (value (quicks x (suc k) b).regs.r.r2)) (sym e)
          (record { above = omega arith; below = omega arith })
      go (inr d) f = joined (f (omega (arith, l, d)))
        where
          joined : Near (k - j) (value (quicks x j b).regs.r.r2) (value (quicks x k b).regs.r.r2)
              → Near (suc k - j) (value (quicks x j b).regs.r.r2) (value (quicks x (suc k) b).regs.r.r2)
          joined n =
              let o = near_quick (quicks x k b) (at_move x top k m b (omega (arith, h)) g) (omega (arith, n.above, n.below, some, h, l, d))
              (omega (arith, n.above, n.below, room, h, l, d)) in
              record { above = omega (arith, n.above, o.above, l, d); below = omega (arith, n.below, o.below, l, d) }
