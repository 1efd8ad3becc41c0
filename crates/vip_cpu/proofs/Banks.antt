-- The list of sixteen numbers that the code keeps, seen as the registers R(0) to R(F).
use Rattle.std.proofs.Common.{◌≡◌, ℕ, zero, suc, ◌<◌, List, [], ◌∷◌, length, replicate, slice_index, slice_set, refl, arith}
use Rattle.machine.specs.Bank.{word_of, Bank, get, put, bank_of, zeros}
use Rattle.machine.specs.Numerals.{1+, 2+, 3+, 4+, 5+, 6+, 7+, 8+, 9+, 10+, 11+, 12+, 13+, 14+, 15+}
use Rattle.machine.specs.Ranges.{FitsWord, FitsBank}

-- what holds of 0 to 14, and of all numbers from 15 on, holds of each number
by_register : (P : ℕ → Type 0) → P 0 → P 1 → P 2 → P 3 → P 4 → P 5 → P 6 → P 7 → P 8 → P 9 → P 10 → P 11 → P 12 → P 13 → P 14
    → ((n : ℕ) → P (15+ n)) → (n : ℕ) → P n
by_register P p0 p1 p2 p3 p4 p5 p6 p7 p8 p9 pa pb pc pd pe pf zero = p0
by_register P p0 p1 p2 p3 p4 p5 p6 p7 p8 p9 pa pb pc pd pe pf (1+ zero) = p1
by_register P p0 p1 p2 p3 p4 p5 p6 p7 p8 p9 pa pb pc pd pe pf (2+ zero) = p2
by_register P p0 p1 p2 p3 p4 p5 p6 p7 p8 p9 pa pb pc pd pe pf (3+ zero) = p3
by_register P p0 p1 p2 p3 p4 p5 p6 p7 p8 p9 pa pb pc pd pe pf (4+ zero) = p4
by_register P p0 p1 p2 p3 p4 p5 p6 p7 p8 p9 pa pb pc pd pe pf (5+ zero) = p5
by_register P p0 p1 p2 p3 p4 p5 p6 p7 p8 p9 pa pb pc pd pe pf (6+ zero) = p6
by_register P p0 p1 p2 p3 p4 p5 p6 p7 p8 p9 pa pb pc pd pe pf (7+ zero) = p7
by_register P p0 p1 p2 p3 p4 p5 p6 p7 p8 p9 pa pb pc pd pe pf (8+ zero) = p8
by_register P p0 p1 p2 p3 p4 p5 p6 p7 p8 p9 pa pb pc pd pe pf (9+ zero) = p9
by_register P p0 p1 p2 p3 p4 p5 p6 p7 p8 p9 pa pb pc pd pe pf (10+ zero) = pa
by_register P p0 p1 p2 p3 p4 p5 p6 p7 p8 p9 pa pb pc pd pe pf (11+ zero) = pb
by_register P p0 p1 p2 p3 p4 p5 p6 p7 p8 p9 pa pb pc pd pe pf (12+ zero) = pc
by_register P p0 p1 p2 p3 p4 p5 p6 p7 p8 p9 pa pb pc pd pe pf (13+ zero) = pd
by_register P p0 p1 p2 p3 p4 p5 p6 p7 p8 p9 pa pb pc pd pe pf (14+ zero) = pe
by_register P p0 p1 p2 p3 p4 p5 p6 p7 p8 p9 pa pb pc pd pe pf (15+ n) = pf n

-- at R(F) alone, from what holds of 15
at_last : (P : ℕ → Type 0) → P 15 → (n : ℕ) → 15+ n < 16 → P (15+ n)
at_last P p zero h = p
at_last P p (suc n) h = absurd (omega arith)

pub get_bank_of : (l : List ℕ) (n : ℕ) → n < 16 → get (bank_of l) n ≡ word_of (slice_index l n)
unfolding bank_of
get_bank_of l =
    by_register (λ n. n < 16 → get (bank_of l) n ≡ word_of (slice_index l n)) (λ _. refl) (λ _. refl) (λ _. refl) (λ _. refl) (λ _. refl) (λ _. refl)
    (λ _. refl) (λ _. refl) (λ _. refl) (λ _. refl) (λ _. refl) (λ _. refl) (λ _. refl) (λ _. refl) (λ _. refl)
    (at_last (λ n. get (bank_of l) n ≡ word_of (slice_index l n)) refl)

pub put_bank_of : (l : List ℕ) (n v : ℕ) → length l ≡ 16 → n < 16 → bank_of (slice_set l n v) ≡ put (bank_of l) n (word_of v)
unfolding bank_of
put_bank_of (x0 ∷ x1 ∷ x2 ∷ x3 ∷ x4 ∷ x5 ∷ x6 ∷ x7 ∷ x8 ∷ x9 ∷ xa ∷ xb ∷ xc ∷ xd ∷ xe ∷ xf ∷ []) n v e h =
    by_register (λ n. n < 16 → bank_of (slice_set (x0 ∷ x1 ∷ x2 ∷ x3 ∷ x4 ∷ x5 ∷ x6 ∷ x7 ∷ x8 ∷ x9 ∷ xa ∷ xb ∷ xc ∷ xd ∷ xe ∷ xf ∷ []) n v)
    ≡ put (bank_of (x0 ∷ x1 ∷ x2 ∷ x3 ∷ x4 ∷ x5 ∷ x6 ∷ x7 ∷ x8 ∷ x9 ∷ xa ∷ xb ∷ xc ∷ xd ∷ xe ∷ xf ∷ [])) n (word_of v))
    (λ _. refl) (λ _. refl) (λ _. refl) (λ _. refl) (λ _. refl) (λ _. refl) (λ _. refl) (λ _. refl) (λ _. refl) (λ _. refl) (λ _. refl) (λ _. refl)
    (λ _. refl) (λ _. refl) (λ _. refl)
    (at_last (λ n. bank_of (slice_set (x0 ∷ x1 ∷ x2 ∷ x3 ∷ x4 ∷ x5 ∷ x6 ∷ x7 ∷ x8 ∷ x9 ∷ xa ∷ xb ∷ xc ∷ xd ∷ xe ∷ xf ∷ []) n v)
    ≡ put (bank_of (x0 ∷ x1 ∷ x2 ∷ x3 ∷ x4 ∷ x5 ∷ x6 ∷ x7 ∷ x8 ∷ x9 ∷ xa ∷ xb ∷ xc ∷ xd ∷ xe ∷ xf ∷ [])) n (word_of v)) refl) n h
put_bank_of _ n v e h = absurd (omega arith)

pub bank_of_zeros : bank_of (replicate 16 0) ≡ zeros
unfolding bank_of
bank_of_zeros = refl

pub ruleset of_banks = (get_bank_of, put_bank_of, bank_of_zeros)

-- putting back what is there
pub put_get : (r : Bank) (n : ℕ) → put r n (get r n) ≡ r
put_get r = by_register (λ n. put r n (get r n) ≡ r) refl refl refl refl refl refl refl refl refl refl refl refl refl refl refl (λ n. refl)

-- numbers of 16 bits are words of bytes
word-fits : (a : ℕ) → a < 65536 → FitsWord (word_of a)
word-fits a h = record { hi = omega arith; lo = omega arith }

pub bank-fits : (l : List ℕ) → ((k : ℕ) → slice_index l k < 65536) → FitsBank (bank_of l)
unfolding bank_of
bank-fits l h =
    record {
      r0 = word-fits _ (h 0);
      r1 = word-fits _ (h 1);
      r2 = word-fits _ (h 2);
      r3 = word-fits _ (h 3);
      r4 = word-fits _ (h 4);
      r5 = word-fits _ (h 5);
      r6 = word-fits _ (h 6);
      r7 = word-fits _ (h 7);
      r8 = word-fits _ (h 8);
      r9 = word-fits _ (h 9);
      ra = word-fits _ (h 10);
      rb = word-fits _ (h 11);
      rc = word-fits _ (h 12);
      rd = word-fits _ (h 13);
      re = word-fits _ (h 14);
      rf = word-fits _ (h 15);
    }
