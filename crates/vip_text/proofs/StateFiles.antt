-- Reading the parts of a file.
use Rattle.std.proofs.Common.{◌≡◌, ◌⊎◌, inl, inr, ℕ, zero, suc, ◌+◌, ◌-◌, ◌*◌, ◌/◌, ◌%◌, ◌<◌, ◌≤◌, true, false, List, length, slice_index, refl, sym, ap, ◌∙◌, subst, arith}
use Rattle.std.specs.Prelude.{◌==◌, slice_set}
use Rattle.std.proofs.lemmas.Bool.{cases_eq}
use Rattle.std.proofs.lemmas.List.{get_or-set_same, get_or-set_other}
use Rattle.machine.specs.Bank.{Word, word, word_of, value, Bank, bank_of}
use Rattle.machine.specs.Instruction.{Regs}
use Rattle.chip8_lang.specs.declared.view.Edition.{Edition}
use Rattle.chip8_lang.specs.Editions.{stack_top}
use Rattle.machine.specs.Bit.{bit}
use Rattle.vip_text.specs.StateFile.{word_at, bank_in, regs_in, IsStack}

-- R2 points into the stack
pub stack-there : (e : Edition) (top r2 : ℕ) → top ≡ stack_top e → r2 ≤ top → (top - r2) % 2 ≡ 0 → (top - r2) / 2 ≤ 12 → IsStack e r2
stack-there e top r2 is order even few = record { depth = (top - r2) / 2; few = few; below = omega (arith, is, order, even) }

pub stack-few : (e : Edition) (top r2 : ℕ) → top ≡ stack_top e → IsStack e r2 → (top - r2) / 2 ≤ 12
stack-few e top r2 is s = omega (arith, is, s.few, s.below)

pub word_of-value : (w : Word) → w.hi < 256 → w.lo < 256 → word_of (value w) ≡ w
word_of-value w hi lo =
    let high : value w / 256 ≡ w.hi = omega (arith, lo) in
    let low : value w % 256 ≡ w.lo = omega (arith, lo) in
    ap (λ h. word h (value w % 256)) high ∙ ap (word w.hi) low

-- one register more
pub registers-read : (f r : List ℕ) (k w : ℕ) → length r ≡ 16 → k < 16 → w ≡ value (word_at f (14 + 2 * k))
    → ((j : ℕ) → j < k → slice_index r j ≡ value (word_at f (14 + (j + j)))) → (j : ℕ) → j < k + 1
    → slice_index (slice_set r k w) j ≡ value (word_at f (14 + (j + j)))
registers-read f r k w size below is h j low = go (cases_eq j k)
  where
    place : 14 + 2 * k ≡ 14 + (k + k)
    place = omega arith

    go : (j ≡ k) ⊎ (j ≡ k → ⊥) → slice_index (slice_set r k w) j ≡ value (word_at f (14 + (j + j)))
    go (inl e) = subst (λ j. slice_index (slice_set r k w) j ≡ value (word_at f (14 + (j + j)))) (sym e)
        (get_or-set_same r k w 0 (omega (arith, size, below)) ∙ is ∙ ap (λ n. value (word_at f n)) place)
    go (inr d) = get_or-set_other r k j w 0 d ∙ h j (omega (arith, low, d))

word_read : (r f : List ℕ) → ((k : ℕ) → slice_index f k < 256) → ((k : ℕ) → k < 16 → slice_index r k ≡ value (word_at f (14 + (k + k)))) → (k : ℕ)
    → k < 16 → word_of (slice_index r k) ≡ word_at f (14 + (k + k))
word_read r f bytes h k low = ap word_of (h k low) ∙ word_of-value (word_at f (14 + (k + k))) (bytes (14 + (k + k))) (bytes (14 + (k + k) + 1))

abbrev bank : Word → Word → Word → Word → Word → Word → Word → Word → Word → Word → Word → Word → Word → Word → Word → Word → Bank
bank a0 a1 a2 a3 a4 a5 a6 a7 a8 a9 a10 a11 a12 a13 a14 a15 =
    record {
      r0 = a0;
      r1 = a1;
      r2 = a2;
      r3 = a3;
      r4 = a4;
      r5 = a5;
      r6 = a6;
      r7 = a7;
      r8 = a8;
      r9 = a9;
      ra = a10;
      rb = a11;
      rc = a12;
      rd = a13;
      re =
          a14;
      rf = a15;
    }

same_bank : (a0 b0 : Word) → a0 ≡ b0 → (a1 b1 : Word) → a1 ≡ b1 → (a2 b2 : Word) → a2 ≡ b2 → (a3 b3 : Word) → a3 ≡ b3 → (a4 b4 : Word) → a4 ≡ b4
    → (a5 b5 : Word) → a5 ≡ b5 → (a6 b6 : Word) → a6 ≡ b6 → (a7 b7 : Word) → a7 ≡ b7 → (a8 b8 : Word) → a8 ≡ b8 → (a9 b9 : Word) → a9 ≡ b9
    → (a10 b10 : Word) → a10 ≡ b10 → (a11 b11 : Word) → a11 ≡ b11 → (a12 b12 : Word) → a12 ≡ b12 → (a13 b13 : Word) → a13 ≡ b13 → (a14 b14 : Word)
    → a14 ≡ b14 → (a15 b15 : Word) → a15 ≡ b15
    → bank a0 a1 a2 a3 a4 a5 a6 a7 a8 a9 a10 a11 a12 a13 a14 a15 ≡ bank b0 b1 b2 b3 b4 b5 b6 b7 b8 b9 b10 b11 b12 b13 b14 b15
same_bank a0 b0 h0 a1 b1 h1 a2 b2 h2 a3 b3 h3 a4 b4 h4 a5 b5 h5 a6 b6 h6 a7 b7 h7 a8 b8 h8 a9 b9 h9 a10 b10 h10 a11 b11 h11 a12 b12 h12 a13 b13 h13
    a14 b14 h14 a15 b15 h15 =
    ap (λ (w : Word). bank w a1 a2 a3 a4 a5 a6 a7 a8 a9 a10 a11 a12 a13 a14 a15) h0
    ∙ ap (λ (w : Word). bank b0 w a2 a3 a4 a5 a6 a7 a8 a9 a10 a11 a12 a13 a14 a15) h1
    ∙ ap (λ (w : Word). bank b0 b1 w a3 a4 a5 a6 a7 a8 a9 a10 a11 a12 a13 a14 a15) h2
    ∙ ap (λ (w : Word). bank b0 b1 b2 w a4 a5 a6 a7 a8 a9 a10 a11 a12 a13 a14 a15) h3
    ∙ ap (λ (w : Word). bank b0 b1 b2 b3 w a5 a6 a7 a8 a9 a10 a11 a12 a13 a14 a15) h4
    ∙ ap (λ (w : Word). bank b0 b1 b2 b3 b4 w a6 a7 a8 a9 a10 a11 a12 a13 a14 a15) h5
    ∙ ap (λ (w : Word). bank b0 b1 b2 b3 b4 b5 w a7 a8 a9 a10 a11 a12 a13 a14 a15) h6
    ∙ ap (λ (w : Word). bank b0 b1 b2 b3 b4 b5 b6 w a8 a9 a10 a11 a12 a13 a14 a15) h7
    ∙ ap (λ (w : Word). bank b0 b1 b2 b3 b4 b5 b6 b7 w a9 a10 a11 a12 a13 a14 a15) h8
    ∙ ap (λ (w : Word). bank b0 b1 b2 b3 b4 b5 b6 b7 b8 w a10 a11 a12 a13 a14 a15) h9
    ∙ ap (λ (w : Word). bank b0 b1 b2 b3 b4 b5 b6 b7 b8 b9 w a11 a12 a13 a14 a15) h10
    ∙ ap (λ (w : Word). bank b0 b1 b2 b3 b4 b5 b6 b7 b8 b9 b10 w a12 a13 a14 a15) h11
    ∙ ap (λ (w : Word). bank b0 b1 b2 b3 b4 b5 b6 b7 b8 b9 b10 b11 w a13 a14 a15) h12
    ∙ ap (λ (w : Word). bank b0 b1 b2 b3 b4 b5 b6 b7 b8 b9 b10 b11 b12 w a14 a15) h13
    ∙ ap (λ (w : Word). bank b0 b1 b2 b3 b4 b5 b6 b7 b8 b9 b10 b11 b12 b13 w a15) h14
    ∙ ap (λ (w : Word). bank b0 b1 b2 b3 b4 b5 b6 b7 b8 b9 b10 b11 b12 b13 b14 w) h15

bank-read : (r f : List ℕ) → ((k : ℕ) → slice_index f k < 256) → ((k : ℕ) → k < 16 → slice_index r k ≡ value (word_at f (14 + (k + k)))) → bank_of r ≡ bank_in f
unfolding bank_of bank_in
bank-read r f bytes h = same_bank (word_of (slice_index r 0)) (word_at f 14) (word_read r f bytes h 0 (omega arith)) (word_of (slice_index r 1))
    (word_at f 16) (word_read r f bytes h 1 (omega arith)) (word_of (slice_index r 2)) (word_at f 18) (word_read r f bytes h 2 (omega arith))
    (word_of (slice_index r 3)) (word_at f 20) (word_read r f bytes h 3 (omega arith)) (word_of (slice_index r 4)) (word_at f 22)
    (word_read r f bytes h 4 (omega arith)) (word_of (slice_index r 5)) (word_at f 24) (word_read r f bytes h 5 (omega arith))
    (word_of (slice_index r 6)) (word_at f 26) (word_read r f bytes h 6 (omega arith)) (word_of (slice_index r 7)) (word_at f 28)
    (word_read r f bytes h 7 (omega arith)) (word_of (slice_index r 8)) (word_at f 30) (word_read r f bytes h 8 (omega arith))
    (word_of (slice_index r 9)) (word_at f 32) (word_read r f bytes h 9 (omega arith)) (word_of (slice_index r 10)) (word_at f 34)
    (word_read r f bytes h 10 (omega arith)) (word_of (slice_index r 11)) (word_at f 36) (word_read r f bytes h 11 (omega arith))
    (word_of (slice_index r 12)) (word_at f 38) (word_read r f bytes h 12 (omega arith)) (word_of (slice_index r 13)) (word_at f 40)
    (word_read r f bytes h 13 (omega arith)) (word_of (slice_index r 14)) (word_at f 42) (word_read r f bytes h 14 (omega arith))
    (word_of (slice_index r 15)) (word_at f 44) (word_read r f bytes h 15 (omega arith))

bit_of : (n : ℕ) → n < 2 → bit (n == 1) ≡ n
bit_of zero h = refl
bit_of (suc zero) h = refl
bit_of (suc (suc n)) h = absurd (omega (arith, h))

abbrev regs_with : Bank → ℕ → List ℕ → Regs
regs_with r df f =
    record {
      r = r;
      d = slice_index f 46;
      df = df;
      p = slice_index f 48 % 16;
      x = slice_index f 48 / 16;
      t = slice_index f 47;
      q = slice_index f 49 / 2 == 1;
      ie = true;
      idle = false;
    }

pub regs-read : (r f : List ℕ) → ((k : ℕ) → slice_index f k < 256) → ((k : ℕ) → k < 16 → slice_index r k ≡ value (word_at f (14 + (k + k))))
    → regs_with (bank_of r) (bit (slice_index f 49 % 2 == 1)) f ≡ regs_in f
regs-read r f bytes h =
    ap (λ r. regs_with r (bit (slice_index f 49 % 2 == 1)) f) (bank-read r f bytes h)
    ∙ ap (λ df. regs_with (bank_in f) df f) (bit_of (slice_index f 49 % 2) (omega arith))
