-- The tests of bytes that the interpreter makes.
use Rattle.std.proofs.Common.{◌≡◌, ℕ, refl, arith, Bool, true, false, cond, not}
use Rattle.std.specs.Prelude.{◌==◌, bit_xor}
use Rattle.std.specs.Int.Bits.{xor_self, xor_add_and}
use Rattle.std.proofs.lemmas.Bool.{eqb-true, eqb-false, ne_eqb}
use Rattle.std.proofs.lemmas.Nat.{and_le_l, and_le_r}
use Rattle.machine.specs.Bank.{Word}

-- XOR is 0 exactly where the bytes are the same
pub same_xor : (a b : ℕ) → a ≡ b → (bit_xor a b == 0) ≡ true
same_xor a b e = rw (e, xor_self b) refl

pub other_xor : (a b : ℕ) → (a ≡ b → ⊥) → (bit_xor a b == 0) ≡ false
other_xor a b d = ne_eqb (bit_xor a b) 0 (λ e. d (omega (arith, e, xor_add_and a b, and_le_l a b, and_le_r a b)))

-- and what a branch on it tells
pub xor_same : (a b : ℕ) → (bit_xor a b == 0) ≡ true → a ≡ b
xor_same a b e = omega (arith, eqb-true (bit_xor a b) 0 e, xor_add_and a b, and_le_l a b, and_le_r a b)

pub xor_other : (a b : ℕ) → (bit_xor a b == 0) ≡ false → a ≡ b → ⊥
xor_other a b e k = eqb-false (bit_xor a b) 0 e (eqb-true (bit_xor a b) 0 (same_xor a b k))

-- BNZ
not_true : (t : Bool) → not t ≡ true → t ≡ false
not_true true k = cc
not_true false k = refl

not_false : (t : Bool) → not t ≡ false → t ≡ true
not_false true k = refl
not_false false k = cc

pub nonzero : (n : ℕ) → not (n == 0) ≡ true → n ≡ 0 → ⊥
nonzero n k = eqb-false n 0 (not_true (n == 0) k)

pub is_zero : (n : ℕ) → not (n == 0) ≡ false → n ≡ 0
is_zero n k = eqb-true n 0 (not_false (n == 0) k)

-- BNF
pub borrowed : (n : ℕ) → not (n == 1) ≡ true → n ≡ 1 → ⊥
borrowed n k = eqb-false n 1 (not_true (n == 1) k)

pub not_borrowed : (n : ℕ) → not (n == 1) ≡ false → n ≡ 1
not_borrowed n k = eqb-true n 1 (not_false (n == 1) k)

-- a branch
pub taken : (t : Bool) (a c : Word) → t ≡ true → cond t a c ≡ a
taken t a c e = rw e refl

pub passed : (t : Bool) (a c : Word) → t ≡ false → cond t a c ≡ c
passed t a c e = rw e refl
