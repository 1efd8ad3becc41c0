-- Bits of bytes that are shifted, compared and joined.
use Rattle.std.proofs.Common.{◌≡◌, ℕ, zero, suc, ◌+◌, ◌-◌, ◌*◌, ◌/◌, ◌%◌, ◌^◌, ◌<◌, ◌≤◌, refl, sym, ◌∙◌, ap, Bool, true, false, not, ◌&&◌, ◌==◌, ◌⊎◌, inl, inr, arith, bit_and, bit_xor, min}
use Rattle.std.specs.Int.{bit_at}
use Rattle.std.specs.Bool.{Decides}
use Rattle.std.proofs.lemmas.Bool.{cases_lt, cases_Bool, both_ways, eqb-true, eqb-false, eq-eqb, ne_eqb, false_from_ne_true, not-true, not_from_false}
use Rattle.std.proofs.lemmas.Bool.Decides.{Decides-below_or}
use Rattle.std.proofs.lemmas.Nat.{shr-shr, and_le_l}
use Rattle.std.proofs.lemmas.Nat.Bits.{bit_at-zero, bit_at_and, bit_at_xor, bit_at-lt, bit_at_above, bit_at_cat_low, bit_at_cat_high, same_from_bits_below}
use Rattle.chip8_lang.specs.Screen.{is_set, one_of, some_below}

-- what `some_below` tells
pub some_tells : (f : ℕ → Bool) (n : ℕ) → Decides (some_below f n) ((k : ℕ) × (k < n) × f k ≡ true)
unfolding some_below
some_tells f n = Decides-below_or f (λ k. f k ≡ true) (some_below f) (λ k. ((λ e. e), (λ e. e))) refl (λ m. refl) n

-- a bit of a number shifted right
bit_at_shr : (n k i : ℕ) → bit_at (n / 2 ^ k) i ≡ bit_at n (k + i)
bit_at_shr n k i = ap (λ m. m % 2) (shr-shr n k i)

-- a byte followed by eight zeros
bit_at_high : (b m : ℕ) → 8 ≤ m → bit_at (b * 256) m ≡ bit_at b (m - 8)
bit_at_high b m h = ap (λ w. bit_at w m) (omega arith) ∙ bit_at_cat_high b 8 0 m (omega arith) h

bit_at_low : (b m : ℕ) → m < 8 → bit_at (b * 256) m ≡ 0
bit_at_low b m h = ap (λ w. bit_at w m) (omega arith) ∙ bit_at_cat_low b 8 0 m h ∙ bit_at-zero m

-- the two bytes of a word
bit_at_lower : (w i : ℕ) → i < 8 → bit_at (w % 256) i ≡ bit_at w i
bit_at_lower w i h = sym (bit_at_cat_low (w / 256) 8 (w % 256) i h) ∙ ap (λ v. bit_at v i) (omega arith)

-- bit 15 - p of a byte shifted right by k over 16 bits: bit 7 - c of the byte, where p is k + c with c below 8
word_bit : (b k c : ℕ) → c < 8 → k + c < 16 → bit_at (b * 256 / 2 ^ k) (15 - (k + c)) ≡ bit_at b (7 - c)
word_bit b k c h l = bit_at_shr (b * 256) k (15 - (k + c)) ∙ bit_at_high b _ (omega arith) ∙ ap (bit_at b) (omega arith)

word_before : (b k p : ℕ) → b < 256 → k < 8 → p < k → bit_at (b * 256 / 2 ^ k) (15 - p) ≡ 0
word_before b k p small l h = bit_at_shr (b * 256) k (15 - p) ∙ bit_at_above (b * 256) 16 _ (omega arith) (omega arith)

word_after : (b k p : ℕ) → p < 16 → k + 8 ≤ p → bit_at (b * 256 / 2 ^ k) (15 - p) ≡ 0
word_after b k p l h = bit_at_shr (b * 256) k (15 - p) ∙ bit_at_low b _ (omega arith)

pub word_upper : (w p : ℕ) → p < 8 → bit_at (w / 256) (7 - p) ≡ bit_at w (15 - p)
word_upper w p h = bit_at_shr w 8 (7 - p) ∙ ap (bit_at w) (omega arith)

pub word_lower : (w p : ℕ) → 8 ≤ p → p < 16 → bit_at (w % 256) (15 - p) ≡ bit_at w (15 - p)
word_lower w p l h = bit_at_lower w (15 - p) (omega arith)

-- the same as tests
pub word_tells : (b k p : ℕ) → b < 256 → k < 8 → p < 16
    → Decides (is_set (b * 256 / 2 ^ k) (15 - p)) ((c : ℕ) × (c < 8) × (p ≡ k + c) × is_set b (7 - c) ≡ true)
word_tells b k p small l h = (λ e. from (eqb-true _ _ e) (cases_lt p k) (cases_lt p (k + 8)), λ z. to z)
  where
    from : bit_at (b * 256 / 2 ^ k) (15 - p) ≡ 1 → (p < k) ⊎ (k ≤ p) → (p < k + 8) ⊎ (k + 8 ≤ p) → (c : ℕ) × (c < 8) × (p ≡ k + c) × is_set b (7 - c) ≡ true
    from e (inl x) y = absurd (omega (arith, e, word_before b k p small l x))
    from e (inr x) (inr y) = absurd (omega (arith, e, word_after b k p h y))
    from e (inr x) (inl y) = (
      p - k,
      omega arith,
      omega arith,
      eq-eqb _ _ (sym (word_bit b k (p - k) (omega arith) (omega arith))
          ∙ ap (λ m. bit_at (b * 256 / 2 ^ k) (15 - m)) (omega arith) ∙ e),
    )

    to : (c : ℕ) × (c < 8) × (p ≡ k + c) × is_set b (7 - c) ≡ true → is_set (b * 256 / 2 ^ k) (15 - p) ≡ true
    to (c, small, e, s) = eq-eqb _ _ (ap (λ m. bit_at (b * 256 / 2 ^ k) (15 - m)) e ∙ word_bit b k c small (omega arith) ∙ eqb-true _ _ s)

-- exclusive or, bit by bit
odd : (p q : ℕ) → p < 2 → q < 2 → ((p + q) % 2 == 1) ≡ one_of (q == 1) (p == 1)
odd zero zero h k = refl
odd zero (suc zero) h k = refl
odd (suc zero) zero h k = refl
odd (suc zero) (suc zero) h k = refl
odd (suc (suc p)) q h k = absurd (omega arith)
odd zero (suc (suc q)) h k = absurd (omega arith)
odd (suc zero) (suc (suc q)) h k = absurd (omega arith)

pub xor_bit : (a b i : ℕ) → is_set (bit_xor a b) i ≡ one_of (is_set b i) (is_set a i)
xor_bit a b i = ap (λ m. m == 1) (bit_at_xor a b i) ∙ odd (bit_at a i) (bit_at b i) (bit_at-lt a i) (bit_at-lt b i)

-- and, bit by bit
both : (p q : ℕ) → p < 2 → q < 2 → (min p q == 1) ≡ (p == 1 && q == 1)
both zero zero h k = refl
both zero (suc zero) h k = refl
both zero (suc (suc q)) h k = absurd (omega arith)
both (suc zero) zero h k = refl
both (suc zero) (suc zero) h k = refl
both (suc (suc p)) q h k = absurd (omega arith)
both (suc zero) (suc (suc q)) h k = absurd (omega arith)

and_bit : (a b i : ℕ) → is_set (bit_and a b) i ≡ (is_set a i && is_set b i)
and_bit a b i = ap (λ m. m == 1) (bit_at_and a b i) ∙ both (bit_at a i) (bit_at b i) (bit_at-lt a i) (bit_at-lt b i)

-- two bytes share a bit exactly where their `and` is not 0
pub and_tells : (a b : ℕ) → a < 256 → Decides (not (bit_and a b == 0)) ((k : ℕ) × (k < 8) × (is_set a k && is_set b k) ≡ true)
and_tells a b small = (λ e. from e (cases_Bool (some_below (λ k. is_set a k && is_set b k) 8)), to)
  where
    none : some_below (λ k. is_set a k && is_set b k) 8 ≡ false → bit_and a b ≡ 0
    none e =
        same_from_bits_below 8 (bit_and a b) 0 (omega (arith, and_le_l a b)) (omega arith)
        (λ i h. omega (
          arith,
          bit_at-zero i,
          bit_at-lt (bit_and a b) i,
          eqb-false _ _ (and_bit a b i
              ∙ false_from_ne_true _ (λ z. both_ways _ e ((some_tells _ 8).1 (i, h, z)))),
        ))

    from : not (bit_and a b == 0) ≡ true
        → (some_below (λ k. is_set a k && is_set b k) 8 ≡ true) ⊎ (some_below (λ k. is_set a k && is_set b k) 8 ≡ false)
        → (k : ℕ) × (k < 8) × (is_set a k && is_set b k) ≡ true
    from e (inl x) = (some_tells _ 8).0 x
    from e (inr x) = absurd (eqb-false _ _ (not-true _ e) (none x))

    to : (k : ℕ) × (k < 8) × (is_set a k && is_set b k) ≡ true → not (bit_and a b == 0) ≡ true
    to (k, h, z) = not_from_false _ (ne_eqb _ _ (λ e. omega (arith, bit_at-zero k, ap (λ m. bit_at m k) e, eqb-true _ _ (and_bit a b k ∙ z))))
