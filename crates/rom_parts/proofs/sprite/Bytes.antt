-- The dots of one byte, and sets of dots that are apart.
use Rattle.std.proofs.Common.{◌≡◌, ℕ, ◌+◌, ◌-◌, ◌*◌, ◌/◌, ◌%◌, ◌<◌, ◌≤◌, refl, sym, ◌∙◌, ap, Bool, true, false, not, ◌&&◌, ◌||◌, ◌==◌, ◌⊎◌, inl, inr, arith, nat_lt, bit_and, bit_xor, List, length, slice_index, slice_set, get_or-set_same, get_or-set_other}
use Rattle.std.specs.Bool.{Decides}
use Rattle.std.specs.Int.{bit_at}
use Rattle.std.proofs.lemmas.List.{get_or_past}
use Rattle.std.proofs.lemmas.Bool.{cases_lt, cases_eq, cases_Bool, and_parts, and_from, or_cases, or_left, or_right, eqb-true, eq-eqb, ne_eqb, ltb-true, lt-ltb, false_from_ne_true}
use Rattle.std.proofs.lemmas.Bool.Decides.{same_from_decides}
use Rattle.std.proofs.lemmas.Nat.Bits.{bit_at-zero}
use Rattle.chip8_lang.specs.Screen.{Pixels, is_set, one_of, difference, either, meets}
use Rattle.chip8_lang.specs.Places.{pixels}
use Rattle.rom_rows.specs.Dots.{dots_of_byte}
use Rattle.rom_parts.proofs.sprite.Bits.{some_tells, xor_bit, and_tells}

-- what is said of a pixel in a byte
pub within : (rows x y : ℕ) (t : Bool) → ((nat_lt x 64 && nat_lt y rows) && t) ≡ true → (x < 64) × (y < rows) × t ≡ true
within rows x y t e = let p = and_parts _ _ e in let q = and_parts _ _ p.0 in (ltb-true _ _ q.0, ltb-true _ _ q.1, p.1)

pub inside : (rows x y : ℕ) (t : Bool) → x < 64 → y < rows → t ≡ true → ((nat_lt x 64 && nat_lt y rows) && t) ≡ true
inside rows x y t h k e = and_from _ _ (and_from _ _ (lt-ltb _ _ h) (lt-ltb _ _ k)) e

pub one_of_false : (b : Bool) → b ≡ one_of b false
one_of_false true = refl
one_of_false false = refl

module _ (rows a p : ℕ) (l : List ℕ) (size : length l ≡ 8 * rows) where
  abbrev place : ℕ → ℕ → ℕ
  place x y = 8 * y + x / 8

  -- the byte of a pixel afterwards
  bit_after : (x y : ℕ) → x < 64 → y < rows
      → is_set (slice_index (slice_set l a (bit_xor p (slice_index l a))) (place x y)) (7 - x % 8)
      ≡ one_of (is_set (slice_index l (place x y)) (7 - x % 8)) (place x y == a && is_set p (7 - x % 8))
  bit_after x y h k = go (cases_eq (place x y) a)
    where
      go : (place x y ≡ a) ⊎ (place x y ≡ a → ⊥)
          → is_set (slice_index (slice_set l a (bit_xor p (slice_index l a))) (place x y)) (7 - x % 8)
          ≡ one_of (is_set (slice_index l (place x y)) (7 - x % 8)) (place x y == a && is_set p (7 - x % 8))
      go (inl e) = rw (eq-eqb _ _ e, e, get_or-set_same l a (bit_xor p (slice_index l a)) 0 (omega (arith, e))) (xor_bit p (slice_index l a) (7 - x % 8))
      go (inr e) = rw (ne_eqb _ _ e, get_or-set_other l a (place x y) (bit_xor p (slice_index l a)) 0 e) (one_of_false _)

  -- a byte that is drawn turns its pixels
  pub drawn_pixels : pixels rows (slice_set l a (bit_xor p (slice_index l a))) ≡ difference (pixels rows l) (dots_of_byte rows a p)
  drawn_pixels i x y = at x y (cases_Bool (nat_lt x 64 && nat_lt y rows)) i
    where
      at : (x y : ℕ) → ((nat_lt x 64 && nat_lt y rows) ≡ true) ⊎ ((nat_lt x 64 && nat_lt y rows) ≡ false)
          → pixels rows (slice_set l a (bit_xor p (slice_index l a))) x y ≡ difference (pixels rows l) (dots_of_byte rows a p) x y
      at x y (inl e) = rw e (let q = and_parts _ _ e in bit_after x y (ltb-true _ _ q.0) (ltb-true _ _ q.1))
      at x y (inr e) = rw e refl

-- what `meets` tells
abbrev pub Common : ℕ → Pixels → Pixels → Type 0
Common rows s d = (y : ℕ) × (y < rows) × (x : ℕ) × (x < 64) × (s x y ≡ true) × (d x y ≡ true)

pub meets_tells : (rows : ℕ) (s d : Pixels) → Decides (meets rows s d) (Common rows s d)
meets_tells rows s d = (
  λ e. let (y, k, f) = (some_tells _ rows).0 e in let (x, h, z) = (some_tells _
      64).0 f in let q = and_parts _ _ z in (y, k, x, h, q.0, q.1),
  λ (y, k, x, h, f, g). (some_tells _
      rows).1 (y, k, (some_tells _ 64).1 (x, h, and_from _ _ f g)),
)

-- a byte shares a bit with the screen's exactly where its pixels meet the screen's
module _ (rows a p : ℕ) (small : p < 256) (l : List ℕ) (size : length l ≡ 8 * rows) where
  -- a byte of the screen that is not 0 is one of its bytes
  placed : (k : ℕ) → is_set (slice_index l a) k ≡ true → a < 8 * rows
  placed k e = go (cases_lt a (8 * rows))
    where
      go : (a < 8 * rows) ⊎ (8 * rows ≤ a) → a < 8 * rows
      go (inl h) = h
      go (inr h) = absurd (omega (arith, bit_at-zero k, eqb-true _ _ e, ap (λ m. bit_at m k) (get_or_past l a 0 (omega (arith, h, size)))))

  and_tells_meets : Decides (not (bit_and p (slice_index l a) == 0)) (Common rows (pixels rows l) (dots_of_byte rows a p))
  and_tells_meets = (λ e. let (k, h, z) = (and_tells p (slice_index l a) small).0 e in let q = and_parts _ _ z in at k h q.0 q.1, to)
    where
      at : (k : ℕ) → k < 8 → is_set p k ≡ true → is_set (slice_index l a) k ≡ true → Common rows (pixels rows l) (dots_of_byte rows a p)
      at k h f g = (
        a / 8,
        omega (arith, placed k g),
        8 * (a % 8) + (7
            - k),
        omega arith,
        inside rows _ _ _ (omega arith) (omega (arith, placed k g)) (rw
            (bit, where_is) g),
        inside rows _ _ _ (omega arith) (omega (arith, placed k g)) (and_from _ _ (eq-eqb _ _ where_is) (rw bit f)),
      )
        where
          bit : 7 - (8 * (a % 8) + (7 - k)) % 8 ≡ k
          bit = omega arith

          where_is : 8 * (a / 8) + (8 * (a % 8) + (7 - k)) / 8 ≡ a
          where_is = omega arith

      to : Common rows (pixels rows l) (dots_of_byte rows a p) → not (bit_and p (slice_index l a) == 0) ≡ true
      to (y, k, x, h, f, g) = (and_tells p (slice_index l a) small).1 (7 - x % 8, omega arith, and_from _ _ q.1 (rw q.0 at (within rows x y _ f).2))
        where
          q : (8 * y + x / 8 ≡ a) × (is_set p (7 - x % 8) ≡ true)
          q = let z = and_parts _ _ ((within rows x y _ g).2) in (eqb-true _ _ z.0, z.1)

  pub and_meets : not (bit_and p (slice_index l a) == 0) ≡ meets rows (pixels rows l) (dots_of_byte rows a p)
  and_meets = same_from_decides _ _ and_tells_meets (meets_tells rows (pixels rows l) (dots_of_byte rows a p))

-- ---- sets that are apart

abbrev pub Apart : Pixels → Pixels → Type 0
Apart d e = (x y : ℕ) → d x y ≡ true → e x y ≡ true → ⊥

joined : (s d e : Bool) → (d ≡ true → e ≡ true → ⊥) → one_of (one_of s d) e ≡ one_of s (d || e)
joined s true true h = absurd (h refl refl)
joined true true false h = refl
joined false true false h = refl
joined true false e h = refl
joined false false e h = refl

pub difference_either : (s d e : Pixels) → Apart d e → difference (difference s d) e ≡ difference s (either d e)
difference_either s d e apart = λ i x y. joined (s x y) (d x y) (e x y) (apart x y) i

pub meets_either : (rows : ℕ) (s d e : Pixels) → Apart d e → meets rows s (either d e) ≡ (meets rows s d || meets rows (difference s d) e)
meets_either rows s d e apart = same_from_decides _ _ (meets_tells rows s (either d e)) (λ z. from (or_cases _ _ z), to)
  where
    -- where no earlier dot lies, the screen still has the pixel that it had
    same : (x y : ℕ) → e x y ≡ true → difference s d x y ≡ s x y
    same x y f = rw (false_from_ne_true (d x y) (λ g. apart x y g f)) (sym (one_of_false (s x y)))

    from : (meets rows s d ≡ true) ⊎ (meets rows (difference s d) e ≡ true) → Common rows s (either d e)
    from (inl z) = let (y, k, x, h, f, g) = (meets_tells rows s d).0 z in (y, k, x, h, f, or_left _ _ g)
    from (inr z) = let (y, k, x, h, f, g) = (meets_tells rows (difference s d) e).0 z in (y, k, x, h, sym (same x y g) ∙ f, or_right _ _ g)

    to : Common rows s (either d e) → (meets rows s d || meets rows (difference s d) e) ≡ true
    to (y, k, x, h, f, g) = go (or_cases _ _ g)
      where
        go : (d x y ≡ true) ⊎ (e x y ≡ true) → (meets rows s d || meets rows (difference s d) e) ≡ true
        go (inl z) = or_left _ _ ((meets_tells rows s d).1 (y, k, x, h, f, z))
        go (inr z) = or_right _ _ ((meets_tells rows (difference s d) e).1 (y, k, x, h, same x y z ∙ f, z))
