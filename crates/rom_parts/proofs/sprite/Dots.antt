-- The dots of a sprite's rows are those of its bytes.
use Rattle.std.proofs.Common.{◌≡◌, ℕ, suc, ◌+◌, ◌-◌, ◌*◌, ◌/◌, ◌%◌, ◌<◌, ◌≤◌, refl, sym, ◌∙◌, ap, Bool, true, false, ◌&&◌, ◌||◌, ◌==◌, ◌⊎◌, inl, inr, arith, nat_lt}
use Rattle.std.specs.Bool.{Decides}
use Rattle.std.proofs.lemmas.Bool.{cases_lt, cases_eq, and_parts, and_from, or_cases, or_left, or_right, eqb-true, eq-eqb, ne_eqb, ltb-true, lt-ltb}
use Rattle.std.proofs.lemmas.Bool.Decides.{same_from_decides}
use Rattle.std.proofs.lemmas.Nat.{shr_le}
use Rattle.std.proofs.lemmas.Nat.Bits.{bit_at-zero}
use Rattle.chip8_lang.specs.Screen.{Pixels, is_set, either, some_below, dots_of_row, dots}
use Rattle.rom_rows.specs.Dots.{dots_of_byte, rows_drawn, shifted, left, right}
use Rattle.rom_parts.proofs.sprite.Bits.{some_tells, word_tells, word_upper, word_lower}
use Rattle.rom_parts.proofs.sprite.Bytes.{within, inside, Apart}

-- what is said of a dot of row r
abbrev pub Dot : ℕ → (ℕ → ℕ) → ℕ → ℕ → ℕ → ℕ → ℕ → Type 0
Dot rows bytes x0 y0 r x y = (c : ℕ) × (c < 8) × (x ≡ x0 + c) × (y ≡ y0 + r) × (is_set (bytes r) (7 - c) ≡ true) × (x < 64) × (y < rows)

pub dot_tells : (rows : ℕ) (bytes : ℕ → ℕ) (x0 y0 r x y : ℕ) → Decides (dots_of_row rows bytes x0 y0 r x y) (Dot rows bytes x0 y0 r x y)
dot_tells rows bytes x0 y0 r x y = (from, to)
  where
    from : dots_of_row rows bytes x0 y0 r x y ≡ true → Dot rows bytes x0 y0 r x y
    from e = let (c, h, f) = (some_tells _ 8).0 e in at c h f
      where
        at : (c : ℕ) → c < 8 → ((x == x0 + c && y == y0 + r) && (is_set (bytes r) (7 - c) && (nat_lt (x0 + c) 64 && nat_lt (y0 + r) rows))) ≡ true
            → Dot rows bytes x0 y0 r x y
        at c h f =
            let p = and_parts (x == x0 + c && y == y0 + r) _ f in let q = and_parts (x == x0 + c) (y == y0 + r) p.0 in
            let u = and_parts (is_set (bytes r) (7 - c)) _ p.1 in let v = and_parts (nat_lt (x0 + c) 64) (nat_lt (y0 + r) rows) u.1 in (
              c,
              h,
              eqb-true _ _ q.0,
              eqb-true _ _ q.1,
              u.0,
              omega (
                arith,
                eqb-true x (x0 + c) q.0,
                ltb-true (x0
                    + c) 64 v.0,
              ),
              omega (arith, eqb-true y (y0 + r) q.1, ltb-true (y0 + r) rows v.1),
            )

    to : Dot rows bytes x0 y0 r x y → dots_of_row rows bytes x0 y0 r x y ≡ true
    to (c, h, i, j, s, k, l) =
        (some_tells _ 8).1 (
          c,
          h,
          and_from _ _ (and_from _ _ (eq-eqb _ _ i) (eq-eqb _ _ j)) (and_from _ _ s
              (and_from _ _ (lt-ltb (x0 + c) 64 (omega (arith, i, k))) (lt-ltb (y0 + r) rows (omega (arith, j, l))))),
        )

turned : (d e f : Bool) → ((d || e) || f) ≡ ((e || f) || d)
turned true true f = refl
turned true false true = refl
turned true false false = refl
turned false true f = refl
turned false false true = refl
turned false false false = refl

module _ (rows : ℕ) (bytes : ℕ → ℕ) (x0 y0 : ℕ) (start : x0 < 64) where
  abbrev pub place : ℕ → ℕ
  place r = 8 * (y0 + r) + x0 / 8

  abbrev pub left_dots : ℕ → Pixels
  left_dots r = dots_of_byte rows (place r) (left x0 (bytes r))

  abbrev pub right_dots : ℕ → Pixels
  right_dots r = dots_of_byte rows (place r + 1) (right x0 (bytes r))

  -- what is said of a pixel of a byte
  at_byte : (a p x y : ℕ) → dots_of_byte rows a p x y ≡ true → (x < 64) × (y < rows) × (8 * y + x / 8 ≡ a) × (is_set p (7 - x % 8) ≡ true)
  at_byte a p x y e = let z = within rows x y _ e in let q = and_parts _ _ z.2 in (z.0, z.1, eqb-true _ _ q.0, q.1)

  -- the second byte isn't 0, so the first isn't in the last column
  before_last : (r k : ℕ) → is_set (right x0 (bytes r)) k ≡ true → (x0 / 8 ≡ 7 → ⊥) × (is_set (shifted x0 (bytes r) % 256) k ≡ true)
  before_last r k e = go (cases_eq (x0 / 8) 7)
    where
      go : (x0 / 8 ≡ 7) ⊎ (x0 / 8 ≡ 7 → ⊥) → (x0 / 8 ≡ 7 → ⊥) × (is_set (shifted x0 (bytes r) % 256) k ≡ true)
      go (inl f) = absurd (omega (arith, bit_at-zero k, eqb-true _ _ (rw (eq-eqb (x0 / 8) 7 f) at e)))
      go (inr f) = (f, rw (ne_eqb (x0 / 8) 7 f) at e)

  pub left_place : (r x y : ℕ) → left_dots r x y ≡ true → (y ≡ y0 + r) × (x / 8 ≡ x0 / 8)
  left_place r x y e = let (h, k, i, s) = at_byte _ _ x y e in (omega arith, omega arith)

  pub right_place : (r x y : ℕ) → right_dots r x y ≡ true → (y ≡ y0 + r) × (x / 8 ≡ x0 / 8 + 1)
  right_place r x y e = let (h, k, i, s) = at_byte _ _ x y e in let n = (before_last r _ s).0 in (omega (arith, n), omega (arith, n))

  -- a row's dots are those of its two bytes
  row_tells : (r : ℕ) → bytes r < 256 → (x y : ℕ) → Decides (left_dots r x y || right_dots r x y) (Dot rows bytes x0 y0 r x y)
  row_tells r small x y = (λ e. from (or_cases _ _ e), to)
    where
      tells : (p : ℕ) → p < 16 → Decides (is_set (shifted x0 (bytes r)) (15 - p)) ((c : ℕ) × (c < 8) × (p ≡ x0 % 8 + c) × is_set (bytes r) (7 - c) ≡ true)
      tells p h = word_tells (bytes r) (x0 % 8) p small (omega arith) h

      lower : (m : ℕ) → m < 8 → is_set (shifted x0 (bytes r) % 256) (7 - m) ≡ is_set (shifted x0 (bytes r)) (15 - (8 + m))
      lower m h =
          ap (is_set (shifted x0 (bytes r) % 256)) (omega arith)
          ∙ ap (λ z. z == 1) (word_lower (shifted x0 (bytes r)) (8 + m) (omega arith) (omega arith))

      upper : (m : ℕ) → m < 8 → is_set (left x0 (bytes r)) (7 - m) ≡ is_set (shifted x0 (bytes r)) (15 - m)
      upper m h = ap (λ z. z == 1) (word_upper (shifted x0 (bytes r)) m h)

      from : (left_dots r x y ≡ true) ⊎ (right_dots r x y ≡ true) → Dot rows bytes x0 y0 r x y
      from (inl e) =
          let (h, k, i, s) = at_byte _ _ x y e in let f = left_place r x y e in
          let (c, l, j, t) = (tells (x % 8) (omega arith)).0 (sym (upper (x % 8) (omega arith)) ∙ s) in (c, l, omega (arith, f.1), f.0, t, h, k)
      from (inr e) =
          let (h, k, i, s) = at_byte _ _ x y e in let f = right_place r x y e in
          let (c, l, j, t) = (tells (8 + x % 8) (omega arith)).0 (sym (lower (x % 8) (omega arith)) ∙ (before_last r _ s).1) in
          (c, l, omega (arith, f.1), f.0, t, h, k)

      to : Dot rows bytes x0 y0 r x y → (left_dots r x y || right_dots r x y) ≡ true
      to (c, h, i, j, s, k, l) = at (cases_lt (x0 % 8 + c) 8)
        where
          word : is_set (shifted x0 (bytes r)) (15 - (x0 % 8 + c)) ≡ true
          word = (tells (x0 % 8 + c) (omega (arith, h))).1 (c, h, refl, s)

          at : (x0 % 8 + c < 8) ⊎ (8 ≤ x0 % 8 + c) → (left_dots r x y || right_dots r x y) ≡ true
          at (inl z) =
              or_left _ _ (inside rows x y _ k l
              (and_from _ _ (eq-eqb (8 * y + x / 8) (place r) (omega (arith, i, j, z)))
              (upper (x % 8) (omega arith) ∙ ap (λ m. is_set (shifted x0 (bytes r)) (15 - m)) (omega (arith, i, z)) ∙ word)))
          at (inr z) =
              or_right _ _ (inside rows x y _ k l
              (and_from _ _ (eq-eqb (8 * y + x / 8) (place r + 1) (omega (arith, i, j, z, h, k)))
              (rw (ne_eqb (x0 / 8) 7 (λ f. omega (arith, f, i, z, k, h)))
              (lower (x % 8) (omega arith) ∙ ap (λ m. is_set (shifted x0 (bytes r)) (15 - m)) (omega (arith, i, z, h)) ∙ word))))

  -- one row more
  pub rows_grow : (r : ℕ) → bytes r < 256 → either (either (dots rows bytes x0 y0 r) (left_dots r)) (right_dots r) ≡ dots rows bytes x0 y0 (suc r)
  unfolding some_below
  rows_grow r small =
      λ i x y. (turned (dots rows bytes x0 y0 r x y) (left_dots r x y) (right_dots r x y)
      ∙ ap (λ t. t || dots rows bytes x0 y0 r x y) (same_from_decides _ _ (row_tells r small x y) (dot_tells rows bytes x0 y0 r x y))) i

  pub left_small : (r : ℕ) → bytes r < 256 → left x0 (bytes r) < 256
  left_small r small = omega (arith, small, shr_le (bytes r * 256) (x0 % 8))

  pub right_small : (r : ℕ) → right x0 (bytes r) < 256
  right_small r = go (cases_eq (x0 / 8) 7)
    where
      go : (x0 / 8 ≡ 7) ⊎ (x0 / 8 ≡ 7 → ⊥) → right x0 (bytes r) < 256
      go (inl f) = rw (eq-eqb (x0 / 8) 7 f) (omega arith)
      go (inr f) = rw (ne_eqb (x0 / 8) 7 f) (omega arith)

  pub right_last : (r : ℕ) → x0 / 8 ≡ 7 → right x0 (bytes r) ≡ 0
  right_last r f = rw (eq-eqb (x0 / 8) 7 f) refl

  -- earlier rows lie above
  pub above : (r x y : ℕ) → dots rows bytes x0 y0 r x y ≡ true → y < y0 + r
  above r x y e =
      let (k, h, f) = (some_tells (λ r. dots_of_row rows bytes x0 y0 r x y) r).0 e in
      let (c, i, j, z, q, u, v) = (dot_tells rows bytes x0 y0 k x y).0 f in omega (arith, h, z)

  -- and so does the first byte of a row before its second
  pub apart_left : (r : ℕ) → Apart (dots rows bytes x0 y0 r) (left_dots r)
  apart_left r x y e f = omega (arith, above r x y e, left_place r x y f)

  pub apart_right : (r : ℕ) → Apart (either (dots rows bytes x0 y0 r) (left_dots r)) (right_dots r)
  apart_right r x y e f = go (or_cases _ _ e)
    where
      go : (dots rows bytes x0 y0 r x y ≡ true) ⊎ (left_dots r x y ≡ true) → ⊥
      go (inl z) = omega (arith, above r x y z, right_place r x y f)
      go (inr z) = omega (arith, left_place r x y z, right_place r x y f)

  -- rows beyond the bottom edge have no dots
  pub bottom : (n : ℕ) → dots rows bytes x0 y0 (rows_drawn rows y0 n) ≡ dots rows bytes x0 y0 n
  bottom n = λ i x y. same_from_decides _ _ (some_tells _ (rows_drawn rows y0 n)) (more x y) i
    where
      row : ℕ → ℕ → ℕ → Bool
      row x y r = dots_of_row rows bytes x0 y0 r x y

      more : (x y : ℕ) → Decides (some_below (row x y) n) ((r : ℕ) × (r < rows_drawn rows y0 n) × row x y r ≡ true)
      more x y = (λ e. let (r, h, f) = (some_tells (row x y) n).0 e in at r h f, λ (r, h, f). (some_tells (row x y) n).1 (r, omega (arith, h), f))
        where
          at : (r : ℕ) → r < n → row x y r ≡ true → (r : ℕ) × (r < rows_drawn rows y0 n) × row x y r ≡ true
          at r h f = let (c, i, j, z, q, u, v) = (dot_tells rows bytes x0 y0 r x y).0 f in (r, omega (arith, h, z, v), f)
