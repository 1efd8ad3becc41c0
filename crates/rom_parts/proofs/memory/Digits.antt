-- A digit: w is taken away from n again and again, until it is once too often.
use Rattle.std.proofs.Common.{◌≡◌, ℕ, suc, ◌+◌, ◌-◌, ◌*◌, ◌/◌, ◌%◌, ◌<◌, ◌≤◌, refl, sym, ◌∙◌, arith}
use Rattle.std.proofs.Math.Nat.{suc-mul}
use Rattle.std.proofs.lemmas.Nat.{div-add-mod', mod_below, same_from_place}

-- of a difference of bytes, with 256 added
once_more : (n w p d : ℕ) → n < 256 → w < 256 → p ≤ n → d ≡ n - p → (d + 256 - w) / 256 ≡ 1 → (p + w ≤ n) × ((d + 256 - w) % 256 ≡ n - (p + w))
once_more n w p d small byte left is whole = (omega (arith, small, byte, left, is, whole), omega (arith, small, byte, left, is, whole))

too_often : (n w p d : ℕ) → n < 256 → w < 256 → p ≤ n → d ≡ n - p → ((d + 256 - w) / 256 ≡ 1 → ⊥) → (n - p < w) × ((d + 256 - w) % 256 ≡ n - p + 256 - w)
too_often n w p d small byte left is borrow = (omega (arith, small, byte, left, is, borrow), omega (arith, small, byte, left, is, borrow))

-- d is what is left after k times
module _ (n w k d : ℕ) (small : n < 256) (some : 0 < w) (byte : w < 256) (left : k * w ≤ n) (is : d ≡ n - k * w) where
  -- it is taken away once more
  pub taken : (d + 256 - w) / 256 ≡ 1 → (suc k * w ≤ n) × ((d + 256 - w) % 256 ≡ n - suc k * w)
  taken whole = rw (suc-mul k w) (once_more n w (k * w) d small byte left is whole)

  -- it is not: k is the quotient, and the remainder shows with a borrow
  pub counted : ((d + 256 - w) / 256 ≡ 1 → ⊥) → (k ≡ n / w) × ((d + 256 - w) % 256 ≡ n % w + 256 - w)
  counted borrow = (parts.0, p.1 ∙ rw (sym parts.1) refl)
    where
      p : (n - k * w < w) × ((d + 256 - w) % 256 ≡ n - k * w + 256 - w)
      p = too_often n w (k * w) d small byte left is borrow

      whole : k * w + (n - k * w) ≡ n
      whole = omega (arith, left)

      parts : (k ≡ n / w) × (n - k * w ≡ n % w)
      parts = same_from_place k (n - k * w) (n / w) (n % w) w p.0 (mod_below n w some) (whole ∙ sym (div-add-mod' n w))
