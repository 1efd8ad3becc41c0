-- One bit of a key set, set or cleared.
use Rattle.std.proofs.Common.{◌≡◌, ℕ, ◌*◌, ◌%◌, ◌^◌, ◌<◌, true, false, cond, eqb, refl, sym, bit_and, bit_or, w16, inl, inr}
use Rattle.std.specs.Int.{bit_not}
use Rattle.std.proofs.lemmas.Bool.{cases_eq, eq-eqb, ne_eqb}
use Rattle.std.proofs.lemmas.Nat.Bits.{bit_at_set_same, bit_at_set_other, bit_at_clear_same, bit_at_clear_other}
use Rattle.vip_keypad.specs.KeySet.{has_key}

-- a key goes in
pub has_key-set : (keys key k : ℕ) → key < 16 → has_key (bit_or keys (1 * 2 ^ key % 2 ^ 16)) k ≡ cond (eqb key k) true (has_key keys k)
has_key-set keys key k within = elim (cases_eq key k) [
  | inl same ↦ rw (← same, bit_at_set_same w16 keys key within, eq-eqb key key refl) refl
  | inr other ↦ rw (bit_at_set_other w16 keys key within k (λ e. other (sym e)), ne_eqb key k other) refl
]

-- a key goes out
pub has_key-clear : (keys key k : ℕ) → key < 16 → k < 16
    → has_key (bit_and keys (bit_not w16 (1 * 2 ^ key % 2 ^ 16))) k ≡ cond (eqb key k) false (has_key keys k)
has_key-clear keys key k within below = elim (cases_eq key k) [
  | inl same ↦ rw (← same, bit_at_clear_same w16 keys key within, eq-eqb key key refl) refl
  | inr other ↦ rw (bit_at_clear_other w16 keys key within k below (λ e. other (sym e)), ne_eqb key k other) refl
]
