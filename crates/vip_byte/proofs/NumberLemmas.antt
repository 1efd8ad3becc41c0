-- How far a text of digits has been read.
use Rattle.std.proofs.Common.{◌≡◌, ℕ, ◌+◌, ◌*◌, ◌<◌, ◌≤◌, true, List, length, get_or, take, min, Ok, Err, inl, inr, refl, arith}
use Rattle.std.specs.Char.{digit_value, is_digit}
use Rattle.std.specs.Str.Parse.{digits_value}
use Rattle.std.proofs.lemmas.Bool.{and_from, cases_lt, le-ltb, lt-ltb, ne_eqb}
use Rattle.std.proofs.lemmas.Int.Digits.{digits_value_more}
use Rattle.std.proofs.Math.Nat.{le-mul_of_pos_right}
use Rattle.std.proofs.Math.Seq.{take-length}
use Rattle.std.proofs.lemmas.List.Folds.{list_all_more, list_all_at}
use Rattle.vip_byte.specs.declared.number.NumFault.TheVariants.{BadDigit, TooLarge}
use Rattle.vip_byte.specs.Number.{are_digits, number}

-- the first `count` bytes are digits, and `value` is theirs where it is at most `most`, and else the number behind that
pub record IsReadUpTo (base : ℕ) (text : List ℕ) (most count value : ℕ) : Type 0 where
  pub digits : are_digits base (take count text) ≡ true
  pub worth : value ≡ min (digits_value base (take count text)) (most + 1)

-- one digit more
are_digits-more : (base : ℕ) (text : List ℕ) (i : ℕ) → i < length text → are_digits base (take i text) ≡ true
    → digit_value (get_or text i 0) < base → are_digits base (take (i + 1) text) ≡ true
are_digits-more base text i within before digit =
    rw (list_all_more (λ byte. is_digit byte base) text i 0 within) (and_from _ _ before (lt-ltb _ _ digit))

-- a value that is too large stays so
worth-more : (base most before digit : ℕ) → 2 ≤ base
    → min (min before (most + 1) * base + digit) (most + 1) ≡ min (before * base + digit) (most + 1)
worth-more base most before digit least =
    let once = le-mul_of_pos_right {m = base} (most + 1) (omega (arith, least)) in
    elim (cases_lt before (most + 1)) [
      | inl small ↦ let same : min before (most + 1) ≡ before = omega (arith, small) in rw same refl
      | inr large ↦
          let same : min before (most + 1) ≡ most + 1 = omega (arith, large) in
          let more = le-mul_of_pos_right {m = base} before (omega (arith, least)) in
          rw same (omega (arith, once, more, large))
    ]

-- the next digit is read
pub read_digit : (base : ℕ) (text : List ℕ) (most i value : ℕ) → 2 ≤ base → i < length text
    → digit_value (get_or text i 0) < base → IsReadUpTo base text most i value
    → IsReadUpTo base text most (i + 1) (min (value * base + digit_value (get_or text i 0)) (most + 1))
read_digit base text most i value least within digit read = record {
  digits = are_digits-more base text i within read.digits digit;
  worth = rw (digits_value_more base text i within, read.worth) (worth-more base most _ _ least);
}

-- a byte that is no digit
pub number-bad : (base : ℕ) (text : List ℕ) (most i : ℕ) → i < length text → base ≤ digit_value (get_or text i 0)
    → number base text most ≡ Err BadDigit
unfolding number
number-bad base text most i within bad =
    rw (ne_eqb (length text) 0 (λ none. omega arith), list_all_at (λ byte. is_digit byte base) text i 0 within (le-ltb _ _ bad)) refl

-- the whole text
pub number-read : (base : ℕ) (text : List ℕ) (most value : ℕ) → 0 < length text → IsReadUpTo base text most (length text) value
    → value ≡ min (digits_value base text) (most + 1) × are_digits base text ≡ true
number-read base text most value some read = (rw (take-length text) at read.worth, rw (take-length text) at read.digits)

-- one that is too large
pub number-large : (base : ℕ) (text : List ℕ) (most value : ℕ) → 0 < length text → IsReadUpTo base text most (length text) value
    → value ≡ most + 1 → number base text most ≡ Err TooLarge
unfolding number
number-large base text most value some read large =
    let whole = number-read base text most value some read in
    rw (ne_eqb (length text) 0 (λ none. omega arith), whole.1, lt-ltb most (digits_value base text) (omega (arith, whole.0, large))) refl

-- one that is not
pub number-small : (base : ℕ) (text : List ℕ) (most value : ℕ) → 0 < length text → IsReadUpTo base text most (length text) value
    → ¬ (value ≡ most + 1) → number base text most ≡ Ok value
unfolding number
number-small base text most value some read small =
    let whole = number-read base text most value some read in
    let same : digits_value base text ≡ value = omega (arith, whole.0, small) in
    rw (ne_eqb (length text) 0 (λ none. omega arith), whole.1, same, le-ltb most value (omega (arith, whole.0, small))) refl
