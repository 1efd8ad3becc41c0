-- Binary digits.
use Rattle.std.proofs.Common.{◌≡◌, ◌+◌, ◌*◌, ◌<◌, ◌≤◌, ℕ, refl, List, length, take, get_or, arith, true, Some, None}
use Rattle.std.specs.Prelude.{min}
use Rattle.std.specs.Char.{digit_value, is_digit}
use Rattle.std.specs.Str.Parse.{digits_value}
use Rattle.std.proofs.lemmas.Bool.{and_from, lt-ltb, le-ltb}
use Rattle.std.proofs.lemmas.Int.Digits.{digits_value_more}
use Rattle.std.proofs.lemmas.List.Folds.{list_all_more, list_all_at}
use Rattle.vip_byte.specs.Number.{are_digits}
use Rattle.asm_lex.specs.Expressions.{number_in}

-- one digit more
pub digits-more : (text : List ℕ) (i : ℕ) → i < length text → are_digits 2 (take i text) ≡ true → digit_value (get_or text i 0) < 2
    → are_digits 2 (take (i + 1) text) ≡ true
digits-more text i within before digit = rw (list_all_more (λ byte. is_digit byte 2) text i 0 within) (and_from _ _ before (lt-ltb _ _ digit))

capped : (worth bit : ℕ) → min (min worth 65536 * 2 + bit) 65536 ≡ min (worth * 2 + bit) 65536
capped worth bit = omega arith

pub worth-more : (text : List ℕ) (i number : ℕ) → i < length text → number ≡ min (digits_value 2 (take i text)) 65536
    → min (number * 2 + digit_value (get_or text i 0)) 65536 ≡ min (digits_value 2 (take (i + 1) text)) 65536
worth-more text i number within before =
    rw (digits_value_more 2 text i within, before) (capped (digits_value 2 (take i text)) (digit_value (get_or text i 0)))

-- a byte that is no digit, no byte, and the whole text
pub number-bad : (text : List ℕ) (i : ℕ) → i < length text → 2 ≤ digit_value (get_or text i 0) → number_in 2 text ≡ None
unfolding number_in
number-bad text i within bad =
    rw (lt-ltb 0 (length text) (omega arith), list_all_at (λ byte. is_digit byte 2) text i 0 within (le-ltb _ _ bad)) refl

pub number-empty : (text : List ℕ) → length text ≡ 0 → number_in 2 text ≡ None
unfolding number_in
number-empty text none = rw none refl

pub number-whole : (text : List ℕ) → 0 < length text → are_digits 2 text ≡ true → number_in 2 text ≡ Some (digits_value 2 text)
unfolding number_in
number-whole text some digits = rw (lt-ltb 0 (length text) some, digits) refl
