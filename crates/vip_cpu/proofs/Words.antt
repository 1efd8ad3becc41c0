-- Numbers of 16 bits and their words, and DF as a number.
use Rattle.std.proofs.Common.{◌≡◌, ℕ, ◌+◌, ◌*◌, ◌/◌, ◌%◌, ◌<◌, refl, ap, ◌∙◌, arith}
use Rattle.std.specs.Prelude.{◌==◌, ◌-◌, not, Bool, true, false}
use Rattle.machine.specs.Bank.{word, value, word_of, up, down}
use Rattle.machine.specs.Bit.{bit}
use Rattle.vip_cpu.proofs.Banks.{put_get}

pub value_word_of : (a : ℕ) → value (word_of a) ≡ a
value_word_of a = omega arith

hi_up : (a : ℕ) → (a + 1) % 65536 / 256 ≡ (a / 256 + (a % 256 + 1) / 256) % 256
hi_up a = omega arith

lo_up : (a : ℕ) → (a + 1) % 65536 % 256 ≡ (a % 256 + 1) % 256
lo_up a = omega arith

pub word_of_next : (a : ℕ) → word_of ((a + 1) % 65536) ≡ up (word_of a)
word_of_next a = λ i. word (hi_up a i) (lo_up a i)

hi_down : (a : ℕ) → (a + 65535) % 65536 / 256 ≡ (a / 256 + 255 + (a % 256 + 255) / 256) % 256
hi_down a = omega arith

lo_down : (a : ℕ) → (a + 65535) % 65536 % 256 ≡ (a % 256 + 255) % 256
lo_down a = omega arith

pub word_of_last : (a : ℕ) → word_of ((a + 65535) % 65536) ≡ down (word_of a)
word_of_last a = λ i. word (hi_down a i) (lo_down a i)

two_on : (a : ℕ) → (a + 2) % 65536 ≡ ((a + 1) % 65536 + 1) % 65536
two_on a = omega arith

pub word_of_second : (a : ℕ) → word_of ((a + 2) % 65536) ≡ up (up (word_of a))
word_of_second a = ap word_of (two_on a) ∙ word_of_next ((a + 1) % 65536) ∙ ap up (word_of_next a)

pub word_of_bytes : (h l : ℕ) → l < 256 → word_of (h * 256 + l) ≡ word h l
word_of_bytes h l f = λ i. word (hi i) (lo i)
  where
    hi : (h * 256 + l) / 256 ≡ h
    hi = omega arith

    lo : (h * 256 + l) % 256 ≡ l
    lo = omega arith

pub bit_is : (b : Bool) → (bit b == 1) ≡ b
bit_is true = refl
bit_is false = refl

pub ruleset of_words = (value_word_of, word_of_next, word_of_last, word_of_second, word_of_bytes, bit_is, put_get)

-- ---- the rows without a carry have none in their sums

pub bit_not : (b : Bool) → bit (not b) ≡ 1 - bit b
bit_not true = refl
bit_not false = refl

pub sum_with_none : (a b : ℕ) → a + b + bit false ≡ a + b
sum_with_none a b = omega arith

pub difference_with_none : (a b : ℕ) → a - b - bit false ≡ a - b
difference_with_none a b = omega arith

pub top_with_none : (a : ℕ) → a + 128 * bit false ≡ a
top_with_none a = omega arith

pub bottom_with_none : (a : ℕ) → a * 2 + bit false ≡ a * 2
bottom_with_none a = omega arith

pub ruleset of_bits = (bit_not, sum_with_none, difference_with_none, top_with_none, bottom_with_none)
