-- The numbers of the lines that say something.
use Rattle.std.proofs.Common.{◌≡◌, ℕ, zero, suc, ◌+◌, ◌-◌, arith, List, [], ◌∷◌, Some, None, refl, inl, inr}
use Rattle.std.specs.Prelude.{slice_index}
use Rattle.std.proofs.lemmas.Bool.{cases_Bool}
use Rattle.vip_byte.specs.Text.{is_silent, words}
use Rattle.cycle_check.specs.Certificate.{said, numbers_from}

numbers_from-none : (number : ℕ) → numbers_from number [] ≡ []
unfolding numbers_from
numbers_from-none number = refl

numbers_from-silent : (number : ℕ) (line : List ℕ) (others : List (List ℕ)) → said line ≡ None
    → numbers_from number (line ∷ others) ≡ numbers_from (number + 1) others
unfolding numbers_from said
numbers_from-silent number line others silent = elim (cases_Bool (is_silent (words line))) [
  | inl quiet ↦ rw quiet refl
  | inr loud ↦ let says : Some (words line) ≡ None = rw loud at silent in cc
]

numbers_from-said : (number : ℕ) (line : List ℕ) (others says : List (List ℕ)) → said line ≡ Some says
    → numbers_from number (line ∷ others) ≡ number ∷ numbers_from (number + 1) others
unfolding numbers_from said
numbers_from-said number line others says spoken = elim (cases_Bool (is_silent (words line))) [
  | inl quiet ↦ let silent : None ≡ Some says = rw quiet at spoken in cc
  | inr loud ↦ rw loud refl
]

-- the number at a place among the numbers of some lines, by the first of them
pub number-here : (number : ℕ) (line : List ℕ) (others says : List (List ℕ)) (left : ℕ) → said line ≡ Some says → left ≡ 0
    → slice_index (numbers_from number (line ∷ others)) left ≡ number
number-here number line others says left spoken first = rw (first, numbers_from-said number line others says spoken) refl

pub number-behind : (number : ℕ) (line : List ℕ) (others says : List (List ℕ)) (left : ℕ) → said line ≡ Some says → (left ≡ 0 → ⊥)
    → slice_index (numbers_from number (line ∷ others)) left ≡ slice_index (numbers_from (number + 1) others) (left - 1)
number-behind number line others says zero spoken later = absurd (later refl)
number-behind number line others says (suc left) spoken later =
    let one_less : suc left - 1 ≡ left = omega arith in
    rw (one_less, numbers_from-said number line others says spoken) refl

pub number-silent : (number : ℕ) (line : List ℕ) (others : List (List ℕ)) (left : ℕ) → said line ≡ None
    → slice_index (numbers_from number (line ∷ others)) left ≡ slice_index (numbers_from (number + 1) others) left
number-silent number line others left silent = rw (numbers_from-silent number line others silent) refl

pub number-none : (number left : ℕ) → slice_index (numbers_from number []) left ≡ 0
number-none number left = rw (numbers_from-none number) refl
