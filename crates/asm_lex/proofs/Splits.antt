-- Texts that are cut at certain bytes.
use Rattle.std.proofs.Common.{◌≡◌, ◌+◌, ◌-◌, ◌<◌, ◌≤◌, ℕ, zero, subst, Some, None, refl, Bool, List, [], ◌∷◌, length, take, drop, suc, sym, ◌∙◌, ap, arith, true, false, get_or, cond}
use Rattle.std.specs.List.{slice_split, position_or_len, filter, find, list_any, list_all}
use Rattle.std.proofs.lemmas.List.Folds.{list_any_none, list_any_at}
use Rattle.std.proofs.lemmas.List.{take_all, length-drop, drop-drop, take-take, drop-take}
use Rattle.std.proofs.lemmas.Bool.{cond-true, cond-false, ne_eqb, eq-eqb, eqb-true, eqb-false}
use Rattle.std.specs.Prelude.{not, ◌==◌, ◌&&◌}
use Rattle.std.proofs.lemmas.List.Splits.{slice_split_none, slice_split_first}
use Rattle.std.proofs.lemmas.List.Sums.{fails_before_first, passes_at_first}
use Rattle.asm_lex.specs.Expressions.{is_sign, signed_terms}

suc_eq : (n m : ℕ) → (1 + n == suc m) ≡ (n == m)
suc_eq n m = elim (n == m) as (λ b. (n == m) ≡ b → (1 + n == suc m) ≡ b) [
  | true ↦ λ e. eq-eqb (1 + n) (suc m) (omega (arith, eqb-true n m e))
  | false ↦ λ e. ne_eqb (1 + n) (suc m) (λ s. omega (arith, s, eqb-false n m e))
] refl

-- each byte passes where none that fails is found
pub all-position : (p : ℕ → Bool) (xs : List ℕ) → (position_or_len (λ x. not (p x)) xs == length xs) ≡ list_all p xs
all-position p [] = refl
all-position p (x ∷ xs) =
    elim (p x) as (λ b. (cond (not (not b)) (1 + position_or_len (λ x. not (p x)) xs) 0 == suc (length xs)) ≡ (b && list_all p xs)) [
      | true ↦ suc_eq (position_or_len (λ x. not (p x)) xs) (length xs) ∙ all-position p xs
      | false ↦ ne_eqb 0 (suc (length xs)) (λ e. omega arith)
    ]

-- a text in which nothing is found is one part
pub slice_split_whole : (p : ℕ → Bool) (xs : List ℕ) → position_or_len p xs ≡ length xs → slice_split p xs ≡ xs ∷ []
slice_split_whole p xs e = slice_split_none p xs (λ k d below. fails_before_first p xs k d (omega (arith, e)))

-- else its first part ends there
pub slice_split_cut : (p : ℕ → Bool) (xs : List ℕ) → position_or_len p xs < length xs
    → slice_split p xs ≡ take (position_or_len p xs) xs ∷ slice_split p (drop (position_or_len p xs + 1) xs)
slice_split_cut p xs below = slice_split_first p xs 0 below

-- the bytes at which a text is cut: none, or the first and those of what is left
pub filter_whole : (p : ℕ → Bool) (xs : List ℕ) → position_or_len p xs ≡ length xs → filter p xs ≡ []
filter_whole p [] e = refl
filter_whole p (x ∷ xs) e = grind (arith, filter_whole p xs)

pub filter_cut : (p : ℕ → Bool) (xs : List ℕ) → position_or_len p xs < length xs
    → filter p xs ≡ get_or xs (position_or_len p xs) 0 ∷ filter p (drop (position_or_len p xs + 1) xs)
filter_cut p [] below = absurd (omega arith)
filter_cut p (x ∷ xs) below =
    elim (p x) as (λ b. cond (not b) (1 + position_or_len p xs) 0 < length (x ∷ xs)
    → cond b (x ∷ filter p xs) (filter p xs) ≡ get_or (x ∷ xs) (cond (not b) (1 + position_or_len p xs) 0) 0
    ∷ filter p (drop (cond (not b) (1 + position_or_len p xs) 0 + 1) (x ∷ xs))) [
      | true ↦ λ h. refl
      | false ↦ λ h.
          let first : 1 + position_or_len p xs ≡ suc (position_or_len p xs) = omega arith in
          let second : suc (position_or_len p xs) + 1 ≡ suc (position_or_len p xs + 1) = omega arith in
          rw (first, second) (filter_cut p xs (omega arith))
    ] below

-- the terms of a sum: one, or the first and those behind its sign
pub signed_whole : (sign : ℕ) (xs : List ℕ) → position_or_len is_sign xs ≡ length xs → signed_terms sign xs ≡ (sign, xs) ∷ []
signed_whole sign xs e = rw (slice_split_whole is_sign xs e, filter_whole is_sign xs e) refl

pub signed_cut : (sign : ℕ) (xs : List ℕ) → position_or_len is_sign xs < length xs
    → signed_terms sign xs ≡ (sign, take (position_or_len is_sign xs) xs)
    ∷ signed_terms (get_or xs (position_or_len is_sign xs) 0) (drop (position_or_len is_sign xs + 1) xs)
signed_cut sign xs below = rw (slice_split_cut is_sign xs below, filter_cut is_sign xs below) refl

-- whether a text is cut
pub list_any_whole : (p : ℕ → Bool) (xs : List ℕ) → position_or_len p xs ≡ length xs → list_any p xs ≡ false
list_any_whole p xs e = list_any_none p xs (λ k d below. fails_before_first p xs k d (omega (arith, e)))

pub list_any_cut : (p : ℕ → Bool) (xs : List ℕ) → position_or_len p xs < length xs → list_any p xs ≡ true
list_any_cut p xs below = list_any_at p xs (position_or_len p xs) 0 below (passes_at_first p xs 0 below)

-- what stands behind the byte at which a text is cut
pub take_behind : (xs : List ℕ) (i : ℕ) → take (length xs - i - 1) (drop (i + 1) xs) ≡ drop (i + 1) xs
take_behind xs i = take_all _ _ (omega (arith, length-drop (i + 1) xs))

-- a part of a part of a text
pub part_of_part : (line : List ℕ) (from to skip keep : ℕ) → from + skip + keep ≤ to
    → take (from + skip + keep - (from + skip)) (drop (from + skip) line) ≡ take keep (drop skip (take (to - from) (drop from line)))
part_of_part line from to skip keep fits =
    let kept : from + skip + keep - (from + skip) ≡ keep = omega arith in
    let wide : to - from ≡ skip + (to - from - skip) = omega arith in
    let T : ℕ → Type 0 = λ n. take keep (drop (from + skip) line) ≡ take keep (drop skip (take n (drop from line))) in
    rw kept (subst T (sym wide) (
    ap (take keep) (sym (drop-drop skip from line))
    ∙ sym (take-take keep (to - from - skip) (drop skip (drop from line)) (omega arith))
    ∙ ap (take keep) (sym (drop-take skip (to - from - skip) (drop from line)))))

-- the first element that passes
pub find_none : (p : ℕ → Bool) (xs : List ℕ) → ((k : ℕ) → k < length xs → p (get_or xs k 0) ≡ false) → find p xs ≡ None
find_none p [] h = refl
find_none p (x ∷ xs) h = cond-false (p x) (Some x) (find p xs) (h 0 (omega arith)) ∙ find_none p xs (λ k below. h (suc k) (omega arith))

pub find_first : (p : ℕ → Bool) (xs : List ℕ) (i : ℕ) → i < length xs → ((k : ℕ) → k < i → p (get_or xs k 0) ≡ false) → p (get_or xs i 0) ≡ true
    → find p xs ≡ Some (get_or xs i 0)
find_first p [] i below h e = absurd (omega arith)
find_first p (x ∷ xs) zero below h e = cond-true (p x) (Some x) (find p xs) e
find_first p (x ∷ xs) (suc i) below h e =
    cond-false (p x) (Some x) (find p xs) (h 0 (omega arith)) ∙ find_first p xs i (omega arith) (λ k under. h (suc k) (omega arith)) e
