-- What is found of the first of some numbers, and of one more.
use Rattle.std.proofs.Common.{◌≡◌, ◌+◌, ℕ, Bool, [], ◌∷◌, true, false, refl, ap, ◌∙◌, arith, cond}
use Rattle.std.specs.Prelude.{◌||◌}
use Rattle.std.specs.List.{list_any, count_by, range_with_len}
use Rattle.std.proofs.lemmas.List.Folds.{list_any-append}
use Rattle.std.proofs.lemmas.List.Sums.{sum_by_push}
use Rattle.asm_listing.proofs.Ranges.{range_push}

or-false : (b : Bool) → (b || false) ≡ b
or-false true = refl
or-false false = refl

pub any-more : (f : ℕ → Bool) (i : ℕ) → list_any f (range_with_len 0 (i + 1)) ≡ (list_any f (range_with_len 0 i) || f i)
any-more f i =
    let here : 0 + i ≡ i = omega arith in
    ap (list_any f) (range_push i 0)
    ∙ list_any-append f (range_with_len 0 i) ((0 + i) ∷ [])
    ∙ ap (λ b. list_any f (range_with_len 0 i) || b) (or-false (f (0 + i)) ∙ ap f here)

-- one more is counted
pub count-more : (f : ℕ → Bool) (i : ℕ) → count_by f (range_with_len 0 (i + 1)) ≡ count_by f (range_with_len 0 i) + cond (f i) 1 0
count-more f i =
    let g : ℕ → ℕ = λ k. cond (f k) 1 0 in
    let here : 0 + i ≡ i = omega arith in
    ap (count_by f) (range_push i 0)
    ∙ sum_by_push g (range_with_len 0 i) (0 + i)
    ∙ ap (λ k. count_by f (range_with_len 0 i) + g k) here
