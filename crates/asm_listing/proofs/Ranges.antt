-- Numbers in a row.
use Rattle.std.proofs.Common.{◌≡◌, ◌+◌, ◌-◌, ℕ, zero, suc, [], ◌∷◌, ◌++◌, take, drop, ◌∙◌, ap, arith, min}
use Rattle.std.specs.List.{range_with_len}

pub range_push : (n a : ℕ) → range_with_len a (n + 1) ≡ range_with_len a n ++ (a + n) ∷ []
range_push zero a = ap (λ x. x ∷ []) (omega arith)
range_push (suc n) a =
    let step : suc n + 1 ≡ suc (n + 1) = omega arith in
    ap (range_with_len a) step ∙ ap (λ xs. a ∷ xs) (range_push n (a + 1)) ∙ ap (λ x. a ∷ (range_with_len (a + 1) n ++ x ∷ [])) (omega arith)

pub take-range : (m n a : ℕ) → take m (range_with_len a n) ≡ range_with_len a (min m n)
take-range zero n a = let none : 0 ≡ min 0 n = omega arith in ap (range_with_len a) none
take-range (suc m) zero a = let none : 0 ≡ min (suc m) 0 = omega arith in ap (range_with_len a) none
take-range (suc m) (suc n) a =
    let step : suc (min m n) ≡ min (suc m) (suc n) = omega arith in
    ap (λ xs. a ∷ xs) (take-range m n (a + 1)) ∙ ap (range_with_len a) step

pub drop-range : (m n a : ℕ) → drop m (range_with_len a n) ≡ range_with_len (a + m) (n - m)
drop-range zero n a =
    let start : a ≡ a + 0 = omega arith in
    let count : n ≡ n - 0 = omega arith in
    ap (λ b. range_with_len b n) start ∙ ap (range_with_len (a + 0)) count
drop-range (suc m) zero a = let none : 0 ≡ 0 - suc m = omega arith in ap (range_with_len (a + suc m)) none
drop-range (suc m) (suc n) a =
    let start : a + 1 + m ≡ a + suc m = omega arith in
    let count : n - m ≡ suc n - suc m = omega arith in
    drop-range m n (a + 1) ∙ ap (λ b. range_with_len b (n - m)) start ∙ ap (range_with_len (a + suc m)) count
