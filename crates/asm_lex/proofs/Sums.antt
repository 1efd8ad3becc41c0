-- A sum while its terms are taken.
use Rattle.std.proofs.Common.{◌≡◌, ◌+◌, ℕ, List, ◌∷◌, sym, ◌∙◌, ap, arith, true, false, cond, ℤ, pos, ◌+ℤ◌, ◌-ℤ◌, ◌≤ℤ◌, ◌≤◌, ◌*◌, ◌-◌, Some, Option}
use Rattle.std.specs.Prelude.{fold, is_none, unwrap_or, ◌==◌, ◌||◌}
use Rattle.std.specs.List.{list_any}
use Rattle.std.proofs.lemmas.Int.{ints}
use Rattle.std.proofs.lemmas.Bool.{or_parts}
use Rattle.asm_lex.specs.declared.shape.Isa.{Isa}
use Rattle.asm_lex.specs.Expressions.{sum_in, is_large, has_large_number, term_value, has_undefined, with_term, sum_of, terms_of, signed_terms}
use Rattle.asm_lex.specs.Left.{left_terms, left_signed}

-- the terms that are left decide about undefined names, and complete the sum where no number is too large
pub record Completes (isa : Isa) (names : List ℕ → Option ℕ) (here : ℕ) (text : List ℕ) (sum : ℤ) (rest : Option (ℕ × List ℕ)) : Type 0 where
  pub undefined : has_undefined isa names here text ≡ list_any (λ term. is_none (term_value isa names here term)) (left_terms rest)
  pub small : has_large_number isa text ≡ false → list_any (is_large isa) (left_terms rest) ≡ false
  pub total : has_large_number isa text ≡ false → fold (with_term isa names here) sum (left_signed rest) ≡ sum_of isa names here text

pub completes_first : (isa : Isa) (names : List ℕ → Option ℕ) (here : ℕ) (text sum : List ℕ) → sum ≡ sum_in text
    → Completes isa names here text (pos 0) (Some (43, sum))
unfolding has_large_number sum_of
completes_first isa names here text sum e = record {
  undefined = ap (λ sum. list_any (λ term. is_none (term_value isa names here term)) (terms_of sum)) (sym e);
  small = λ h. ap (λ sum. list_any (is_large isa) (terms_of sum)) e ∙ h;
  total = λ h. ap (λ sum. fold (with_term isa names here) (pos 0) (signed_terms 43 sum)) e;
}

-- one more term
pub completes_next : (isa : Isa) (names : List ℕ → Option ℕ) (here : ℕ) (text : List ℕ) (sum : ℤ) (sign : ℕ) (terms term : List ℕ) (more : Option (ℕ × List ℕ))
    (value : ℕ) (next : ℤ)
    → Completes isa names here text sum (Some (sign, terms))
    → terms_of terms ≡ term ∷ left_terms more
    → signed_terms sign terms ≡ (sign, term) ∷ left_signed more
    → false ≡ is_none (term_value isa names here term)
    → (is_large isa term ≡ false → Some value ≡ term_value isa names here term)
    → next ≡ cond (sign == 45) (sum -ℤ pos value) (sum +ℤ pos value)
    → Completes isa names here text next more
completes_next isa names here text sum sign terms term more value next so_far parts signed there is step =
    let undefined_too : list_any (λ term. is_none (term_value isa names here term)) (terms_of terms)
    ≡ (is_none (term_value isa names here term) || list_any (λ term. is_none (term_value isa names here term)) (left_terms more)) =
    ap (list_any (λ term. is_none (term_value isa names here term))) parts in
    let skips : (is_none (term_value isa names here term) || list_any (λ term. is_none (term_value isa names here term)) (left_terms more))
    ≡ list_any (λ term. is_none (term_value isa names here term)) (left_terms more) =
    ap (λ b. b || list_any (λ term. is_none (term_value isa names here term)) (left_terms more)) (sym there) in
    let large_parts : has_large_number isa text ≡ false → (is_large isa term || list_any (is_large isa) (left_terms more)) ≡ false =
    λ h. sym (ap (list_any (is_large isa)) parts) ∙ so_far.small h in
    let one : has_large_number isa text ≡ false → with_term isa names here sum (sign, term) ≡ next =
    λ h. ap (λ (v : Option ℕ). cond (sign == 45) (sum -ℤ pos (unwrap_or v 0)) (sum +ℤ pos (unwrap_or v 0)))
    (sym (is (or_parts _ _ (large_parts h)).0)) ∙ sym step in
    record {
      undefined = so_far.undefined ∙ undefined_too ∙ skips;
      small = λ h. (or_parts _ _ (large_parts h)).1;
      total =
          λ h. ap (λ s. fold (with_term isa names here) s (left_signed more)) (sym (one h)) ∙ sym (ap (fold (with_term isa names here) sum) signed)
          ∙ so_far.total h;
    }

-- a term without a value
pub completes_undefined : (isa : Isa) (names : List ℕ → Option ℕ) (here : ℕ) (text : List ℕ) (sum : ℤ) (sign : ℕ) (terms term : List ℕ)
    (more : Option (ℕ × List ℕ))
    → Completes isa names here text sum (Some (sign, terms)) → terms_of terms ≡ term ∷ left_terms more → true ≡ is_none (term_value isa names here term)
    → true ≡ has_undefined isa names here text
completes_undefined isa names here text sum sign terms term more so_far parts there =
    sym (so_far.undefined ∙ ap (list_any (λ term. is_none (term_value isa names here term))) parts
    ∙ ap (λ b. b || list_any (λ term. is_none (term_value isa names here term)) (left_terms more)) (sym there))

-- the bounds of the sum grow by at most 65536 for each term; `m` bytes are left behind a term of `n` bytes
pub bound_next : (m n : ℕ) → m ≤ n → n + 1 ≤ 256 → m ≤ 256
bound_next m n within short = omega arith

pub low_next : (m n : ℕ) (a b : ℤ) → m ≤ n → n + 1 ≤ 256 → pos 0 ≤ℤ (a +ℤ pos (65536 * (256 - (n + 1)))) → a ≤ℤ (b +ℤ pos 65536)
    → pos 0 ≤ℤ (b +ℤ pos (65536 * (256 - m)))
low_next m n a b within short low step = omega (arith, ints)

pub high_next : (m n : ℕ) (a b : ℤ) → m ≤ n → n + 1 ≤ 256 → a ≤ℤ pos (65536 * (256 - (n + 1))) → b ≤ℤ (a +ℤ pos 65536) → b ≤ℤ pos (65536 * (256 - m))
high_next m n a b within short high step = omega (arith, ints)
