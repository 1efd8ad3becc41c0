-- A test of each number below a bound, and what the greatest counter costs.
use Rattle.std.proofs.Common.{◌≡◌, ℕ, zero, suc, ◌+◌, ◌<◌, ◌≤◌, Bool, true, false, leb, refl, sym, arith, add-one, inl, inr, lit<, le_refl, Option, Some, None, ◌∙◌}
use Rattle.std.specs.Prelude.{unwrap_or}
use Rattle.std.proofs.lemmas.Bool.{and_parts, and_from, and_left, and_right, cases_Bool, cases_eq, leb-true, le-leb}
use Rattle.std.proofs.lemmas.Nat.{mul-le}
use Rattle.cycle_check.specs.declared.grammar.Line.{Line}
use Rattle.cycle_check.specs.Closed.{passes_below, left, pays_for}

pub passes_none : (test : ℕ → Bool) → passes_below test 0 ≡ true
unfolding passes_below
passes_none test = refl

pub passes_more : (test : ℕ → Bool) (n : ℕ) → passes_below test n ≡ true → test n ≡ true → passes_below test (n + 1) ≡ true
unfolding passes_below
passes_more test n before here = rw add-one (and_from (test n) (passes_below test n) here before)

pub passes_at : (test : ℕ → Bool) (n v : ℕ) → passes_below test n ≡ true → v < n → test v ≡ true
unfolding passes_below
passes_at test zero v passes below = absurd (omega arith)
passes_at test (suc n) v passes below =
    let both = and_parts (test n) (passes_below test n) passes in
    elim (cases_eq v n) [ inl same ↦ rw same both.0 | inr other ↦ passes_at test n v both.1 (omega arith) ]

pub passes_all : (test : ℕ → Bool) (n : ℕ) → ((v : ℕ) → v < n → test v ≡ true) → passes_below test n ≡ true
unfolding passes_below
passes_all test zero each = refl
passes_all test (suc n) each = and_from (test n) (passes_below test n) (each n (omega arith)) (passes_all test n (λ v below. each v (omega arith)))

pub fails_at : (test : ℕ → Bool) (n v : ℕ) → v < n → test v ≡ false → passes_below test n ≡ false
unfolding passes_below
fails_at test zero v below fails = absurd (omega arith)
fails_at test (suc n) v below fails = elim (cases_eq v n) [
  | inl same ↦ and_left (test n) (passes_below test n) (rw same at fails)
  | inr other ↦ and_right (test n) (passes_below test n) (fails_at test n v (omega arith) fails)
]

-- what is left rises with the counter
pub left_rises : (line : Line) (v w : ℕ) → v ≤ w → left line v ≤ left line w
left_rises line v w le = omega (arith, mul-le line.step v line.step w (le_refl line.step) le)

-- the greatest counter passes for all
pub greatest_pays : (budget cycles : ℕ) (line : Line)
    → leb (cycles + left line 255) budget ≡ passes_below (λ v. leb (cycles + left line v) budget) 256
greatest_pays budget cycles line = elim (cases_Bool (leb (cycles + left line 255) budget)) [
  | inl pays ↦
      pays
      ∙ sym (passes_all (λ v. leb (cycles + left line v) budget) 256 (λ v below. le-leb (cycles + left line v) budget
      (omega (arith, leb-true (cycles + left line 255) budget pays, left_rises line v 255 (omega arith)))))
  | inr fails ↦ fails ∙ sym (fails_at (λ v. leb (cycles + left line v) budget) 256 255 (lit< tt) fails)
]

-- the greatest counter that may follow stands for all of them
pub worst_pays : (budget cycles : ℕ) (line : Line) (counter : Option ℕ) (own worst rest : ℕ) → own ≡ cycles → worst ≡ unwrap_or counter 255
    → rest ≡ left line worst
    → leb (own + rest) budget ≡ pays_for budget cycles line counter
worst_pays budget cycles line None own worst rest own_is worst_is rest_is = rw (own_is, rest_is, worst_is) (greatest_pays budget cycles line)
worst_pays budget cycles line (Some value) own worst rest own_is worst_is rest_is = rw (own_is, rest_is, worst_is) refl
