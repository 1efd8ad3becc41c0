-- A test of the numbers below a bound, computed, says of each one what it tests.
use Rattle.std.proofs.Common.{◌≡◌, ◌<◌, ℕ, zero, suc, Bool, true, false, ◌⊎◌, inl, inr, arith, refl, subst, sym}
use Rattle.std.proofs.Math.Bool.{◌&&◌}

abbrev pub passes_below : (ℕ → Bool) → ℕ → Bool
passes_below p zero = true
passes_below p (suc n) = p n && passes_below p n

left : (a b : Bool) → (a && b) ≡ true → a ≡ true
left true b h = refl
left false b h = h

right : (a b : Bool) → (a && b) ≡ true → b ≡ true
right true b h = h
right false b h = cc

last_or_below : (b n : ℕ) → b < suc n → (b ≡ n) ⊎ (b < n)
last_or_below b n h = grind arith

pub at-passes_below : (p : ℕ → Bool) (n : ℕ) → passes_below p n ≡ true → (b : ℕ) → b < n → p b ≡ true
at-passes_below p zero h b lt = absurd (omega arith)
at-passes_below p (suc n) h b lt =
    elim (last_or_below b n lt) [
      | inl e ↦ subst (λ k. p k ≡ true) (sym e) (left (p n) (passes_below p n) h)
      | inr l ↦ at-passes_below p n (right (p n) (passes_below p n) h) b l
    ]
