-- Counts of frames, by arithmetic.
use Rattle.std.proofs.Common.{◌≡◌, ℕ, zero, suc, ◌+◌, ◌-◌, ◌*◌, ◌/◌, ◌<◌, ◌≤◌, ◌⊎◌, inl, inr, refl, ◌∙◌, arith, Bool, true, false, cond, List, ◌∷◌, length, filter}
use Rattle.std.specs.Prelude.{nat_le}
use Rattle.std.specs.List.{range_with_len}
use Rattle.std.proofs.lemmas.Bool.Decides.{nat_tests}
use Rattle.machine.specs.Pictures.{window_end, windows_ended}

-- The numbers that pass a test are those from `low` up to, and without, `high`.
module _ (p : ℕ → Bool) (low high : ℕ) (passes : (m : ℕ) → p m ≡ true → (low ≤ m) × (m < high)) (fails : (m : ℕ) → p m ≡ false → (m < low) ⊎ (high ≤ m)) where
  -- how many of n numbers from k on do, where they go as far as `high`
  pub count_from : (n k : ℕ) → high ≤ k + n → length (filter p (range_with_len k n)) ≡ high - low - (k - low)
  count_from zero k all = omega (arith, all)
  count_from (suc n) k all = by_test (p k) refl (count_from n (k + 1) (omega (arith, all)))
    where
      by_test :
          (pass : Bool) → p k ≡ pass → length (filter p (range_with_len (k + 1) n)) ≡ high - low - (k + 1 - low)
          → length (cond pass (k ∷ filter p (range_with_len (k + 1) n)) (filter p (range_with_len (k + 1) n))) ≡ high - low - (k - low)
      by_test true h rest = omega (arith, rest, passes k h)
      by_test false h rest = go (fails k h)
        where
          go : (k < low) ⊎ (high ≤ k) → length (filter p (range_with_len (k + 1) n)) ≡ high - low - (k - low)
          go (inl l) = omega (arith, rest, l)
          go (inr l) = omega (arith, rest, l)

-- how many windows have ended by a cycle
pub windows : (t : ℕ) → windows_ended t ≡ (t + 756) / 3668
unfolding windows_ended
windows t = count_from (λ m. nat_le (window_end m) t) 0 ((t + 756) / 3668) passes fails t 0 (omega arith) ∙ omega arith
  where
    passes : (m : ℕ) → nat_le (window_end m) t ≡ true → (0 ≤ m) × (m < (t + 756) / 3668)
    passes m h =
        let ended : window_end m ≤ t = grind (arith, nat_tests, h) in
        (omega arith, omega (arith, ended))

    fails : (m : ℕ) → nat_le (window_end m) t ≡ false → (m < 0) ⊎ ((t + 756) / 3668 ≤ m)
    fails m h =
        let open_yet : t < window_end m = grind (arith, nat_tests, h) in
        inr (omega (arith, open_yet))
