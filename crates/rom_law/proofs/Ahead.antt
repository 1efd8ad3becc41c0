-- A run goes on: its states one after the other, their cycles, and its last one.
use Rattle.std.proofs.Common.{◌≡◌, ℕ, zero, suc, ◌+◌, ◌≤◌, ◌⊎◌, inl, inr, nat_le, refl, sym, ◌∙◌, ap, subst, arith, le_refl, Bool, true, false, cond, List, [], ◌∷◌, filter}
use Rattle.std.specs.List.{list_all}
use Rattle.std.proofs.lemmas.Bool.{and_from, and_parts, cases_eq}
use Rattle.machine.specs.Board.{Machine, move}
use Rattle.machine.specs.Keys.{Keys}
use Rattle.machine.specs.Run.{states, run_to, after_moves}
use Rattle.machine.proofs.Runs.{later-move}

module _ (rom : List ℕ) (held : ℕ → Keys) where
  -- ---- moves

  pub behind_move : (n : ℕ) (b : Machine) → after_moves rom held (move rom held b) n ≡ after_moves rom held b (suc n)
  behind_move zero b = refl
  behind_move (suc n) b = ap (move rom held) (behind_move n b)

  pub behind_moves : (k m : ℕ) (b : Machine) → after_moves rom held b (m + k) ≡ after_moves rom held (after_moves rom held b m) k
  behind_moves zero m b = ap (after_moves rom held b) same
    where
      same : m + 0 ≡ m
      same = omega arith
  behind_moves (suc k) m b = ap (after_moves rom held b) more ∙ ap (move rom held) (behind_moves k m b)
    where
      more : m + suc k ≡ suc (m + k)
      more = omega arith

  -- a later state has no earlier cycle
  pub later_cycle : (b : Machine) (k m : ℕ) → k ≤ m → (after_moves rom held b k).cycle ≤ (after_moves rom held b m).cycle
  later_cycle b k zero l = subst (λ j. (after_moves rom held b j).cycle ≤ b.cycle) (sym none) (le_refl b.cycle)
    where
      none : k ≡ 0
      none = omega (arith, l)
  later_cycle b k (suc m) l = go (cases_eq k (suc m)) (λ d. later_cycle b k m d)
    where
      go : (k ≡ suc m) ⊎ (k ≡ suc m → ⊥) → (k ≤ m → (after_moves rom held b k).cycle ≤ (after_moves rom held b m).cycle)
          → (after_moves rom held b k).cycle ≤ (after_moves rom held b (suc m)).cycle
      go (inl e) f =
          subst (λ j. (after_moves rom held b j).cycle ≤ (after_moves rom held b (suc m)).cycle) (sym e)
          (le_refl (after_moves rom held b (suc m)).cycle)
      go (inr d) f = omega (arith, f (omega (arith, l, d)), later-move rom held (after_moves rom held b m))

  -- ---- a test of all states

  module _ (p : Machine → Bool) where
    all_states : (n : ℕ) (b : Machine) → ((j : ℕ) → p (after_moves rom held b j) ≡ true) → list_all p (states rom held b n) ≡ true
    all_states zero b h = refl
    all_states (suc n) b h = and_from _ _ (h 0) (all_states n (move rom held b) (λ j. ap p (behind_move j b) ∙ h (suc j)))

    all_within : (q : Machine → Bool) (l : List Machine) → list_all p l ≡ true → list_all p (filter q l) ≡ true
    all_within q [] h = h
    all_within q (s ∷ l) h = go (q s) (all_within q l (and_parts (p s) (list_all p l) h).1)
      where
        go : (t : Bool) → list_all p (filter q l) ≡ true → list_all p (cond t (s ∷ filter q l) (filter q l)) ≡ true
        go true e = and_from _ _ (and_parts (p s) (list_all p l) h).0 e
        go false e = e

    pub all_in_run : (limit : ℕ) (b : Machine) → ((j : ℕ) → p (after_moves rom held b j) ≡ true) → list_all p (run_to rom held b limit) ≡ true
    unfolding run_to
    all_in_run limit b h = all_within (λ s. nat_le s.cycle limit) (states rom held b (limit + 1)) (all_states (limit + 1) b h)
