-- Moves that share a line, and those behind them.
use Rattle.std.proofs.Common.{◌≡◌, ℕ, zero, suc, ◌+◌, ◌<◌, List, [], ◌∷◌, ◌++◌, Bool, true, false, cond, refl, sym, ap, ◌∙◌, subst, arith}
use Rattle.machine.specs.Board.{Machine, move}
use Rattle.machine.specs.Keys.{Keys}
use Rattle.machine.specs.Run.{states, after_moves}
use Rattle.vip_board.proofs.Along.{move-first}
use Rattle.vip_program.specs.Trace.{share, put_before, stretches}

-- a move doesn't share a line with the first of these
unfoldable pub Apart : Machine → List Machine → Type 0
Apart b [] = Unit {0}
Apart b (c ∷ cs) = share b c ≡ false

-- the first stretch begins with the first move
record Begins (c : Machine) (all : List (List Machine)) : Type 0 where
  pub more : List Machine
  pub others : List (List Machine)
  pub is : all ≡ (c ∷ more) ∷ others

begins : (c : Machine) (all : List (List Machine)) → Begins c (put_before c all)
begins c [] = record { more = []; others = []; is = refl }
begins c ([] ∷ others) = record { more = []; others = others; is = refl }
begins c ((d ∷ ds) ∷ others) = by_test (share c d)
  where
    by_test : (t : Bool) → Begins c (cond t ((c ∷ d ∷ ds) ∷ others) ((c ∷ []) ∷ (d ∷ ds) ∷ others))
    by_test true = record { more = d ∷ ds; others = others; is = refl }
    by_test false = record { more = []; others = (d ∷ ds) ∷ others; is = refl }

alone : (b : Machine) (moves : List Machine) → Apart b moves → put_before b (stretches moves) ≡ (b ∷ []) ∷ stretches moves
unfolding stretches Apart
alone b [] apart = refl
alone b (c ∷ cs) apart = let first = begins c (stretches cs) in rw (first.is, apart) refl

module _ (rom : List ℕ) (held : ℕ → Keys) where
  pub states-append : (n m : ℕ) (b : Machine) → states rom held b (n + m) ≡ states rom held b n ++ states rom held (after_moves rom held b n) m
  states-append zero m b = let none : 0 + m ≡ m = omega arith in ap (states rom held b) none
  states-append (suc n) m b =
      let more : suc n + m ≡ suc (n + m) = omega arith in
      ap (states rom held b) more
      ∙ ap (λ tail. b ∷ tail)
      (states-append n m (move rom held b) ∙ ap (λ c. states rom held (move rom held b) n ++ states rom held c m) (move-first rom held n b))

  -- those that share a line are one stretch
  pub stretch : (n : ℕ) (b : Machine) (moves : List Machine)
      → ((k : ℕ) → k < n → share (after_moves rom held b k) (after_moves rom held b (suc k)) ≡ true) → Apart (after_moves rom held b n) moves
      → stretches (states rom held b (suc n) ++ moves) ≡ states rom held b (suc n) ∷ stretches moves
  unfolding stretches
  stretch zero b moves shared apart = alone b moves apart
  stretch (suc n) b moves shared apart =
      rw (stretch n (move rom held b) moves later (subst (λ c. Apart c moves) (sym (move-first rom held n b)) apart), shared 0 (omega arith)) refl
    where
      later : (k : ℕ) → k < n → share (after_moves rom held (move rom held b) k) (after_moves rom held (move rom held b) (suc k)) ≡ true
      later k l = rw (move-first rom held k b) (shared (suc k) (omega (arith, l)))
