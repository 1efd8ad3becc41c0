-- A run state by state from its start, and which states don't matter to a frame that has passed.
use Rattle.std.proofs.Common.{◌≡◌, ℕ, zero, suc, ◌+◌, ◌*◌, ◌/◌, ◌<◌, ◌≤◌, Bool, true, false, cond, List, [], ◌∷◌, ◌++◌, length, filter, map, refl, sym, ap, ◌∙◌, subst, arith, append-nil}
use Rattle.std.specs.Prelude.{nat_le, nat_lt, ◌==◌, ◌&&◌, ◌||◌, not}
use Rattle.std.specs.List.{list_all}
use Rattle.std.proofs.Common.{◌⊎◌, inl, inr}
use Rattle.std.proofs.lemmas.Bool.{cases_lt, leb-true, leb-false, le-ltb, ne_eqb}
use Rattle.std.proofs.lemmas.List.Elements.{filter-append}
use Rattle.std.proofs.lemmas.List.Folds.{list_all-append}
use Rattle.machine.specs.Opcodes.{cycles_of}
use Rattle.machine.specs.Board.{Machine, Case, case_of, move, length_in, length_of, dma_byte}
use Rattle.machine.specs.Board.Case.{Instruction}
use Rattle.machine.specs.Keys.{Keys}
use Rattle.machine.specs.Run.{states, run_to, after_moves}
use Rattle.machine.specs.Pictures.{interrupt_at, window_end, is_dma, is_dma_in, filled, line_bytes, lines_from, picture_of, is_within, is_shown}
use Rattle.machine.proofs.Runs.{cycle-move, later-move, run_to-next, run_to-past}

-- ---- the states of a run

module _ (rom : List ℕ) (held : ℕ → Keys) where
  -- one move more, counted from either end
  pub move-first : (n : ℕ) (b : Machine) → after_moves rom held (move rom held b) n ≡ move rom held (after_moves rom held b n)
  move-first zero b = refl
  move-first (suc n) b = ap (move rom held) (move-first n b)

  pub states-more : (n : ℕ) (b : Machine) → states rom held b (suc n) ≡ states rom held b n ++ after_moves rom held b n ∷ []
  states-more zero b = refl
  states-more (suc n) b =
      ap (λ tail. b ∷ tail)
      (states-more n (move rom held b) ∙ ap (λ c. states rom held (move rom held b) n ++ c ∷ []) (move-first n b))

  pub length-states : (n : ℕ) (b : Machine) → length (states rom held b n) ≡ n
  length-states zero b = refl
  length-states (suc n) b = ap suc (length-states n (move rom held b))

  -- each move takes a cycle at least
  pub cycles-some : (n : ℕ) (b : Machine) → b.cycle + n ≤ (after_moves rom held b n).cycle
  cycles-some zero b = omega arith
  cycles-some (suc n) b = omega (arith, cycles-some n b, later-move rom held (after_moves rom held b n))

  -- so states come in the order of their cycles
  pub in-turn : (n k : ℕ) (b : Machine) → k ≤ n → (after_moves rom held b k).cycle ≤ (after_moves rom held b n).cycle
  in-turn zero k b order = let same : k ≡ 0 = omega (arith, order) in rw same (omega arith)
  in-turn (suc n) k b order = by_test (in-turn n k b) (cases_lt n k)
    where
      by_test : (k ≤ n → (after_moves rom held b k).cycle ≤ (after_moves rom held b n).cycle) → (n < k) ⊎ (k ≤ n)
          → (after_moves rom held b k).cycle ≤ (after_moves rom held b (suc n)).cycle
      by_test earlier (inl l) = let same : k ≡ suc n = omega (arith, l, order) in rw same (omega arith)
      by_test earlier (inr l) = omega (arith, earlier l, later-move rom held (after_moves rom held b n))

  few_cycles : (byte : ℕ) → cycles_of byte ≤ 3
  few_cycles byte = grind arith

  few : (k : Case) (b : Machine) → length_in k rom b ≤ 3
  few Instruction b = few_cycles _
  few _ b = omega arith

  -- and three at most
  pub soon-move : (b : Machine) → (move rom held b).cycle ≤ b.cycle + 3
  soon-move b = omega (arith, cycle-move rom held b, few (case_of b) b)

  -- a run is the states before one within the limit, and the run from that one on
  pub run-split : (limit n : ℕ) (b : Machine) → (after_moves rom held b n).cycle ≤ limit
      → run_to rom held b limit ≡ states rom held b n ++ run_to rom held (after_moves rom held b n) limit
  run-split limit zero b within = refl
  run-split limit (suc n) b within =
      let first : b.cycle ≤ limit = omega (arith, cycles-some (suc n) b) in
      run_to-next rom held limit b first
      ∙ ap (λ tail. b ∷ tail)
      (run-split limit n (move rom held b) (subst (λ (c : Machine). c.cycle ≤ limit) (sym (move-first n b)) within)
      ∙ ap (λ c. states rom held (move rom held b) n ++ run_to rom held c limit) (move-first n b))

  -- up to a limit before the next state there are no others
  pub run-last : (limit n : ℕ) (b : Machine) → (after_moves rom held b n).cycle ≤ limit → limit < (after_moves rom held b (suc n)).cycle
      → run_to rom held b limit ≡ states rom held b (suc n)
  run-last limit n b within past =
      run-split limit n b within
      ∙ ap (λ tail. states rom held b n ++ tail)
      (run_to-next rom held limit (after_moves rom held b n) within
      ∙ ap (λ tail. after_moves rom held b n ∷ tail) (run_to-past rom held limit (after_moves rom held b (suc n)) past))
      ∙ sym (states-more n b)

  -- a run up to before the n-th state has at most n states
  pub run-short : (limit n : ℕ) (b : Machine) → limit < (after_moves rom held b n).cycle → length (run_to rom held b limit) ≤ n
  run-short limit zero b past = rw (run_to-past rom held limit b past) (omega arith)
  run-short limit (suc n) b past = by_test (run-short limit n b) (nat_le (after_moves rom held b n).cycle limit) refl
    where
      by_test : (limit < (after_moves rom held b n).cycle → length (run_to rom held b limit) ≤ n) → (t : Bool)
          → nat_le (after_moves rom held b n).cycle limit ≡ t → length (run_to rom held b limit) ≤ suc n
      by_test shorter true h =
          let within : (after_moves rom held b n).cycle ≤ limit = leb-true (after_moves rom held b n).cycle limit h in
          rw (run-last limit n b within past, length-states (suc n) b) (omega arith)
      by_test shorter false h =
          let before : limit < (after_moves rom held b n).cycle = leb-false (after_moves rom held b n).cycle limit h in
          omega (arith, shorter before)

-- ---- states from a cycle on

pub Later : ℕ → List Machine → Type 0
Later t [] = Unit {0}
Later t (b ∷ bs) = (t ≤ b.cycle) × Later t bs

pub later-states : (rom : List ℕ) (held : ℕ → Keys) (t n : ℕ) (b : Machine) → t ≤ b.cycle → Later t (states rom held b n)
unfolding Later
later-states rom held t zero b from = tt
later-states rom held t (suc n) b from = (from, later-states rom held t n (move rom held b) (omega (arith, from, later-move rom held b)))

later-filter : (p : Machine → Bool) (t : ℕ) (bs : List Machine) → Later t bs → Later t (filter p bs)
unfolding Later
later-filter p t [] h = tt
later-filter p t (b ∷ bs) h = by_test (p b) (later-filter p t bs h.1)
  where
    by_test : (keep : Bool) → Later t (filter p bs) → Later t (cond keep (b ∷ filter p bs) (filter p bs))
    by_test true tail = (h.0, tail)
    by_test false tail = tail

pub later-run : (rom : List ℕ) (held : ℕ → Keys) (limit : ℕ) (b : Machine) → Later b.cycle (run_to rom held b limit)
unfolding run_to
later-run rom held limit b =
    later-filter (λ s. nat_le s.cycle limit) b.cycle (states rom held b (limit + 1)) (later-states rom held b.cycle (limit + 1) b (omega arith))

pub later-one : (b : Machine) → Later b.cycle (b ∷ [])
unfolding Later
later-one b = (omega arith, tt)

-- ---- they don't matter to a frame whose window has ended

module _ (rom : List ℕ) (t : ℕ) where
  outside : (run : List Machine) (m : ℕ) (b : Machine) → window_end m ≤ t → t ≤ b.cycle → is_within rom run m b ≡ false
  outside run m b ended from =
      ap (λ first. first && nat_lt (interrupt_at m) (b.cycle + length_of rom b)) (past (window_end m) b.cycle (omega (arith, ended, from)))
    where
      past : (x y : ℕ) → x ≤ y → nat_lt y x ≡ false
      past x y h = le-ltb y x h

  or_true : (x : Bool) → (x || true) ≡ true
  or_true true = refl
  or_true false = refl

  all_on : (run : List Machine) (m : ℕ) (ys : List Machine) → window_end m ≤ t → Later t ys → list_all (λ b. b.on || not (is_within rom run m b)) ys ≡ true
  unfolding Later
  all_on run m [] ended later = refl
  all_on run m (b ∷ ys) ended later =
      ap (λ w. (b.on || not w) && list_all (λ b. b.on || not (is_within rom run m b)) ys) (outside run m b ended later.0)
      ∙ ap (λ x. x && list_all (λ b. b.on || not (is_within rom run m b)) ys) (or_true b.on)
      ∙ all_on run m ys ended later.1

  and_true : (x : Bool) → (x && true) ≡ x
  and_true true = refl
  and_true false = refl

  pub shown-later : (m : ℕ) (xs ys : List Machine) → window_end m ≤ t → Later t ys → is_shown rom (xs ++ ys) m ≡ is_shown rom xs m
  unfolding is_shown
  shown-later m xs ys ended later =
      list_all-append (λ b. b.on || not (is_within rom xs m b)) xs ys
      ∙ ap (λ x. list_all (λ b. b.on || not (is_within rom xs m b)) xs && x) (all_on xs m ys ended later)
      ∙ and_true (list_all (λ b. b.on || not (is_within rom xs m b)) xs)

  none_of : (line : ℕ) (ys : List Machine) → 14 * (line + 1) ≤ t → Later t ys → filter (is_dma_in line) ys ≡ []
  unfolding Later
  none_of line [] ended later = refl
  none_of line (b ∷ ys) ended later =
      ap (λ keep. cond keep (b ∷ filter (is_dma_in line) ys) (filter (is_dma_in line) ys))
      (elsewhere (is_dma (case_of b)) (b.cycle / 14) line (omega (arith, ended, later.0)))
      ∙ none_of line ys ended later.1
    where
      elsewhere : (dma : Bool) (x line : ℕ) → line < x → (dma && x == line) ≡ false
      elsewhere true x line h = ne_eqb x line (λ e. omega (arith, e, h))
      elsewhere false x line h = refl

  line-later : (line : ℕ) (xs ys : List Machine) → 14 * (line + 1) ≤ t → Later t ys → line_bytes rom (xs ++ ys) line ≡ line_bytes rom xs line
  line-later line xs ys ended later =
      ap (λ bs. filled (map (dma_byte rom) bs))
      (filter-append (is_dma_in line) xs ys
      ∙ ap (λ others. filter (is_dma_in line) xs ++ others) (none_of line ys ended later)
      ∙ append-nil (filter (is_dma_in line) xs))

  lines-later : (n line : ℕ) (xs ys : List Machine) → 14 * (line + n) ≤ t → Later t ys → lines_from rom (xs ++ ys) line n ≡ lines_from rom xs line n
  lines-later zero line xs ys ended later = refl
  lines-later (suc n) line xs ys ended later =
      ap (λ first. first ∷ lines_from rom (xs ++ ys) (line + 1) n) (line-later line xs ys (omega (arith, ended)) later)
      ∙ ap (λ others. line_bytes rom xs line ∷ others) (lines-later n (line + 1) xs ys (omega (arith, ended)) later)

  pub picture-later : (m : ℕ) (xs ys : List Machine) → window_end m ≤ t → Later t ys → picture_of rom (xs ++ ys) m ≡ picture_of rom xs m
  unfolding picture_of
  picture-later m xs ys ended later = lines-later 128 (262 * m + 80) xs ys (omega (arith, ended)) later
