-- How many moves a run has, move by move; and the machines of a board that moves.
use Rattle.std.proofs.Common.{◌≡◌, ℕ, zero, suc, ◌+◌, ◌-◌, ◌<◌, ◌≤◌, List, [], ◌∷◌, length, Bool, true, false, cond, refl, sym, ap, ◌∙◌, arith}
use Rattle.std.specs.Prelude.{nat_le, ◌&&◌, not}
use Rattle.std.proofs.lemmas.Bool.Decides.{nat_tests}
use Rattle.machine.specs.Board.{Machine, move, length_of}
use Rattle.machine.specs.Keys.{Keys}
use Rattle.machine.specs.Run.{run_to, after_moves}
use Rattle.machine.proofs.Runs.{cycle-move, run_to-next, run_to-past}
use Rattle.vip_board.proofs.Along.{cycles-some, run-short}
use Rattle.vip_board.specs.Moves.{moved_by}
use Rattle.vip_board.specs.Seen.{Seen}
use Rattle.vip_program.specs.Moves.{goes_on, machine_after}
use Rattle.vip_program.specs.Trace.{sleeps, up_to_sleep, moves_to}

-- ---- a board that moves

module _ (s : Seen) where
  pub rom-by : (n : ℕ) → (moved_by n s).rom ≡ s.rom
  rom-by zero = refl
  rom-by (suc n) = rom-by n

  pub script-by : (n : ℕ) → (moved_by n s).script ≡ s.script
  script-by zero = refl
  script-by (suc n) = script-by n

  pub phase-by : (n : ℕ) → (moved_by n s).phase ≡ s.phase
  phase-by zero = refl
  phase-by (suc n) = phase-by n

  pub machine-by : (n : ℕ) → (moved_by n s).machine ≡ machine_after s n
  machine-by zero = refl
  machine-by (suc n) = rw (rom-by n, script-by n, machine-by n) refl

  pub moved-more : (n m : ℕ) → moved_by m (moved_by n s) ≡ moved_by (n + m) s
  moved-more n zero = let same : n ≡ n + 0 = omega arith in ap (λ k. moved_by k s) same
  moved-more n (suc m) = let more : n + suc m ≡ suc (n + m) = omega arith in rw (more, moved-more n m) refl

-- ---- how many moves

last_counts : (b : Machine) (bs : List Machine) → length (up_to_sleep (b ∷ bs)) ≡ suc (length (up_to_sleep (b ∷ bs)) - 1)
unfolding up_to_sleep
last_counts b bs = by_test (sleeps b)
  where
    by_test : (t : Bool) → length (cond t (b ∷ []) (b ∷ up_to_sleep bs)) ≡ suc (length (cond t (b ∷ []) (b ∷ up_to_sleep bs)) - 1)
    by_test true = refl
    by_test false = omega arith

awake_tail : (b : Machine) (bs : List Machine) → sleeps b ≡ false → length (up_to_sleep (b ∷ bs)) - 1 ≡ length (up_to_sleep bs)
unfolding up_to_sleep
awake_tail b bs e = by_test (sleeps b) e
  where
    by_test : (t : Bool) → t ≡ false → length (cond t (b ∷ []) (b ∷ up_to_sleep bs)) - 1 ≡ length (up_to_sleep bs)
    by_test true h = cc
    by_test false h = omega arith

asleep_tail : (b : Machine) (bs : List Machine) → sleeps b ≡ true → length (up_to_sleep (b ∷ bs)) - 1 ≡ 0
unfolding up_to_sleep
asleep_tail b bs e = by_test (sleeps b) e
  where
    by_test : (t : Bool) → t ≡ true → length (cond t (b ∷ []) (b ∷ up_to_sleep bs)) - 1 ≡ 0
    by_test true h = refl
    by_test false h = cc

fewer : (bs : List Machine) → length (up_to_sleep bs) ≤ length bs
unfolding up_to_sleep
fewer [] = omega arith
fewer (b ∷ bs) = by_test (sleeps b) (fewer bs)
  where
    by_test : (t : Bool) → length (up_to_sleep bs) ≤ length bs → length (cond t (b ∷ []) (b ∷ up_to_sleep bs)) ≤ length (b ∷ bs)
    by_test true h = omega arith
    by_test false h = omega (arith, h)

-- a machine whose move is made doesn't sleep, and the move ends in time
pub awake : (s t : Bool) → (not s && t) ≡ true → s ≡ false
awake false t h = refl
awake true t h = sym h

pub ends-in-time : (s t : Bool) → (not s && t) ≡ true → t ≡ true
ends-in-time false t h = h
ends-in-time true true h = refl
ends-in-time true false h = h

module _ (rom : List ℕ) (held : ℕ → Keys) (limit : ℕ) where
  -- a move that is made ends within the limit
  pub move-within : (b : Machine) → goes_on limit rom b ≡ true → (move rom held b).cycle ≤ limit
  move-within b goes =
      let t : nat_le (b.cycle + length_of rom b) limit ≡ true = ends-in-time (sleeps b) _ goes in
      let e = cycle-move rom held b in
      grind (arith, nat_tests)

  pub moves-go : (b : Machine) → b.cycle ≤ limit → goes_on limit rom b ≡ true → moves_to rom held b limit ≡ suc (moves_to rom held (move rom held b) limit)
  unfolding moves_to
  moves-go b here goes =
      let on = run_to-next rom held limit (move rom held b) (move-within b goes) in
      ap (λ run. length (up_to_sleep run) - 1) (run_to-next rom held limit b here)
      ∙ awake_tail b (run_to rom held (move rom held b) limit) (awake (sleeps b) _ goes)
      ∙ ap (λ run. length (up_to_sleep run)) on
      ∙ last_counts (move rom held b) (run_to rom held (move rom held (move rom held b)) limit)
      ∙ sym (ap (λ run. suc (length (up_to_sleep run) - 1)) on)

  pub moves-rest : (b : Machine) → b.cycle ≤ limit → goes_on limit rom b ≡ false → moves_to rom held b limit ≡ 0
  unfolding moves_to
  moves-rest b here rests = ap (λ run. length (up_to_sleep run) - 1) (run_to-next rom held limit b here) ∙ by_test (sleeps b) refl rests
    where
      by_test : (s : Bool) → sleeps b ≡ s → (not s && nat_le (b.cycle + length_of rom b) limit) ≡ false
          → length (up_to_sleep (b ∷ run_to rom held (move rom held b) limit)) - 1 ≡ 0
      by_test true e h = asleep_tail b (run_to rom held (move rom held b) limit) e
      by_test false e h =
          let longer = cycle-move rom held b in
          let past : limit < (move rom held b).cycle = grind (arith, nat_tests) in
          awake_tail b (run_to rom held (move rom held b) limit) e ∙ ap (λ run. length (up_to_sleep run)) (run_to-past rom held limit (move rom held b) past)
          ∙ none
        where
          none : length (up_to_sleep []) ≡ 0
          none = unfold up_to_sleep in refl

  -- after moves that are made the machine is within the limit, and so many are left fewer
  pub within-many : (n : ℕ) (b : Machine) → b.cycle ≤ limit → ((k : ℕ) → k < n → goes_on limit rom (after_moves rom held b k) ≡ true)
      → (after_moves rom held b n).cycle ≤ limit
  within-many zero b here goes = here
  within-many (suc n) b here goes = move-within (after_moves rom held b n) (goes n (omega arith))

  pub moves-many : (n : ℕ) (b : Machine) → b.cycle ≤ limit → ((k : ℕ) → k < n → goes_on limit rom (after_moves rom held b k) ≡ true)
      → moves_to rom held b limit ≡ n + moves_to rom held (after_moves rom held b n) limit
  moves-many zero b here goes = omega arith
  moves-many (suc n) b here goes =
      let before : (k : ℕ) → k < n → goes_on limit rom (after_moves rom held b k) ≡ true = λ k l. goes k (omega (arith, l)) in
      let one = moves-go (after_moves rom held b n) (within-many n b here before) (goes n (omega arith)) in
      let many = moves-many n b here before in
      omega (arith, one, many)

  -- each takes a cycle
  pub moves-few : (b : Machine) → moves_to rom held b limit ≤ limit
  unfolding moves_to
  moves-few b =
      let past : limit < (after_moves rom held b (limit + 1)).cycle = omega (arith, cycles-some rom held (limit + 1) b) in
      let short = run-short rom held limit (limit + 1) b past in
      let less = fewer (run_to rom held b limit) in
      omega (arith, short, less)
