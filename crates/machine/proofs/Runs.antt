-- The run of a board, state by state.
use Rattle.std.proofs.Common.{◌≡◌, ℕ, zero, suc, ◌+◌, ◌<◌, ◌≤◌, List, [], ◌∷◌, filter, nat_le, add-one, refl, sym, ap, ◌∙◌, arith, Bool, true, false, cond}
use Rattle.std.proofs.lemmas.Bool.{le-leb, lt-leb}
use Rattle.machine.specs.Opcodes.{cycles_of}
use Rattle.machine.specs.Board.{Machine, Case, case_of, move, moved_in, length_in, length_of}
use Rattle.machine.specs.Board.Case.{Dma, Interrupt, Idle, Instruction}
use Rattle.machine.specs.Keys.{Keys}
use Rattle.machine.specs.Run.{states, run_to, after_moves}

module _ (rom : List ℕ) (held : ℕ → Keys) where
  cycle_in : (k : Case) (b : Machine) → (moved_in k rom held b).cycle ≡ b.cycle + length_in k rom b
  cycle_in Dma b = refl
  cycle_in Interrupt b = refl
  cycle_in Idle b = refl
  cycle_in Instruction b = refl

  -- a move ends as many cycles later as it is long
  pub cycle-move : (b : Machine) → (move rom held b).cycle ≡ b.cycle + length_of rom b
  cycle-move b = cycle_in (case_of b) b

  some_cycles : (byte : ℕ) → 1 ≤ cycles_of byte
  some_cycles byte = grind arith

  length_some : (k : Case) (b : Machine) → 1 ≤ length_in k rom b
  length_some Instruction b = some_cycles _
  length_some _ b = omega arith

  -- and that is one at least
  pub later-move : (b : Machine) → b.cycle < (move rom held b).cycle
  later-move b = omega (arith, cycle-move b, length_some (case_of b) b)

  abbrev within : ℕ → List Machine → List Machine
  within limit = filter (λ s. nat_le s.cycle limit)

  -- from a state past the limit on there is none within it
  none_within : (limit n : ℕ) (b : Machine) → limit < b.cycle → within limit (states rom held b n) ≡ []
  none_within limit zero b past = refl
  none_within limit (suc n) b past =
      rw (lt-leb b.cycle limit past)
      (none_within limit n (move rom held b) (omega (arith, later-move b)))

  -- one more state changes nothing where the first n pass the limit
  enough : (limit n : ℕ) (b : Machine) → limit < b.cycle + n → within limit (states rom held b (suc n)) ≡ within limit (states rom held b n)
  enough limit zero b past = none_within limit 1 b (omega arith)
  enough limit (suc n) b past =
      ap (λ tail. cond (nat_le b.cycle limit) (b ∷ tail) tail)
      (enough limit n (move rom held b) (omega (arith, later-move b)))

  -- a run is its first state, and then the run from the next one on
  pub run_to-next : (limit : ℕ) (b : Machine) → b.cycle ≤ limit → run_to rom held b limit ≡ b ∷ run_to rom held (move rom held b) limit
  unfolding run_to
  run_to-next limit b here =
      rw (add-one, le-leb b.cycle limit here)
      (ap (λ tail. b ∷ tail) (sym (enough limit limit (move rom held b) (omega (arith, later-move b)))))

  -- past the limit there is none
  pub run_to-past : (limit : ℕ) (b : Machine) → limit < b.cycle → run_to rom held b limit ≡ []
  unfolding run_to
  run_to-past limit b past = none_within limit (limit + 1) b past
