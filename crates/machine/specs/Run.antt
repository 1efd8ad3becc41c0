-- The run of a board from a state on.
use Rattle.std.specs.Prelude.{ℕ, zero, suc, ◌+◌, nat_le, List, [], ◌∷◌, filter}
use Rattle.machine.specs.Board.{Machine, move}
use Rattle.machine.specs.Keys.{Keys}

-- the state after so many moves
abbrev pub after_moves : List ℕ → (ℕ → Keys) → Machine → ℕ → Machine
after_moves rom held b zero = b
after_moves rom held b (suc n) = move rom held (after_moves rom held b n)

-- the state itself and those that follow it, so many in all
abbrev pub states : List ℕ → (ℕ → Keys) → Machine → ℕ → List Machine
states rom held b zero = []
states rom held b (suc n) = b ∷ states rom held (move rom held b) n

-- The run up to cycle `limit`: all states from this one on whose cycle number is at most the limit. Each move takes a cycle at
-- least, so they are among the first limit + 1.
unfoldable pub run_to : List ℕ → (ℕ → Keys) → Machine → ℕ → List Machine
run_to rom held b limit = filter (λ s. nat_le s.cycle limit) (states rom held b (limit + 1))
