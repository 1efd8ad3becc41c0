-- A machine on wires that nobody fills.
use Rattle.std.specs.Prelude.{◌≡◌, ℕ, zero, suc, ◌<◌, List, None}
use Rattle.machine.specs.Board.{Machine}
use Rattle.machine.specs.Keys.{Keys}
use Rattle.machine.specs.Run.{after_moves}
use Rattle.vip_board.specs.Linked.{Joined, joined, linked_move}

-- after so many linked moves of one machine, where nobody else is at its wires
abbrev pub after_linked : List ℕ → (ℕ → Keys) → Joined → ℕ → Joined
after_linked rom held j zero = j
after_linked rom held j (suc n) = linked_move rom held (after_linked rom held j n)

-- both wires are empty
abbrev pub AreEmpty : Joined → Type 0
AreEmpty j = (j.incoming ≡ None) × (j.outgoing ≡ None)

-- Where both wires are empty before each of its first n linked moves, the machine comes to where it comes in n moves alone.
abbrev pub AsAlone : Type 0
AsAlone =
    (rom : List ℕ) (held : ℕ → Keys) (b : Machine) (n : ℕ) → ((m : ℕ) → m < n → AreEmpty (after_linked rom held (joined b None None) m))
    → (after_linked rom held (joined b None None) n).machine ≡ after_moves rom held b n
