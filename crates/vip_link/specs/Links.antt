-- A link as its callers see it, and what its calls answer.
use Rattle.std.specs.Prelude.{◌≡◌, ℕ, ◌<◌, ◌≤◌, List, length, Result, Ok, Err}
use Rattle.machine.specs.Board.{Machine}
use Rattle.vip_link.specs.declared.side.Side.{Side}
use Rattle.vip_link.specs.declared.side.Side.TheVariants.{A, B}
use Rattle.vip_link.specs.Pair.{Pair}
use Rattle.vip_link.specs.Laws.{most_bytes, start}
use Rattle.vip_link.specs.declared.fault.LinkFault.{LinkFault}
use Rattle.vip_link.specs.declared.fault.LinkFault.TheVariants.{MessageTooLarge, NoMemory}

-- the two machines with their wires and what was sent and received, the message, and how many moves were made
pub record Linking : Type 0 where
  pub pair : Pair
  pub message : List ℕ
  pub moves : ℕ

-- before the first move
abbrev pub started : List ℕ → Linking
started message = record { pair = start message; message = message; moves = 0 }

-- a message is too large exactly where it is longer than 3,000 bytes
abbrev pub Starts : List ℕ → Result Linking LinkFault → Type 0
Starts message (Ok l) = (length message ≤ most_bytes) × (l ≡ started message)
Starts message (Err (MessageTooLarge n)) = (most_bytes < length message) × (n ≡ length message)
Starts message (Err NoMemory) = length message ≤ most_bytes

-- the machine of a side
abbrev pub machine_of : Side → Pair → Machine
machine_of A s = s.a
machine_of B s = s.b
