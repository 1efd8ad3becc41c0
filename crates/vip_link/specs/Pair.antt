-- Two machines, A and B, that are joined by two wires, and their run under a schedule. No key is held down.
use Rattle.std.specs.Prelude.{ℕ, zero, suc, List, [], ◌∷◌, ◌++◌, Option, Some, None}
use Rattle.machine.specs.Board.{Machine}
use Rattle.machine.specs.Keys.{Keys, held_at}
use Rattle.vip_link.specs.declared.side.Side.{Side}
use Rattle.vip_link.specs.declared.side.Side.TheVariants.{A, B}
use Rattle.vip_board.specs.Linked.{Joined, joined, linked_move}

-- both machines, the wire from A to B and the one from B to A, the bytes that entered the wire from A to B, and those that B took from it
pub record Pair : Type 0 where
  pub a : Machine
  pub b : Machine
  pub to_b : Option ℕ
  pub to_a : Option ℕ
  pub sent : List ℕ
  pub received : List ℕ

-- the byte that entered a wire, by the wire before and after, and the one that left it
abbrev pub entered : Option ℕ → Option ℕ → List ℕ
entered None (Some byte) = byte ∷ []
entered _ _ = []

abbrev pub left : Option ℕ → Option ℕ → List ℕ
left (Some byte) None = byte ∷ []
left _ _ = []

abbrev pub no_keys : ℕ → Keys
no_keys = held_at []

-- A, or B, with its ROM, made a linked move
abbrev pub after_a : Joined → Pair → Pair
after_a j s = record s { a = j.machine; to_b = j.outgoing; to_a = j.incoming; sent = s.sent ++ entered s.to_b j.outgoing }

abbrev pub after_b : Joined → Pair → Pair
after_b j s = record s { b = j.machine; to_b = j.incoming; to_a = j.outgoing; received = s.received ++ left s.to_b j.incoming }

module _ (rom_a rom_b : List ℕ) where
  abbrev pub stepped : Side → Pair → Pair
  stepped A s = after_a (linked_move rom_a no_keys (joined s.a s.to_a s.to_b)) s
  stepped B s = after_b (linked_move rom_b no_keys (joined s.b s.to_b s.to_a)) s

  -- each entry of a schedule makes one linked move of that machine
  abbrev pub scheduled : List Side → Pair → Pair
  scheduled [] s = s
  scheduled (side ∷ schedule) s = scheduled schedule (stepped side s)

-- so many pairs A, B
abbrev pub pairs : ℕ → List Side
pairs zero = []
pairs (suc n) = A ∷ B ∷ pairs n
