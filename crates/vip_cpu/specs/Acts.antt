-- What an instruction's effect makes of a bus, by the relations that the bus means: each of them relates the bus before a call, the
-- address or the port, the byte, and the bus after the call.
use Rattle.std.specs.Prelude.{◌≡◌, ℕ, Option, Some, None}
use Rattle.machine.specs.Instruction.{Effect, Port}
use Rattle.machine.specs.Instruction.Port.{Send, Receive}

module _ {X : Type 0} (writes sends receives : X → ℕ → ℕ → X → Type 0) where
  -- The calls of one instruction: at most one at a port, and then at most one write. `taken` is the byte that the bus takes from a
  -- port: the one that an INP answers, and 0 with no INP.
  abbrev pub Calls : Option Port → Option (ℕ × ℕ) → ℕ → X → X → Type 0
  Calls None None taken old new = (taken ≡ 0) × (new ≡ old)
  Calls None (Some w) taken old new = (taken ≡ 0) × writes old w.0 w.1 new
  Calls (Some (Send port byte)) None taken old new = (taken ≡ 0) × sends old port byte new
  Calls (Some (Send port byte)) (Some w) taken old new =
      (taken ≡ 0) × ((mid : X) × sends old port byte mid × writes mid w.0 w.1 new)
  Calls (Some (Receive port)) None taken old new = receives old port taken new
  Calls (Some (Receive port)) (Some w) taken old new = (mid : X) × receives old port taken mid × writes mid w.0 w.1 new

  abbrev pub Acts : Effect → ℕ → X → X → Type 0
  Acts e taken old new = Calls e.port e.write taken old new
