-- A run of a board up to an end of its own.
use Rattle.std.specs.Prelude.{◌≡◌, ◌⊎◌, ℕ, ◌+◌, ◌-◌, ◌<◌, ◌≤◌, if◌then◌else◌, Bool, true, false, List, [], ◌∷◌, length}
use Rattle.std.specs.List.{range_with_len}
use Rattle.machine.specs.Board.{Machine, length_of}
use Rattle.machine.specs.Keys.{Event, held_at}
use Rattle.machine.specs.Run.{after_moves, run_to}
use Rattle.machine.specs.Instruction.{Regs}
use Rattle.vip_memory.specs.Contents.{Contents}
use Rattle.vip_board.specs.Moves.{moved_by, StartsInstruction}
use Rattle.vip_board.specs.Seen.{Seen, contents_of}

-- the ROM and the key script, the machine before the first move, and the states at which the run ends
pub record Run : Type 0 where
  pub rom : List ℕ
  pub script : List Event
  pub first : Machine
  pub ends : Machine → Bool

-- the run of a board from its present state on
abbrev pub run_from : (Machine → Bool) → Seen → Run
run_from ends s = record { rom = s.rom; script = s.script; first = s.machine; ends = ends }

-- the state after so many moves
abbrev pub state_of : Run → ℕ → Machine
state_of r n = after_moves r.rom (held_at r.script) r.first n

-- states up to the first at which the run ends
unfoldable pub up_to_end : (Machine → Bool) → List Machine → List Machine
up_to_end ends [] = []
up_to_end ends (b ∷ bs) = if ends b then b ∷ [] else b ∷ up_to_end ends bs

-- how many moves are made up to a cycle: none behind the end, nor up to a cycle in the past
unfoldable pub moves_until : Run → ℕ → ℕ
moves_until r cycle = length (up_to_end r.ends (run_to r.rom (held_at r.script) r.first cycle)) - 1

-- the numbers of moves after which the board is at the states behind the first, up to a cycle
unfoldable pub ahead : Run → ℕ → List ℕ
ahead r cycle = range_with_len 1 (moves_until r cycle)

-- there is no move to be made: the run ends here, or the move would end after the limit
abbrev pub Rests : (Machine → Bool) → ℕ → Seen → Type 0
Rests ends limit s = (ends s.machine ≡ true) ⊎ (limit < s.machine.cycle + length_of s.rom s.machine)

-- A board made so many moves, the last of which ends at or before the limit. Behind none of the others the run ends, and no instruction comes next
-- that is a stop: which are, the registers and memory say.
pub record Makes (Stands : Regs → Contents → Type 0) (ends : Machine → Bool) (limit : ℕ) (s v : Seen) (n : ℕ) : Type 0 where
  pub moved : v ≡ moved_by n s
  pub goes_on : (k : ℕ) → 0 < k → k < n → ends (moved_by k s).machine ≡ false
  pub apart :
      (k : ℕ) → 0 < k → k < n → let u = moved_by k s in StartsInstruction u.machine → Stands u.machine.regs (contents_of u) → ⊥
  pub within : v.machine.cycle ≤ limit
