-- Where the commands come to that run a board, whatever runs on it. The run begins where the board stands.
use Rattle.std.specs.Prelude.{ℕ, ◌==◌, ◌||◌, Bool, true, false, min, nat_le, find, Option, Some, None}
use Rattle.machine.specs.Board.{Machine, Case, case_of, byte_of}
use Rattle.machine.specs.Board.Case.{Instruction}
use Rattle.machine.specs.Instruction.{at}
use Rattle.machine.specs.Memory.{mapped_address}
use Rattle.vip_words.specs.declared.debug_commands.Running.{Running}
use Rattle.vip_words.specs.declared.debug_commands.Running.TheVariants.{Step, To, At, Watch}
use Rattle.vip_debug.specs.TargetRun.{Run, state_of, moves_until, ahead}
use Rattle.vip_debug.specs.BoardShown.{has_changed}

-- how many moves a command makes, and whether it is completed
pub record Came : Type 0 where
  pub moves : ℕ
  pub completed : Bool

-- so many moves, or those up to the limit and the end of the run
abbrev pub after_steps : Run → ℕ → ℕ → Came
after_steps r limit count = record { moves = min count (moves_until r limit); completed = nat_le count (moves_until r limit) }

-- the moves that end at or before a cycle
abbrev pub at_cycle : Run → ℕ → ℕ → Came
at_cycle r limit cycle = record { moves = moves_until r (min cycle limit); completed = nat_le cycle limit }

-- to a state that was looked for, or where there is none to the last one up to the limit
abbrev pub found_or_last : Run → ℕ → Option ℕ → Came
found_or_last r limit (Some k) = record { moves = k; completed = true }
found_or_last r limit None = record { moves = moves_until r limit; completed = false }

-- an opcode at pc is at an address, or is read from it through the boot latch
abbrev pub is_at : ℕ → Bool → ℕ → Bool
is_at address latch pc = (pc == address) || (mapped_address latch pc == address)

-- the next move is the instruction at an address
abbrev pub starts_in : Case → ℕ → Machine → Bool
starts_in Instruction address b = is_at address b.latch (at b.regs b.regs.p)
starts_in _ address b = false

abbrev pub starts_at : ℕ → Machine → Bool
starts_at address b = starts_in (case_of b) address b

-- to the first state ahead whose next move is the instruction at an address
abbrev pub at_address : Run → ℕ → ℕ → Came
at_address r limit address = found_or_last r limit (find (λ k. starts_at address (state_of r k)) (ahead r limit))

-- the byte that each address reads after so many moves
abbrev pub bytes_at : Run → ℕ → ℕ → ℕ
bytes_at r n = byte_of r.rom (state_of r n)

-- to the first state ahead where one of the bytes has changed
abbrev pub at_change : Run → ℕ → ℕ → ℕ → Came
at_change r limit address count = found_or_last r limit (find (λ k. has_changed address count (bytes_at r 0) (bytes_at r k)) (ahead r limit))

-- ---- the commands

abbrev pub came : Run → ℕ → Running → Came
came r limit (Step count) = after_steps r limit count
came r limit (To cycle) = at_cycle r limit cycle
came r limit (At address) = at_address r limit address
came r limit (Watch address count) = at_change r limit address count
