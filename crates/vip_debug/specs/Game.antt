-- A machine that runs a game, as the commands see it that speak of the machine alone.
use Rattle.std.specs.Prelude.{◌≡◌, ℕ, ◌+◌, length}
use Rattle.chip8_lang.specs.Events.{is_stop}
use Rattle.vip_relation.specs.State.{VipState, interpreter, events_to, state_after}
use Rattle.vip_relation.specs.Meets.{IsSame}
use Rattle.vip_debug.specs.TargetRun.{Run}

-- the run of its board from the state after so many moves on, which ends at the stop point
abbrev pub run_at : VipState → ℕ → Run
run_at v moves = record { rom = (interpreter v).rom; script = v.board.script; first = state_after v moves; ends = is_stop (interpreter v) }

-- after so many moves of the same game every event up to the new cycle is met
pub record Leads (moves : ℕ) (old new : VipState) : Type 0 where
  pub same : IsSame old new
  pub made : new.moves ≡ old.moves + moves
  pub met : new.met ≡ length (events_to new new.board.machine.cycle)
