-- What a keypad holds.
use Rattle.std.specs.Prelude.{ℕ, List}
use Rattle.machine.specs.Keys.{Event}

-- the events of its script, and the number of the key that was latched
pub record KeypadState : Type 0 where
  pub script : List Event
  pub latched : ℕ
