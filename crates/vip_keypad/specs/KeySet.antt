-- A set of the sixteen keys as a number of 16 bits.
use Rattle.std.specs.Prelude.{ℕ, ◌==◌, Bool}
use Rattle.std.specs.Int.{bit_at}

-- key k is in the set
abbrev pub has_key : ℕ → ℕ → Bool
has_key keys k = bit_at keys k == 1
