-- Stretches of cycles in which the keys that are held down stay the same.
use Rattle.std.specs.Prelude.{◌≡◌, ◌≤◌, ◌<◌, ℕ, List}
use Rattle.machine.specs.Keys.{Event, held_at}
use Rattle.vip_keypad.specs.KeySet.{has_key}
use Rattle.vip_keypad.specs.declared.stretch.Stretch.{Stretch}

-- in each of its cycles the script holds its keys down
abbrev pub HoldsIn : List Event → Stretch → Type 0
HoldsIn script s =
    (t k : ℕ) → s.from ≤ t → t < s.until → k < 16 → has_key s.keys.bits k ≡ held_at script t k
