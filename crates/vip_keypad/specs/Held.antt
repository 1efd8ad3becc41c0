-- The set of the keys that are held down now, as the events of a script.
use Rattle.std.specs.Prelude.{ℕ, List, [], ◌∷◌}
use Rattle.machine.specs.Keys.{Event}
use Rattle.vip_keypad.specs.KeySet.{has_key}

-- at cycle 0 a key goes down if it is in the set, and else up
abbrev pub event_at_0 : ℕ → ℕ → Event
event_at_0 keys k = record { cycle = 0; key = k; down = has_key keys k }

-- the script that holds exactly these keys down in each cycle
unfoldable pub held_events : ℕ → List Event
held_events keys =
    event_at_0 keys 0
    ∷ event_at_0 keys 1
    ∷ event_at_0 keys 2
    ∷ event_at_0 keys 3
    ∷ event_at_0 keys 4
    ∷ event_at_0 keys 5
    ∷ event_at_0 keys 6
    ∷ event_at_0 keys 7
    ∷ event_at_0 keys 8
    ∷ event_at_0 keys 9
    ∷ event_at_0 keys 10
    ∷ event_at_0 keys 11
    ∷ event_at_0 keys 12
    ∷ event_at_0 keys 13
    ∷ event_at_0 keys 14
    ∷ event_at_0 keys 15
    ∷ []
