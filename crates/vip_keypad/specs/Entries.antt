-- The events of a script as they are kept: each with the set of keys that are down after it.
use Rattle.std.specs.Prelude.{◌≡◌, ℕ, ◌+◌, ◌-◌, ◌==◌, ◌<◌, false, List, length, filter, map, take, slice_get, slice_index_or}
use Rattle.std.specs.List.Sorted.{IsNonDecreasingBy}
use Rattle.std.specs.Option.{option_map_or}
use Rattle.machine.specs.Keys.{Event, Keys}
use Rattle.vip_keypad.specs.KeySet.{has_key}
use Rattle.vip_keypad.specs.declared.script.Entry.{Entry}

-- the keys that are down after some events, each by its last one
abbrev pub held_after : List Event → Keys
held_after events k =
    let own = filter (λ event. event.key == k) events in
    option_map_or (λ event. event.down) (slice_get own (length own - 1)) false

-- the event that is kept
abbrev pub event_of_entry : Entry → Event
event_of_entry entry = record { cycle = entry.cycle; key = entry.key; down = entry.down }

-- the cycles never fall, and each entry has the keys that are down after the events up to it
pub record AreSearchable (entries : List Entry) : Type 0 where
  pub in_order : IsNonDecreasingBy (λ entry. entry.cycle) entries
  pub keys : (i k : ℕ) (d : Entry) → i < length entries → k < 16
      → has_key (slice_index_or entries i d).keys.bits k ≡ held_after (map event_of_entry (take (i + 1) entries)) k
