-- The keypad under a key script: which keys are held down at a cycle.
use Rattle.std.specs.Prelude.{ℕ, ◌-◌, ◌==◌, ◌&&◌, Bool, false, nat_le, List, length, filter, slice_get}
use Rattle.std.specs.Option.{option_map_or}

-- key 0 to F goes down, or goes up, at a machine cycle
pub record Event : Type 0 where
  pub cycle : ℕ
  pub key : ℕ
  pub down : Bool

-- a set of keys: k is in it where it is true at k
abbrev pub Keys : Type 0
Keys = ℕ → Bool

-- the events of key k at or before cycle t, in the order of the script
abbrev pub events_before : List Event → ℕ → ℕ → List Event
events_before script t k = filter (λ e. e.key == k && nat_le e.cycle t) script

-- The keys that are held down at cycle t: k is among them where the script has an event of k at or before t and the last such
-- event goes down.
abbrev pub held_at : List Event → ℕ → Keys
held_at script t k =
    let past = events_before script t k in
    option_map_or (λ e. e.down) (slice_get past (length past - 1)) false
