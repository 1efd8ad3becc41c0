-- The map that a tree of files holds.
use Rattle.std.specs.Prelude.{ℕ, Vec, String, map, string_bytes}
use Rattle.std.specs.BTreeMap.{BTreeMap}
use Rattle.std.specs.FinMap.{from_entries}
use Rattle.vip_outside.specs.Files.{FileMap}

module _ {Y Z : Type 0} where
  abbrev pub map_of : BTreeMap (String Y) (Vec ℕ Z) → FileMap
  map_of tree = from_entries (map (λ entry. (string_bytes entry.0, entry.1.items)) tree.entries)
