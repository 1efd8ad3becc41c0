use Rattle.std.proofs.Common.{◌≡◌, ◌≤◌, ◌+◌, ◌-◌, ◌/◌, ◌++◌}
use Rattle.std.specs.Prelude.{flat_map}
use Rattle.std.specs.List.{range_with_len}
use Rattle.asm_listing.specs.Listing.{further_line}
use Rattle.asm_listing.specs.Raw.{bytes_from}
use Rattle.asm_listing.proofs.source_listing.append_further.Given as goal

-- the first of these lines are appended
abbrev pub invariant-loop-row : goal.invariant-loop-row
invariant-loop-row l = record {
  text : l.list.items ≡ l.fn.list.items ++ flat_map (further_line l.at (bytes_from l.made l.at l.count)) (range_with_len 1 (l.row - 1));
  few : l.row - 1 ≤ (l.count + 2) / 3 - 1;
}
