use Rattle.std.proofs.Common.{◌≡◌, ◌≤◌, ◌++◌, length, drop}
use Rattle.asm_listing.specs.Dump.{places_of, dump_of, dump_text}
use Rattle.asm_listing.specs.Row.{row_before}
use Rattle.asm_listing.proofs.hex_dump.dump.Given as goal

-- the row and the places that are left give what is left of the dump
abbrev pub invariant-loop-address : goal.invariant-loop-address
invariant-loop-address l = record {
  text : l.text.items ++ dump_of (row_before l.address l.row.items ++ drop l.address (places_of l.made)) ≡ dump_text l.made;
  before : length l.row.items ≤ l.address;
  few : length l.row.items ≤ 16;
}
