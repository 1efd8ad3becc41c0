use Rattle.std.proofs.Common.{◌≡◌, ◌++◌, length}
use Rattle.std.specs.Prelude.{flat_map}
use Rattle.asm_listing.specs.Listing.{symbol_line}
use Rattle.asm_listing.proofs.source_listing.append_all.Given as goal

-- what is left gives the rest of the text
abbrev pub invariant-loop-name : goal.invariant-loop-name
invariant-loop-name l = l.list.items ++ flat_map symbol_line l.symbols ≡ l.fn.list.items ++ flat_map symbol_line l.fn.symbols

abbrev pub decreases-loop-name : goal.decreases-loop-name
decreases-loop-name l = length l.symbols
