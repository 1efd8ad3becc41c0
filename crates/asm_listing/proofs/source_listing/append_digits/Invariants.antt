use Rattle.std.proofs.Common.{◌≡◌, ◌-◌, ◌++◌}
use Rattle.asm_listing.specs.Listing.{digits_of}
use Rattle.asm_listing.specs.Raw.{bytes_from}
use Rattle.asm_listing.proofs.source_listing.append_digits.Given as goal

-- the first of them are appended
abbrev pub invariant-loop-address : goal.invariant-loop-address
invariant-loop-address l = l.list.items ≡ l.fn.list.items ++ digits_of (bytes_from l.made l.from (l.address - l.from))
