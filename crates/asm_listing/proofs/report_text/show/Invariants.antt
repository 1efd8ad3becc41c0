use Rattle.std.proofs.Common.{◌≡◌, ◌++◌, drop}
use Rattle.asm_listing.specs.Told.{shown}
use Rattle.asm_listing.proofs.report_text.show.Given as goal

-- what is left gives the rest of the text
abbrev pub invariant-loop-byte : goal.invariant-loop-byte
invariant-loop-byte l = l.text.items ++ shown (drop l.byte-index l.bytes) ≡ shown l.bytes
