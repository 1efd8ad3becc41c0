use Rattle.std.proofs.Common.{◌≡◌, drop}
use Rattle.std.specs.List.{list_all}
use Rattle.asm_listing.specs.Remedies.{is_digit_of}
use Rattle.asm_listing.proofs.remedies.are_all.Given as goal

-- what is left decides
abbrev pub invariant-loop-byte : goal.invariant-loop-byte
invariant-loop-byte l = list_all (is_digit_of l.class) (drop l.byte-index l.text) ≡ list_all (is_digit_of l.class) l.text
