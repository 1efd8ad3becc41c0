use Rattle.std.proofs.Common.{◌≡◌, ◌<◌, drop, fold}
use Rattle.asm_listing.specs.Remedies.{with_digit, binary_value}
use Rattle.asm_listing.proofs.remedies.binary_value.Given as goal

-- the digits that are left go on from the value so far
abbrev pub invariant-loop-digit : goal.invariant-loop-digit
invariant-loop-digit l = record {
  value : fold with_digit l.value (drop l.digit-index l.digits) ≡ binary_value l.digits;
  fits : l.value < 65536;
}
