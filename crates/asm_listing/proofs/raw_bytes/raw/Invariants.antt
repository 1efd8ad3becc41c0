use Rattle.std.proofs.Common.{◌≡◌, ◌+◌, ◌-◌, ◌<◌, ◌≤◌}
use Rattle.asm_listing.specs.Raw.{bytes_from, first_shown}
use Rattle.asm_listing.proofs.raw_bytes.raw.Given as goal

-- the bytes before this address
abbrev pub invariant-loop-address : goal.invariant-loop-address
invariant-loop-address l = record {
  bytes : l.bytes.items ≡ bytes_from l.made (first_shown l.fn.isa l.low) (l.address - first_shown l.fn.isa l.low);
  behind : l.high + 1 < l.address → l.address ≤ first_shown l.fn.isa l.low;
}
