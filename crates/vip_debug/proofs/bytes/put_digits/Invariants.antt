use Rattle.std.proofs.Common.{◌≡◌, ◌+◌, ◌*◌, ◌++◌, take}
use Rattle.arrayvec.specs.ArrayVec.{array_vec_len}
use Rattle.asm_listing.specs.Listing.{digits_of}
use Rattle.vip_debug.proofs.bytes.put_digits.Given as goal

abbrev pub invariant-loop-byte : goal.invariant-loop-byte
invariant-loop-byte l = record {
  len : array_vec_len l.into ≡ array_vec_len l.initial.into + 2 * l.byte-index;
  items : l.into.items ≡ l.initial.into.items ++ digits_of (take l.byte-index l.bytes);
}
