use Rattle.std.proofs.Common.{◌≡◌, ◌+◌, ◌*◌, ◌++◌, take}
use Rattle.arrayvec.specs.ArrayVec.{array_vec_len}
use Rattle.vip_byte.specs.HexText.{bytes_text}
use Rattle.vip_debug.proofs.bytes.put_bytes.Given as goal

abbrev pub invariant-loop-byte : goal.invariant-loop-byte
invariant-loop-byte l = record {
  len : array_vec_len l.into ≡ array_vec_len l.initial.into + 3 * l.byte-index;
  items : l.into.items ≡ l.initial.into.items ++ bytes_text (take l.byte-index l.bytes);
}
