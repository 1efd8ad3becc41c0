use Rattle.std.proofs.Common.{◌≡◌, ◌+◌, ◌*◌, ◌++◌, length, take}
use Rattle.vip_byte.specs.HexText.{bytes_text}
use Rattle.vip_text.proofs.write.put_bytes.Given as goal

-- the first of them are appended
abbrev pub invariant-loop-byte : goal.invariant-loop-byte
invariant-loop-byte l =
    (l.into.items ≡ l.initial.into.items ++ bytes_text (take l.byte-index l.bytes))
    × (length l.into.items ≡ length l.initial.into.items + 3 * l.byte-index)
