use Rattle.std.proofs.Common.{◌≡◌, ◌+◌, ◌*◌, ◌++◌, length, take}
use Rattle.std.specs.Prelude.{flat_map}
use Rattle.vip_byte.specs.HexText.{hex2}
use Rattle.vip_program.proofs.write.put_digits.Given as goal

-- the first of them are appended
abbrev pub invariant-loop-byte : goal.invariant-loop-byte
invariant-loop-byte l =
    (l.into.items ≡ l.initial.into.items ++ flat_map hex2 (take l.byte-index l.bytes))
    × (length l.into.items ≡ length l.initial.into.items + 2 * l.byte-index)
