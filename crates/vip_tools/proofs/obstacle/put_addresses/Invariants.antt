use Rattle.std.proofs.Common.{◌≡◌, ◌+◌, ◌*◌, ◌++◌, length, take}
use Rattle.vip_byte.specs.HexText.{words_text}
use Rattle.vip_tools.proofs.obstacle.put_addresses.Given as goal

-- the first of them are appended
abbrev pub invariant-loop-address : goal.invariant-loop-address
invariant-loop-address l =
    (l.into.items ≡ l.initial.into.items ++ words_text (take l.address-index l.addresses))
    × (length l.into.items ≡ length l.initial.into.items + 5 * l.address-index)
