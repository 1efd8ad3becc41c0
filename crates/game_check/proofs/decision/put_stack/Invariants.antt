use Rattle.std.proofs.Common.{◌≡◌, ◌+◌, ◌*◌, ◌++◌, length, take}
use Rattle.std.specs.List.{All}
use Rattle.vip_byte.specs.HexText.{words_text}
use Rattle.game_check.specs.Searching.{IsWord}
use Rattle.game_check.proofs.decision.put_stack.Given as goal

abbrev pub invariant-loop-address : goal.invariant-loop-address
invariant-loop-address l = record {
  items : l.into.items ≡ l.fn.into.items ++ words_text (take l.address-index l.addresses);
  len : length l.into.items ≡ length l.fn.into.items + 5 * l.address-index;
  words : All IsWord (take l.address-index l.addresses);
}
