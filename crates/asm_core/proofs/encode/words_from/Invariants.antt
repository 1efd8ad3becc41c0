use Rattle.std.proofs.Common.{◌≡◌, ◌*◌, take, length}
use Rattle.std.specs.Prelude.{flat_map}
use Rattle.asm_core.specs.Encoding.{word_bytes}
use Rattle.asm_core.proofs.encode.words_from.Given as goal

abbrev pub invariant-loop-value : goal.invariant-loop-value
invariant-loop-value l = record {
  words : l.bytes.items ≡ flat_map word_bytes (take l.value-index l.values);
  count : length l.bytes.items ≡ 2 * l.value-index;
}
