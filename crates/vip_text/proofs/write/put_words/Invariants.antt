use Rattle.std.proofs.Common.{◌≡◌, ◌+◌, ◌*◌, ◌++◌, length, take}
use Rattle.vip_byte.specs.HexText.{words_text}
use Rattle.vip_text.proofs.write.put_words.Given as goal

-- the first of them are appended
abbrev pub invariant-loop-word : goal.invariant-loop-word
invariant-loop-word l =
    (l.into.items ≡ l.initial.into.items ++ words_text (take l.word-index l.words))
    × (length l.into.items ≡ length l.initial.into.items + 5 * l.word-index)
