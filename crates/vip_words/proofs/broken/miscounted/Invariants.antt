use Rattle.std.proofs.Common.{◌≡◌, drop, false, map, string_bytes}
use Rattle.vip_words.specs.Broken.{miscounted}
use Rattle.vip_words.specs.Rules.{positional_words}
use Rattle.vip_words.proofs.broken.miscounted.Given as goal

-- the names that are left are due to the words that are left
abbrev pub invariant-loop-word : goal.invariant-loop-word
invariant-loop-word l =
    miscounted (map (λ name. name.now) l.names) (positional_words l.is_after (map string_bytes (drop l.word-index l.words)))
    ≡ miscounted (map (λ name. name.now) l.fn.names) (positional_words false (map string_bytes l.words))
