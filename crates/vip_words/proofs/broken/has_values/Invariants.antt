use Rattle.std.proofs.Common.{◌≡◌, drop, false, map, string_bytes}
use Rattle.vip_words.specs.Rules.{has_values}
use Rattle.vip_words.proofs.broken.has_values.Given as goal

-- it holds of all words where it holds of those that are left
abbrev pub invariant-loop-word : goal.invariant-loop-word
invariant-loop-word l = has_values l.is_after (map string_bytes (drop l.word-index l.words)) ≡ has_values false (map string_bytes l.words)
