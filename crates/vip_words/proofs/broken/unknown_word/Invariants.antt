use Rattle.std.proofs.Common.{◌≡◌, drop, find, map, string_bytes}
use Rattle.std.specs.Prelude.{not}
use Rattle.vip_words.specs.Rules.{is_known}
use Rattle.vip_words.proofs.broken.unknown_word.Given as goal

-- none of the words so far is unknown
abbrev pub invariant-loop-word : goal.invariant-loop-word
invariant-loop-word l =
    find (λ word. not (is_known (map (λ option. option.now) l.options) word)) (map string_bytes (drop l.word-index l.words))
    ≡ find (λ word. not (is_known (map (λ option. option.now) l.options) word)) (map string_bytes l.words)
