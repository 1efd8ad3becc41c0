use Rattle.std.proofs.Common.{◌≡◌, drop, map}
use Rattle.vip_words.specs.Broken.{misread}
use Rattle.vip_words.proofs.broken.misread_in.Given as goal

-- what is due of the words that are left
abbrev pub invariant-loop-word : goal.invariant-loop-word
invariant-loop-word l = misread l.dues (map (λ word. word.now) (drop l.word-index l.words)) ≡ misread l.fn.dues (map (λ word. word.now) l.words)
