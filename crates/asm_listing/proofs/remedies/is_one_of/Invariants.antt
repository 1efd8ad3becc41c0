use Rattle.std.proofs.Common.{◌≡◌, drop, map}
use Rattle.asm_listing.specs.Remedies.{is_one_of}
use Rattle.asm_listing.proofs.remedies.is_one_of.Given as goal

-- the words that are left decide
abbrev pub invariant-loop-word : goal.invariant-loop-word
invariant-loop-word l = is_one_of (map (λ word. word.now) (drop l.word-index l.words)) l.text ≡ is_one_of (map (λ word. word.now) l.words) l.text
