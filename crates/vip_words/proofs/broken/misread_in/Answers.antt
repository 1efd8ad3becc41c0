use Rattle.std.proofs.Common.{◌≡◌, ◌∙◌, ◌≤◌, arith, List, [], ◌∷◌, None, refl, sym, drop, length, map}
use Rattle.vip_words.specs.Broken.{misread}
use Rattle.vip_words.specs.Rules.{Word}
use Rattle.vip_words.specs.declared.broken.Due.{Due}
use Rattle.vip_words.proofs.broken.misread_in.Goals as goal

none_due : (dues : List Due) (words : List Word) → length dues ≤ 0 → misread dues words ≡ None
none_due [] [] none = refl
none_due [] (word ∷ words) none = refl
none_due (due ∷ dues) words none = absurd (omega arith)

pub returns-in-empty : goal.returns-in-empty
returns-in-empty c =
    sym (none_due c.loop-word.dues.now (map (λ word. word.now) (drop c.loop-word.word-index c.args.words.now)) (omega (arith, c.in-empty.len_below)))
    ∙ c.loop-word.invariant
