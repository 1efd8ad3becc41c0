-- A rule that words break, as the program holds it: with references in the places of the words.
use Rattle.std.specs.Borrow.{Bor}
use Rattle.vip_words.specs.Broken.{map_broken, map_rule}
use Rattle.vip_words.specs.Rules.{Word}
use Rattle.vip_words.specs.declared.broken.Broken.{Broken}
use Rattle.vip_words.specs.declared.broken.Rule.{Rule}

abbrev pub rule_of : Rule (Bor Word) → Rule Word
rule_of = map_rule (λ word. word.now)

abbrev pub broken_of : Broken (Bor Word) → Broken Word
broken_of = map_broken (λ word. word.now)
