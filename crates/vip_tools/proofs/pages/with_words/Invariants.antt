use Rattle.std.proofs.Common.{◌≡◌, ◌++◌, take}
use Rattle.std.specs.List.{flat_map}
use Rattle.vip_tools.specs.Help.{word_text}
use Rattle.vip_tools.proofs.pages.with_words.Given as goal

-- the words that were gone through stand behind the verb
abbrev pub invariant-loop-word : goal.invariant-loop-word
invariant-loop-word l = l.text.items ≡ l.row.name.now ++ flat_map (λ word. word_text l.row.may_stand_alone word.now) (take l.word-index l.row.words.now)
