use Rattle.std.proofs.Common.{◌≡◌, take}
use Rattle.std.specs.List.{flat_map}
use Rattle.vip_words.specs.Table.{every_verb, row}
use Rattle.vip_tools.specs.Help.{verb_line}
use Rattle.vip_tools.proofs.pages.verbs_page.Given as goal

-- the lines of the verbs that were gone through
abbrev pub invariant-loop-verb : goal.invariant-loop-verb
invariant-loop-verb l = l.text.items ≡ flat_map (λ v. verb_line (row v)) (take l.verb-index every_verb)
