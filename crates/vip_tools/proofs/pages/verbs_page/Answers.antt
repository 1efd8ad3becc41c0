use Rattle.std.proofs.Common.{◌∙◌, ◌++◌, ℕ, List, [], ap}
use Rattle.vip_words.specs.Table.{every_verb, row}
use Rattle.vip_words.specs.declared.table.Verb.{Verb}
use Rattle.vip_tools.specs.Help.{verb_line, verbs_page}
use Rattle.vip_tools.proofs.JoinLemmas.{all_joined, one_more}
use Rattle.vip_tools.proofs.pages.verbs_page.Goals as goal

abbrev line : Verb → List ℕ
line v = verb_line (row v)

pub loop-verb-preserved : goal.loop-verb-preserved
loop-verb-preserved c =
    c.in_ok-extend_from_slice.ensures.items
    ∙ (ap (λ line. c.loop-verb.text.items ++ line) (c.as_slice.ensures.value ∙ (c.in_ok-line.ensures ∙ ap verb_line c.row.ensures))
    ∙ one_more line [] every_verb c.loop-verb.verb-index c.loop-verb.text.items _ c.loop-verb.invariant c.loop-verb-test.true)

pub returns : goal.returns
unfolding verbs_page
returns c = all_joined line [] every_verb c.loop-verb.verb-index c.loop-verb.text.items c.loop-verb.invariant c.loop-verb-test.false
