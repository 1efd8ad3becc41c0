use Rattle.std.proofs.Common.{◌∙◌, ◌++◌, ap, sym}
use Rattle.std.proofs.lemmas.List.Folds.{flat_map-map}
use Rattle.vip_tools.specs.Help.{word_text}
use Rattle.vip_tools.proofs.JoinLemmas.{all_joined, one_more}
use Rattle.vip_tools.proofs.pages.with_words.Goals as goal

pub loop-word-preserved : goal.loop-word-preserved
loop-word-preserved c =
    let row = c.args.row.now in
    c.in_ok-append_word.ensures
    ∙ one_more (λ word. word_text row.may_stand_alone word.now) row.name.now row.words.now c.loop-word.word-index c.loop-word.text.items _
    c.loop-word.invariant c.loop-word-test.true

pub returns : goal.returns
returns c =
    let row = c.args.row.now in
    all_joined (λ word. word_text row.may_stand_alone word.now) row.name.now row.words.now c.loop-word.word-index c.loop-word.text.items
    c.loop-word.invariant c.loop-word-test.false
    ∙ ap (λ text. row.name.now ++ text) (sym (flat_map-map (word_text row.may_stand_alone) (λ word. word.now) row.words.now))
