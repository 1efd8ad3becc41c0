use Rattle.std.proofs.Common.{◌∙◌, ◌++◌, [], ap, true}
use Rattle.vip_tools.specs.Help.{option_text, word_text}
use Rattle.vip_tools.proofs.JoinLemmas.{all_joined, one_more}
use Rattle.vip_tools.proofs.pages.options_text.Goals as goal

pub loop-option-preserved : goal.loop-option-preserved
loop-option-preserved c =
    c.in_ok-append_word.ensures
    ∙ (ap (λ word. c.loop-option.text.items ++ word_text true word) c.with_value.ensures
    ∙ one_more (λ option. option_text option.now) [] c.args.options.now c.loop-option.option-index c.loop-option.text.items _ c.loop-option.invariant
    c.loop-option-test.true)

pub returns : goal.returns
returns c =
    all_joined (λ option. option_text option.now) [] c.args.options.now c.loop-option.option-index c.loop-option.text.items c.loop-option.invariant
    c.loop-option-test.false
