use Rattle.std.proofs.Common.{◌∙◌, ◌++◌, [], ap}
use Rattle.vip_tools.specs.Help.{option_line}
use Rattle.vip_tools.proofs.JoinLemmas.{all_joined, one_more}
use Rattle.vip_tools.proofs.pages.option_lines.Goals as goal

pub loop-option-preserved : goal.loop-option-preserved
loop-option-preserved c =
    c.in_ok-extend_from_slice.ensures.items
    ∙ (ap (λ line. c.loop-option.text.items ++ line) (c.as_slice.ensures.value ∙ c.in_ok-line.ensures)
    ∙ one_more (λ option. option_line option.now) [] c.args.options.now c.loop-option.option-index c.loop-option.text.items _ c.loop-option.invariant
    c.loop-option-test.true)

pub returns : goal.returns
returns c =
    all_joined (λ option. option_line option.now) [] c.args.options.now c.loop-option.option-index c.loop-option.text.items c.loop-option.invariant
    c.loop-option-test.false
