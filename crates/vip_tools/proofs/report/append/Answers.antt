use Rattle.std.proofs.Common.{◌∙◌}
use Rattle.vip_tools.proofs.JoinLemmas.{all_joined, one_more}
use Rattle.vip_tools.proofs.report.append.Goals as goal

pub loop-part-preserved : goal.loop-part-preserved
loop-part-preserved c =
    c.in_ok-extend_from_slice.ensures.items
    ∙ one_more (λ part. part.now) c.args.text.now.items c.args.parts.now c.loop-part.part-index c.loop-part.text.items _ c.loop-part.invariant
    c.loop-part-test.true

pub returns : goal.returns
returns c =
    all_joined (λ part. part.now) c.args.text.now.items c.args.parts.now c.loop-part.part-index c.loop-part.text.items c.loop-part.invariant
    c.loop-part-test.false
