use Rattle.std.proofs.Common.{◌∙◌, ◌++◌, ap}
use Rattle.cycle_check.specs.Exits.{exit_line}
use Rattle.vip_tools.specs.Certificates.{within_line}
use Rattle.vip_tools.proofs.JoinLemmas.{all_joined, one_more}
use Rattle.vip_tools.proofs.certificates.routine_text.Goals as goal

pub loop-exit-preserved : goal.loop-exit-preserved
loop-exit-preserved c =
    c.in_ok-extend_from_slice.ensures.items
    ∙ (ap (λ line. c.loop-exit.text.items ++ line)
    (c.as_slice-in-loop-exit.ensures.value ∙ (rw c.new-line-in-loop-exit.ensures at c.put.ensures))
    ∙ one_more exit_line (within_line c.args.within) c.args.exits.now c.loop-exit.exit-index c.loop-exit.text.items _ c.loop-exit.invariant
    c.loop-exit-test.true)

pub returns : goal.returns
returns c =
    all_joined exit_line (within_line c.args.within) c.args.exits.now c.loop-exit.exit-index c.loop-exit.text.items c.loop-exit.invariant
    c.loop-exit-test.false
