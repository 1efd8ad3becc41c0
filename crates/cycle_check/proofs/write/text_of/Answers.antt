use Rattle.std.proofs.Common.{◌++◌}
use Rattle.std.specs.Prelude.{codes}
use Rattle.cycle_check.specs.Exits.{exit_line}
use Rattle.cycle_check.specs.Found.{certificate_text}
use Rattle.cycle_check.proofs.Appends.{all_of, one_more}
use Rattle.cycle_check.proofs.write.text_of.Goals as goal

pub loop-exit-preserved : goal.loop-exit-preserved
loop-exit-preserved c =
    one_more (λ exit. codes "# " ++ exit_line exit) (certificate_text c.args.bound.now c.args.lines.now) c.loop-exit.text.items c.append_remark.new.text.items
    c.args.exits.now c.loop-exit.exit-index _ c.loop-exit-test.true c.loop-exit.invariant c.in_ok-append_remark.ensures

pub returns : goal.returns
returns c =
    all_of (λ exit. codes "# " ++ exit_line exit) (certificate_text c.args.bound.now c.args.lines.now) c.loop-exit.text.items c.args.exits.now
    c.loop-exit.exit-index c.loop-exit-test.false c.loop-exit.invariant
