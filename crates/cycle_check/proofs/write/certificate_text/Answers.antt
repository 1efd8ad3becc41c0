use Rattle.cycle_check.specs.Found.{bound_text, line_text}
use Rattle.cycle_check.proofs.Appends.{all_of, one_more}
use Rattle.cycle_check.proofs.write.certificate_text.Goals as goal

pub loop-line-preserved : goal.loop-line-preserved
loop-line-preserved c =
    one_more line_text (bound_text c.args.bound.now) c.loop-line.text.items c.append_line.new.text.items c.args.lines.now c.loop-line.line-index _
    c.loop-line-test.true c.loop-line.invariant c.in_ok-append_line.ensures

pub returns : goal.returns
returns c =
    all_of line_text (bound_text c.args.bound.now) c.loop-line.text.items c.args.lines.now c.loop-line.line-index c.loop-line-test.false c.loop-line.invariant
