use Rattle.std.proofs.Common.{[]}
use Rattle.cycle_check.specs.Exits.{exits_at}
use Rattle.cycle_check.proofs.Appends.{all_of, one_more}
use Rattle.cycle_check.proofs.exits.exits_of.Goals as goal

pub loop-line-preserved : goal.loop-line-preserved
loop-line-preserved c =
    one_more (λ line. exits_at c.args.rom.now c.args.bound.now c.args.lines.now line) [] c.loop-line.found.items c.push_exits.new.found.items c.args.lines.now
    c.loop-line.line-index _ c.loop-line-test.true c.loop-line.invariant c.in_ok-push_exits.ensures

pub returns : goal.returns
returns c =
    all_of (λ line. exits_at c.args.rom.now c.args.bound.now c.args.lines.now line) [] c.loop-line.found.items c.args.lines.now c.loop-line.line-index
    c.loop-line-test.false c.loop-line.invariant
