use Rattle.cycle_check.proofs.Below.{worst_pays}
use Rattle.cycle_check.proofs.closed.pays_for.Goals as goal

pub returns : goal.returns
returns c = worst_pays c.args.budget c.args.cycles c.args.behind.now c.args.counter c.from.result c.unwrap_or-worst.result c.left.result c.from.ensures
    c.unwrap_or-worst.ensures c.left.ensures
