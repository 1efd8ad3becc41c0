use Rattle.std.proofs.Common.{◌∙◌, sym, ap}
use Rattle.cycle_check.specs.Exits.{exits_by}
use Rattle.cycle_check.proofs.Answered.{exits_in-judged}
use Rattle.cycle_check.proofs.check_exits.Goals as goal

pub returns-clause-exits : goal.returns-clause-exits
returns-clause-exits c =
    let found = rw c.lines.ensures.items at c.in_ok-exits.ensures in
    found
    ∙ sym (exits_in-judged c.args.rom.now c.args.text.now _ c.in_ok-within.ensures.read
    ∙ ap (exits_by c.args.rom.now _) c.in_ok-within.ensures.bound)
