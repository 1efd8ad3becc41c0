use Rattle.cycle_check.specs.Exits.{exit_line}
use Rattle.cycle_check.proofs.Appends.{four_more}
use Rattle.cycle_check.proofs.exits.Exit.put.Goals as goal

pub returns : goal.returns
unfolding exit_line
returns c = four_more _ _ _ _ _ _ _ _ _ c.put.ensures.items (rw c.hex4.ensures at c.put-2.ensures.items) c.put_end.ensures.items c.put-3.ensures.items
