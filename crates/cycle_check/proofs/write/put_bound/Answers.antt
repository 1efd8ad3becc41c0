use Rattle.cycle_check.specs.Found.{bound_text}
use Rattle.cycle_check.proofs.Appends.{four_more}
use Rattle.cycle_check.proofs.write.put_bound.Goals as goal

pub returns : goal.returns
unfolding bound_text
returns c = four_more _ _ _ _ _ _ _ _ _ c.put.ensures.items (rw c.hex4.ensures at c.put-2.ensures.items) c.put_registers.ensures.items c.put_limit.ensures
