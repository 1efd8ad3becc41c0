use Rattle.std.proofs.Common.{length}
use Rattle.vip_relation.specs.State.{events_left}
use Rattle.vip_show.proofs.Saving.{Saving}
use Rattle.vip_show.proofs.output.keep_last.Given as goal

-- of the events met the last dispatch point is in the buffer
abbrev pub invariant-loop-file : goal.invariant-loop-file
invariant-loop-file l = Saving l.limit l.fn.run l.run l.file.items

-- the events that are left
abbrev pub decreases-loop-file : goal.decreases-loop-file
decreases-loop-file l = length (events_left l.run l.limit)
