use Rattle.game_check.specs.Searching.{IsStarted}
use Rattle.game_check.proofs.least.Family.start.Given as goal

abbrev pub invariant-loop-claim : goal.invariant-loop-claim
invariant-loop-claim l = IsStarted l.fn.edition l.fn.game l.family
