use Rattle.game_check.specs.Searching.{IsFoundOn}
use Rattle.game_check.proofs.least.search.Search.lift_cycles.Given as goal

abbrev pub invariant-loop-start : goal.invariant-loop-start
invariant-loop-start l = IsFoundOn l.fn.self l.self
