use Rattle.game_check.specs.Searching.{IsFoundOn}
use Rattle.game_check.proofs.least.search.Search.sweep.Given as goal

abbrev pub invariant-loop-place : goal.invariant-loop-place
invariant-loop-place l = IsFoundOn l.fn.self l.self
