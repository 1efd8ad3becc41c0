use Rattle.game_check.specs.Searching.{IsFoundOn}
use Rattle.game_check.proofs.least.search.Search.settle.Given as goal

abbrev pub invariant-loop : goal.invariant-loop
invariant-loop l = IsFoundOn l.fn.self l.self
