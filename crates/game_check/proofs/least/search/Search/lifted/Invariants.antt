use Rattle.game_check.specs.Searching.{IsAhead}
use Rattle.game_check.proofs.least.search.Search.lifted.Given as goal

abbrev pub invariant-loop : goal.invariant-loop
invariant-loop l = IsAhead l.self.edition l.self.game.now l.claim.point l.first.point l.rises
