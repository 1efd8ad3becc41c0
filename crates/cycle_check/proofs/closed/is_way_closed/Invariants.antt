use Rattle.std.proofs.Common.{◌≡◌, true}
use Rattle.cycle_check.specs.Closed.{passes_below, holds_at}
use Rattle.cycle_check.proofs.closed.is_way_closed.Given as goal

abbrev pub invariant-loop-counter : goal.invariant-loop-counter
invariant-loop-counter l = passes_below (holds_at l.k l.line l.instruction l.way.when l.behind) l.counter ≡ true
