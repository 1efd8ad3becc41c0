use Rattle.std.proofs.Common.{◌≡◌, length}
use Rattle.vip_relation.specs.Meets.{HasStopped}
use Rattle.vip_relation.specs.State.{events_left, screen_size}
use Rattle.vip_show.proofs.Digesting.{Digesting}
use Rattle.vip_show.proofs.digests.digest_run.Given as goal

-- what was met is hashed, no stop was met, and the screen is that of the last dispatch point
abbrev pub invariant-loop-points : goal.invariant-loop-points
invariant-loop-points l = record {
  runs : HasStopped l.run → ⊥;
  events : Digesting l.limit l.fn.run l.run l.trace l.pictures l.points;
  screen : l.screen.items ≡ l.run.shown;
  size : length l.screen.items ≡ screen_size l.run.edition;
}

-- the events that are left
abbrev pub decreases-loop-points : goal.decreases-loop-points
decreases-loop-points l = length (events_left l.run l.limit)
