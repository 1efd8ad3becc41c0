use Rattle.std.proofs.Common.{◌≡◌, true, length}
use Rattle.vip_relation.specs.Meets.{HasStopped}
use Rattle.vip_relation.specs.State.{events_left, screen_size}
use Rattle.vip_show.specs.Run.{told_of}
use Rattle.vip_show.proofs.EventsShown.{EventsShown}
use Rattle.vip_show.proofs.run.put_events.Given as goal

-- what was met is written, no stop was met, and the screen is that of the last dispatch point where it is asked for
abbrev pub invariant-loop-dispatches : goal.invariant-loop-dispatches
invariant-loop-dispatches g l = record {
  runs : HasStopped l.run → ⊥;
  events : EventsShown (told_of l.shown) l.limit l.fn.run l.run (g.O.Sink.meaning l.fn.out) (g.O.Sink.meaning l.out) l.dispatches l.pictures;
  screen : l.keeps_screen ≡ true → l.screen.items ≡ l.run.shown;
  size : length l.screen.items ≡ screen_size l.run.edition;
}

-- the events that are left
abbrev pub decreases-loop-dispatches : goal.decreases-loop-dispatches
decreases-loop-dispatches g l = length (events_left l.run l.limit)
