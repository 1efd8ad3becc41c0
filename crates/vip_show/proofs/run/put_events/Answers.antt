use Rattle.std.proofs.Common.{◌≤◌, ap, sym, ◌∙◌, arith, refl}
use Rattle.vip_relation.specs.State.{screen_size}
use Rattle.vip_relation.proofs.Nexts.{at_dispatch, at_picture, at_stop, at_end, fewer-dispatch, fewer-picture}
use Rattle.vip_show.proofs.EventsShown.{events_shown-first, puts-dispatch, puts-picture, fails-dispatch, fails-picture, run-fails, ran-stop, ran-end, counts-fit, screen-here}
use Rattle.vip_show.proofs.run.put_events.Goals as goal

pub loop-dispatches-init : goal.loop-dispatches-init
loop-dispatches-init g c = record {
  runs = c.requires.fresh.runs;
  events = events_shown-first _ _ _ _ c.requires.fresh;
  screen = λ asked. c.start_screen-screen.ensures.screen;
  size = c.start_screen-screen.ensures.size;
}

-- ---- a dispatch point

pub overflow_add-dispatches : goal.overflow_add-dispatches
overflow_add-dispatches g c =
    let few =
    counts-fit _ _ _ _ _ _ _ _ _ c.loop-dispatches.invariant.events c.in-Dispatch.ensures.follows
    (at_dispatch _ _ _ _ (c.in-Dispatch.ensures.next c.loop-dispatches.invariant.runs)).meets.one.met in
    let low : c.loop-dispatches.dispatches ≤ 8_000_000_001 = few.0 in omega (arith, low)

pub keep_screen-requires : goal.keep_screen-requires
keep_screen-requires g c = record {
  size =
      c.loop-dispatches.invariant.size
      ∙ ap screen_size (sym (at_dispatch _ _ _ _ (c.in-Dispatch.ensures.next c.loop-dispatches.invariant.runs)).meets.one.same.edition);
}

pub returns-in_err-put_event-in-Dispatch-clause-answer : goal.returns-in_err-put_event-in-Dispatch-clause-answer
returns-in_err-put_event-in-Dispatch-clause-answer g c =
    run-fails _ _ _ _ _ _ _ c.from_residual.ensures.0
    (fails-dispatch _ _ _ _ _ _ _ _ _ c.loop-dispatches.invariant.events _
    (at_dispatch _ _ _ _ (c.in-Dispatch.ensures.next c.loop-dispatches.invariant.runs)) _
    (rw c.in-Dispatch.is at c.in_err-put_event-in-Dispatch.ensures))

pub loop-dispatches-smaller-in-Continue-1 : goal.loop-dispatches-smaller-in-Continue-1
loop-dispatches-smaller-in-Continue-1 g c = fewer-dispatch _ _ _ (at_dispatch _ _ _ _ (c.in-Dispatch.ensures.next c.loop-dispatches.invariant.runs))

pub loop-dispatches-preserved-in-Continue-1 : goal.loop-dispatches-preserved-in-Continue-1
loop-dispatches-preserved-in-Continue-1 g c =
    let d = at_dispatch _ _ _ _ (c.in-Dispatch.ensures.next c.loop-dispatches.invariant.runs) in
    record {
      runs = d.meets.goes_on;
      events = puts-dispatch _ _ _ _ _ _ _ _ _ c.loop-dispatches.invariant.events _ d _ (rw c.in-Dispatch.is at c.in_ok-put_event-in-Dispatch.ensures);
      screen = λ asked. screen-here _ _ _ _ d _ (c.keep_screen.ensures.screen asked);
      size = c.keep_screen.ensures.size;
    }

-- ---- a picture

pub overflow_add-pictures : goal.overflow_add-pictures
overflow_add-pictures g c =
    let few =
    counts-fit _ _ _ _ _ _ _ _ _ c.loop-dispatches.invariant.events c.in-Picture.ensures.follows
    (at_picture _ _ _ _ (c.in-Picture.ensures.next c.loop-dispatches.invariant.runs)).meets.one.met in
    let low : c.loop-dispatches.pictures ≤ 8_000_000_001 = few.1 in omega (arith, low)

pub returns-in_err-put_event-in-Picture-clause-answer : goal.returns-in_err-put_event-in-Picture-clause-answer
returns-in_err-put_event-in-Picture-clause-answer g c =
    run-fails _ _ _ _ _ _ _ c.from_residual-in_err-put_event-in-Picture.ensures.0
    (fails-picture _ _ _ _ _ _ _ _ _ c.loop-dispatches.invariant.events _
    (at_picture _ _ _ _ (c.in-Picture.ensures.next c.loop-dispatches.invariant.runs)) _
    (rw c.in-Picture.is at c.in_err-put_event-in-Picture.ensures))

pub loop-dispatches-smaller : goal.loop-dispatches-smaller
loop-dispatches-smaller g c = fewer-picture _ _ _ (at_picture _ _ _ _ (c.in-Picture.ensures.next c.loop-dispatches.invariant.runs))

pub loop-dispatches-preserved : goal.loop-dispatches-preserved
loop-dispatches-preserved g c =
    let p = at_picture _ _ _ _ (c.in-Picture.ensures.next c.loop-dispatches.invariant.runs) in
    record {
      runs = p.meets.goes_on;
      events = puts-picture _ _ _ _ _ _ _ _ _ c.loop-dispatches.invariant.events _ p _ (rw c.in-Picture.is at c.in_ok-put_event-in-Picture.ensures);
      screen = λ asked. c.loop-dispatches.invariant.screen asked ∙ sym p.meets.told.shown;
      size = c.loop-dispatches.invariant.size ∙ ap screen_size (sym p.meets.one.same.edition);
    }

-- ---- the end

pub returns-in-Stopped-clause-answer : goal.returns-in-Stopped-clause-answer
returns-in-Stopped-clause-answer g c =
    ran-stop _ _ _ _ _ _ _ _ _ c.loop-dispatches.invariant.events c.in-Stopped.stop
    (at_stop _ _ _ _ _ (c.in-Stopped.ensures.next c.loop-dispatches.invariant.runs)) _ refl refl refl

pub returns-in-Stopped-clause-screen : goal.returns-in-Stopped-clause-screen
returns-in-Stopped-clause-screen g c asked =
    c.loop-dispatches.invariant.screen asked ∙ sym (at_stop _ _ _ _ _ (c.in-Stopped.ensures.next c.loop-dispatches.invariant.runs)).meets.told.shown

pub returns-in-Stopped-clause-size : goal.returns-in-Stopped-clause-size
returns-in-Stopped-clause-size g c =
    c.loop-dispatches.invariant.size
    ∙ ap screen_size (sym (at_stop _ _ _ _ _ (c.in-Stopped.ensures.next c.loop-dispatches.invariant.runs)).meets.one.same.edition)

pub returns-in-End-clause-answer : goal.returns-in-End-clause-answer
returns-in-End-clause-answer g c =
    ran-end _ _ _ _ _ _ _ (g.O.Sink.meaning c.loop-dispatches.out) _ _ c.loop-dispatches.invariant.events
    (at_end _ _ _ _ (c.in-End.ensures.next c.loop-dispatches.invariant.runs)) _ refl refl refl

pub returns-in-End-clause-screen : goal.returns-in-End-clause-screen
returns-in-End-clause-screen g c asked =
    c.loop-dispatches.invariant.screen asked ∙ sym (at_end _ _ _ _ (c.in-End.ensures.next c.loop-dispatches.invariant.runs)).ends.told.shown

pub returns-in-End-clause-size : goal.returns-in-End-clause-size
returns-in-End-clause-size g c =
    c.loop-dispatches.invariant.size ∙ ap screen_size (sym (at_end _ _ _ _ (c.in-End.ensures.next c.loop-dispatches.invariant.runs)).ends.same.edition)
