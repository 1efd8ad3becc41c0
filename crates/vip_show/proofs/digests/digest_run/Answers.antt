use Rattle.std.proofs.Common.{◌≤◌, ap, sym, ◌∙◌, arith, length, refl, []}
use Rattle.vip_relation.specs.State.{screen_size}
use Rattle.vip_relation.proofs.Nexts.{at_dispatch, at_picture, at_stop, at_end, fewer-dispatch, fewer-picture}
use Rattle.vip_text.specs.declared.ending.RunEnd.TheVariants.{AtLimit, AtStop}
use Rattle.vip_show.specs.declared.run.Tally.{Tally}
use Rattle.vip_show.proofs.Digesting.{adds-line, digested, digesting-first, digesting-dispatch, digesting-picture, holding}
use Rattle.vip_show.proofs.EventsShown.{ran-stop, ran-end, counts-fit, screen-here}
use Rattle.vip_show.proofs.digests.digest_run.Goals as goal

pub loop-points-init : goal.loop-points-init
loop-points-init c = record {
  runs = c.requires.fresh.runs;
  events = digesting-first _ _ _ _ c.requires.fresh c.new-trace.ensures c.new-pictures.ensures;
  screen = c.start_screen-screen.ensures.screen;
  size = c.start_screen-screen.ensures.size;
}

-- ---- a dispatch point

pub overflow_add-points : goal.overflow_add-points
overflow_add-points c =
    let few =
    counts-fit _ _ _ _ _ _ _ _ _ c.loop-points.invariant.events.lined c.in-Dispatch.ensures.follows
    (at_dispatch _ _ _ _ (c.in-Dispatch.ensures.next c.loop-points.invariant.runs)).meets.one.met in
    let low : c.loop-points.points ≤ 8_000_000_001 = few.0 in omega (arith, low)

pub keep_screen-requires : goal.keep_screen-requires
keep_screen-requires c = record {
  size = c.loop-points.invariant.size ∙ ap screen_size (sym (at_dispatch _ _ _ _ (c.in-Dispatch.ensures.next c.loop-points.invariant.runs)).meets.one.same.edition);
}

pub loop-points-smaller-in-Dispatch : goal.loop-points-smaller-in-Dispatch
loop-points-smaller-in-Dispatch c = fewer-dispatch _ _ _ (at_dispatch _ _ _ _ (c.in-Dispatch.ensures.next c.loop-points.invariant.runs))

pub loop-points-preserved-in-Dispatch : goal.loop-points-preserved-in-Dispatch
loop-points-preserved-in-Dispatch c =
    let d = at_dispatch _ _ _ _ (c.in-Dispatch.ensures.next c.loop-points.invariant.runs) in
    record {
      runs = d.meets.goes_on;
      events = digesting-dispatch _ _ _ _ _ _ _ c.loop-points.invariant.events d _ (adds-line _ _ _ c.add_line.ensures);
      screen = screen-here _ _ _ _ d _ (c.keep_screen.ensures.screen refl);
      size = c.keep_screen.ensures.size;
    }

-- ---- a picture

pub loop-points-smaller : goal.loop-points-smaller
loop-points-smaller c = fewer-picture _ _ _ (at_picture _ _ _ _ (c.in-Picture.ensures.next c.loop-points.invariant.runs))

pub loop-points-preserved : goal.loop-points-preserved
loop-points-preserved c =
    let p = at_picture _ _ _ _ (c.in-Picture.ensures.next c.loop-points.invariant.runs) in
    record {
      runs = p.meets.goes_on;
      events = digesting-picture _ _ _ _ _ _ _ c.loop-points.invariant.events p _ c.add_picture.ensures;
      screen = c.loop-points.invariant.screen ∙ sym p.meets.told.shown;
      size = c.loop-points.invariant.size ∙ ap screen_size (sym p.meets.one.same.edition);
    }

-- ---- the end

pub end_trace-requires-clause-bytes : goal.end_trace-requires-clause-bytes
end_trace-requires-clause-bytes c =
    c.as_slice.ensures.value ∙ c.loop-points.invariant.screen
    ∙ sym (at_stop _ _ _ _ _ (c.in-Stopped.ensures.next c.loop-points.invariant.runs)).meets.told.shown

pub end_trace-requires-clause-size : goal.end_trace-requires-clause-size
end_trace-requires-clause-size c =
    ap length c.as_slice.ensures.value ∙ c.loop-points.invariant.size
    ∙ ap screen_size (sym (at_stop _ _ _ _ _ (c.in-Stopped.ensures.next c.loop-points.invariant.runs)).meets.one.same.edition)

pub returns-in-Stopped : goal.returns-in-Stopped
returns-in-Stopped c =
    let h = at_stop _ _ _ _ _ (c.in-Stopped.ensures.next c.loop-points.invariant.runs) in
    let g = c.loop-points.invariant.events in
    let tally : Tally =
    record { end = AtStop c.in-Stopped.stop; dispatches = c.loop-points.points; pictures = g.count; screen = c.loop-points.screen } in
    digested _ _ _ _ _ _ _ g tally _ refl refl
    (ran-stop _ _ _ _ _ _ _ _ _ g.lined c.in-Stopped.stop h tally refl refl refl)
    (ran-stop _ _ _ _ _ _ _ _ _ g.pictured c.in-Stopped.stop h tally refl refl refl)
    c.end_trace.ensures c.finalize.ensures

pub end_trace-requires-in-End-clause-bytes : goal.end_trace-requires-in-End-clause-bytes
end_trace-requires-in-End-clause-bytes c =
    c.as_slice-in-End.ensures.value ∙ c.loop-points.invariant.screen
    ∙ sym (at_end _ _ _ _ (c.in-End.ensures.next c.loop-points.invariant.runs)).ends.told.shown

pub end_trace-requires-in-End-clause-size : goal.end_trace-requires-in-End-clause-size
end_trace-requires-in-End-clause-size c =
    ap length c.as_slice-in-End.ensures.value ∙ c.loop-points.invariant.size
    ∙ ap screen_size (sym (at_end _ _ _ _ (c.in-End.ensures.next c.loop-points.invariant.runs)).ends.same.edition)

pub returns-in-End : goal.returns-in-End
returns-in-End c =
    let e = at_end _ _ _ _ (c.in-End.ensures.next c.loop-points.invariant.runs) in
    let g = c.loop-points.invariant.events in
    let tally : Tally = record { end = AtLimit; dispatches = c.loop-points.points; pictures = g.count; screen = c.loop-points.screen } in
    digested _ _ _ _ _ _ _ g tally _ refl refl
    (ran-end _ _ _ _ _ _ _ (holding []) _ _ g.lined e tally refl refl refl)
    (ran-end _ _ _ _ _ _ _ (holding []) _ _ g.pictured e tally refl refl refl)
    c.end_trace-in-End.ensures c.finalize-in-End.ensures
