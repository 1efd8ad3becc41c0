use Rattle.vip_relation.proofs.Nexts.{at_dispatch, at_picture, at_stop, at_end, fewer-dispatch, fewer-picture}
use Rattle.vip_show.proofs.Profiling.{awaits-next, counted-end, counted-stop, profiling-first, profiling-dispatch, profiling-picture}
use Rattle.vip_show.proofs.profile.count_points.Goals as goal

pub loop-profile-init : goal.loop-profile-init
loop-profile-init c = profiling-first _ c.requires.fresh c.count_first.ensures.follows _ _ c.count_first.ensures.counted

-- ---- a dispatch point

pub meet-requires : goal.meet-requires
meet-requires c =
    awaits-next _ _ _ _ _ c.loop-profile.invariant c.in-Dispatch.ensures.follows
    (at_dispatch _ _ _ _ (c.in-Dispatch.ensures.next c.loop-profile.invariant.under.runs)) _ c.view.ensures

pub loop-profile-smaller-in-Dispatch : goal.loop-profile-smaller-in-Dispatch
loop-profile-smaller-in-Dispatch c = fewer-dispatch _ _ _ (at_dispatch _ _ _ _ (c.in-Dispatch.ensures.next c.loop-profile.invariant.under.runs))

pub loop-profile-preserved-in-Dispatch : goal.loop-profile-preserved-in-Dispatch
loop-profile-preserved-in-Dispatch c =
    profiling-dispatch _ _ _ _ _ c.loop-profile.invariant c.in-Dispatch.ensures.follows
    (at_dispatch _ _ _ _ (c.in-Dispatch.ensures.next c.loop-profile.invariant.under.runs)) _ c.view.ensures _ c.meet.ensures

-- ---- a picture

pub loop-profile-smaller : goal.loop-profile-smaller
loop-profile-smaller c = fewer-picture _ _ _ (at_picture _ _ _ _ (c.in-Picture.ensures.next c.loop-profile.invariant.under.runs))

pub loop-profile-preserved : goal.loop-profile-preserved
loop-profile-preserved c =
    profiling-picture _ _ _ _ _ c.loop-profile.invariant c.in-Picture.ensures.follows
    (at_picture _ _ _ _ (c.in-Picture.ensures.next c.loop-profile.invariant.under.runs))

-- ---- the end

pub returns-in-Stopped : goal.returns-in-Stopped
returns-in-Stopped c =
    counted-stop _ _ _ _ _ c.loop-profile.invariant c.in-Stopped.stop (at_stop _ _ _ _ _ (c.in-Stopped.ensures.next c.loop-profile.invariant.under.runs))

pub returns-in-End : goal.returns-in-End
returns-in-End c =
    counted-end _ _ _ _ _ c.loop-profile.invariant (at_end _ _ _ _ (c.in-End.ensures.next c.loop-profile.invariant.under.runs))
