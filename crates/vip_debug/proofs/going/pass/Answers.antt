use Rattle.vip_relation.proofs.Nexts.{at_dispatch, at_picture, at_end, fewer-picture}
use Rattle.vip_debug.proofs.Passing.{dispatch-runs, picture-runs, end-runs, passing-picture, passed, passed-at-stop, passed-end}
use Rattle.vip_debug.proofs.going.pass.Goals as goal

pub returns-in-Dispatch-clause-answer : goal.returns-in-Dispatch-clause-answer
returns-in-Dispatch-clause-answer c =
    passed _ _ _ _ c.loop.invariant c.in-Dispatch.ensures.follows
    (at_dispatch _ _ _ _ (c.in-Dispatch.ensures.next (dispatch-runs _ _ c.in-Dispatch.ensures.again)))

pub loop-smaller : goal.loop-smaller
loop-smaller c = fewer-picture _ _ _ (at_picture _ _ _ _ (c.in-Picture.ensures.next (picture-runs _ _ c.in-Picture.ensures.again)))

pub loop-preserved : goal.loop-preserved
loop-preserved c =
    passing-picture _ _ _ _ c.loop.invariant c.in-Picture.ensures.follows
    (at_picture _ _ _ _ (c.in-Picture.ensures.next (picture-runs _ _ c.in-Picture.ensures.again)))

pub returns-in-Stopped-clause-answer : goal.returns-in-Stopped-clause-answer
returns-in-Stopped-clause-answer c =
    passed-at-stop _ _ _ _ c.loop.invariant c.in-Stopped.ensures.follows c.in-Stopped.field-0 c.in-Stopped.ensures.again c.in-Stopped.ensures.next

pub returns-in-End-clause-answer : goal.returns-in-End-clause-answer
returns-in-End-clause-answer c =
    passed-end _ _ _ _ c.loop.invariant c.in-End.ensures.follows (at_end _ _ _ _ (c.in-End.ensures.next (end-runs _ _ c.in-End.ensures.again)))
