use Rattle.vip_relation.proofs.Nexts.{at_dispatch, at_picture, at_stop, at_end, fewer-dispatch, fewer-picture}
use Rattle.vip_show.proofs.Saving.{saving-first, saving-dispatch, saving-picture, kept-stop, kept-end}
use Rattle.vip_show.proofs.output.keep_last.Goals as goal

pub loop-file-init : goal.loop-file-init
loop-file-init c = saving-first _ _ _ c.requires.fresh c.keep_first.ensures

-- ---- a dispatch point

pub loop-file-smaller-in-Dispatch : goal.loop-file-smaller-in-Dispatch
loop-file-smaller-in-Dispatch c = fewer-dispatch _ _ _ (at_dispatch _ _ _ _ (c.in-Dispatch.ensures.next c.loop-file.invariant.under.runs))

pub loop-file-preserved-in-Dispatch : goal.loop-file-preserved-in-Dispatch
loop-file-preserved-in-Dispatch c =
    saving-dispatch _ _ _ _ _ c.loop-file.invariant (at_dispatch _ _ _ _ (c.in-Dispatch.ensures.next c.loop-file.invariant.under.runs)) _
    c.write_run.ensures

-- ---- a picture

pub loop-file-smaller : goal.loop-file-smaller
loop-file-smaller c = fewer-picture _ _ _ (at_picture _ _ _ _ (c.in-Picture.ensures.next c.loop-file.invariant.under.runs))

pub loop-file-preserved : goal.loop-file-preserved
loop-file-preserved c =
    saving-picture _ _ _ _ _ c.loop-file.invariant (at_picture _ _ _ _ (c.in-Picture.ensures.next c.loop-file.invariant.under.runs))

-- ---- the end

pub returns-in-Stopped : goal.returns-in-Stopped
returns-in-Stopped c =
    kept-stop _ _ _ _ _ c.loop-file.invariant c.in-Stopped.stop (at_stop _ _ _ _ _ (c.in-Stopped.ensures.next c.loop-file.invariant.under.runs))

pub returns-in-End : goal.returns-in-End
returns-in-End c = kept-end _ _ _ _ _ c.loop-file.invariant (at_end _ _ _ _ (c.in-End.ensures.next c.loop-file.invariant.under.runs))
