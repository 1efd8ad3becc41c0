use Rattle.vip_show.proofs.EventsShown.{show-fails, summed-early, summed-fails, summed-whole, line-put, puts-line, fails-line}
use Rattle.vip_show.proofs.summary.show_summary.Goals as goal

pub returns-in_err-tally : goal.returns-in_err-tally
returns-in_err-tally g c =
    show-fails _ _ _ _ _ _ c.from_residual.ensures.0 (summed-early c.args.number c.args.run.now c.args.limit _ _ c.in_err-tally.ensures.answer)

pub returns-in_err-put : goal.returns-in_err-put
returns-in_err-put g c =
    show-fails _ _ _ _ _ _ c.from_residual-in_err-put.ensures.0
    (summed-fails c.args.number _ _ _ _ _ _ _ c.in_ok-tally.ensures.answer
    (fails-line _ _ _ _ (line-put _ _ _ _ _ _ _ c.as_slice-2.ensures.value c.summary_text.ensures c.lit.ensures) c.in_err-put.ensures.answer))

pub returns : goal.returns
returns g c =
    summed-whole c.args.number _ _ _ _ _ _ _ c.in_ok-tally.ensures.answer
    (puts-line _ _ _ _ (line-put _ _ _ _ _ _ _ c.as_slice-2.ensures.value c.summary_text.ensures c.lit.ensures) c.in_ok-put.ensures.answer)
