use Rattle.vip_show.proofs.EventsShown.{show-fails, traced-early, traced-fails, traced-whole, traced-lines}
use Rattle.vip_show.proofs.pieces.show_trace.Goals as goal

pub returns-in_err-tally : goal.returns-in_err-tally
returns-in_err-tally g c =
    show-fails _ _ _ _ _ _ c.from_residual.ensures.0
    (traced-early c.args.origins.now c.args.columns c.args.run.now c.args.limit _ _ c.in_err-tally.ensures.answer)

pub returns-in_err-put_screen : goal.returns-in_err-put_screen
returns-in_err-put_screen g c =
    show-fails _ _ _ _ _ _ c.from_residual-in_err-put_screen.ensures.0
    (traced-fails _ _ _ _ _ _ _ _ _ c.in_ok-tally.ensures.answer c.if-columns.true _ c.in_err-put_screen.ensures)

pub returns-in_ok-put_screen : goal.returns-in_ok-put_screen
returns-in_ok-put_screen g c = traced-whole _ _ _ _ _ _ _ _ _ c.in_ok-tally.ensures.answer c.if-columns.true _ c.in_ok-put_screen.ensures

pub returns-else-columns : goal.returns-else-columns
returns-else-columns g c = traced-lines _ _ _ _ _ _ _ (g.O.Sink.meaning c.put_events.new.out) _ c.in_ok-tally.ensures.answer c.if-columns.false
