use Rattle.vip_show.proofs.EventsShown.{show-fails, pictures-are}
use Rattle.vip_show.proofs.pieces.show_pictures.Goals as goal

pub returns-in_err-put_events : goal.returns-in_err-put_events
returns-in_err-put_events g c = show-fails _ _ _ _ _ _ c.from_residual.ensures.0 (rw (← pictures-are c.args.run.now c.args.limit) c.in_err-put_events.ensures.answer)

pub returns : goal.returns
returns g c = record { puts = rw (← pictures-are c.args.run.now c.args.limit) c.in_ok-put_events.ensures.answer.puts; ending = c.in_ok-put_events.ensures.answer.ending }
