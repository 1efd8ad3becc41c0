use Rattle.std.proofs.Common.{sym, ◌∙◌}
use Rattle.vip_tools.proofs.GamesLemmas.{events-are, events-refused}
use Rattle.vip_tools.proofs.games.read_events.Goals as goal

pub returns-in-Ok : goal.returns-in-Ok
returns-in-Ok c = events-are c.args.text.now c.in-Ok.keys (sym c.has_mark.ensures ∙ c.if-has_mark.false) c.in-Ok.ensures.events

pub returns-in-Err : goal.returns-in-Err
returns-in-Err c = rw c.line_fault.ensures (events-refused c.args.text.now c.in-Err.fault (sym c.has_mark.ensures ∙ c.if-has_mark.false) c.in-Err.ensures.fault)
