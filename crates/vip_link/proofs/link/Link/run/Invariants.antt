use Rattle.vip_link.proofs.Runs.{Left}
use Rattle.vip_link.proofs.link.Link.run.Given as goal

abbrev pub invariant-loop-move : goal.invariant-loop-move
invariant-loop-move l = Left l.fn.number l.fn.moves l.fn.self l.self l.x l._move
