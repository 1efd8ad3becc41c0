use Rattle.std.proofs.Common.{◌≡◌, length}
use Rattle.vip_relation.specs.State.{events_waiting}
use Rattle.vip_relation.proofs.vip.Vip.meet_all.Given as goal

-- the board stays
abbrev pub invariant-loop : goal.invariant-loop
invariant-loop l = record {
  edition : l.self.edition ≡ l.fn.self.edition;
  start : l.self.start ≡ l.fn.self.start;
  board : l.self.board ≡ l.fn.self.board;
  moves : l.self.moves ≡ l.fn.self.moves;
}

-- the events that wait
abbrev pub decreases-loop : goal.decreases-loop
decreases-loop l = length (events_waiting l.self)
