use Rattle.std.proofs.Common.{subst, arith}
use Rattle.vip_relation.specs.State.{VipState, events_left}
use Rattle.vip_relation.specs.Meets.{MeetsNext}
use Rattle.vip_relation.specs.Parts.{MeetsFirst}
use Rattle.vip_relation.specs.declared.run.Met.{Met}
use Rattle.vip_relation.proofs.Telling.{stays, tells-same, tells-here}
use Rattle.vip_relation.proofs.vip.Vip.meet.Goals as goal

-- the answer up to the present cycle
next_here : (v w : VipState) (answer : Met) → MeetsFirst v w answer → MeetsNext v.board.machine.cycle v w (events_left v v.board.machine.cycle) answer
next_here v w answer m = m.next v.board.machine.cycle (omega arith)

pub invariant_of-self : goal.invariant_of-self
invariant_of-self c =
    tells-here c.self.inside.run.board.machine.cycle c.self.inside.run _ c.in-Some.ensures.follows
    (subst (MeetsNext c.self.inside.run.board.machine.cycle c.self.inside.run c.meet-met.new.self
    (events_left c.self.inside.run c.self.inside.run.board.machine.cycle)) c.in-Dispatch.is
    (next_here c.self.inside.run c.meet-met.new.self c.in-Some.event c.in-Some.ensures.first)) c.keep.ensures.last c.keep.ensures.shown c.keep.ensures.size

pub invariant_of-self-in-Some : goal.invariant_of-self-in-Some
invariant_of-self-in-Some c =
    tells-same c.self.inside c.self.invariant c.meet-met.new.self c.in-Some.ensures.follows
    (stays c.self.inside.run.board.machine.cycle c.self.inside.run c.meet-met.new.self
    (events_left c.self.inside.run c.self.inside.run.board.machine.cycle) c.in-Some.event c.in_default-event.not-Dispatch
    (next_here c.self.inside.run c.meet-met.new.self c.in-Some.event c.in-Some.ensures.first))
