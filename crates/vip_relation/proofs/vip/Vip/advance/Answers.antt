use Rattle.vip_relation.proofs.Telling.{stays-by, runs-on, tells-same, tells-here}
use Rattle.vip_relation.proofs.vip.Vip.advance.Goals as goal

pub invariant_of-self : goal.invariant_of-self
invariant_of-self c =
    tells-here c.args.limit c.self.inside.run _ c.in-Dispatch.ensures.follows
    (c.in-Dispatch.ensures.next (runs-on c.self.inside.run c.advance-met.new.self c.in-Dispatch.ensures.again)) c.keep.ensures.last
    c.keep.ensures.shown c.keep.ensures.size

pub invariant_of-self-in_default : goal.invariant_of-self-in_default
invariant_of-self-in_default c =
    tells-same c.self.inside c.self.invariant c.advance-met.new.self c.advance-met.ensures.follows
    (stays-by c.args.limit c.self.inside.run c.advance-met.new.self c.advance-met.result c.in_default.not-Dispatch c.advance-met.ensures.again
    c.advance-met.ensures.next)
