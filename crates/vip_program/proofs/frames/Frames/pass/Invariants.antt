use Rattle.std.proofs.Common.{◌-◌}
use Rattle.vip_program.proofs.Framing.{Passing}
use Rattle.vip_program.proofs.frames.Frames.pass.Given as goal

abbrev pub invariant-loop-self : goal.invariant-loop-self
invariant-loop-self l = Passing l.fn.self l.self l.frame

abbrev pub decreases-loop-self : goal.decreases-loop-self
decreases-loop-self l = l.frame - l.self.next
