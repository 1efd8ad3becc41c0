use Rattle.vip_program.proofs.Framing.{passing-next}
use Rattle.vip_program.proofs.frames.Frames.pass.Goals as goal

pub loop-self-preserved : goal.loop-self-preserved
loop-self-preserved c =
    passing-next _ _ _ _ c.requires.frame c.loop-self.invariant c.loop-self-test.true c.with-self.ensures.value c.with-self.ensures.count
    c.with-self.ensures.sum
