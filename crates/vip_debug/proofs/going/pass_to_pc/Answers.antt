use Rattle.vip_debug.proofs.Passing.{looked-none}
use Rattle.vip_debug.proofs.going.pass_to_pc.Goals as goal

pub returns-clause-answer : goal.returns-clause-answer
returns-clause-answer c = looked-none _ _ _ _ _ c.loop-limit.invariant c.loop-limit-test.ensures.follows c.loop-limit-test.ensures.answer
