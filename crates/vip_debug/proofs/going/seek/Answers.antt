use Rattle.vip_debug.proofs.Moving.{arrives-next, arrives-break}
use Rattle.vip_debug.proofs.going.seek.Goals as goal

pub returns-in-Next-clause-arrives : goal.returns-in-Next-clause-arrives
returns-in-Next-clause-arrives c =
    rw c.in-Next.is
    (arrives-next _ _ _ c.requires.follows c.pass_points.ensures.follows c.in-Next.points _ c.pass_points.ensures.answer)

pub returns-in-Break-clause-arrives : goal.returns-in-Break-clause-arrives
returns-in-Break-clause-arrives c =
    rw c.in-Break.is
    (arrives-break _ _ _ c.requires.follows c.pass_to_pc.ensures.follows c.in-Break.pc _ c.pass_to_pc.ensures.answer)
