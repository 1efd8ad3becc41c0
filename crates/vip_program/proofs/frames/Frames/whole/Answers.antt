use Rattle.vip_program.proofs.Framing.{whole-summed}
use Rattle.vip_program.proofs.frames.Frames.whole.Goals as goal

pub returns-clause-value : goal.returns-clause-value
returns-clause-value c first points f rests =
    whole-summed c.args.self c.pass.new.self c.args.last first points c.pass.ensures.next rests (c.pass.ensures.framed first points f)
