use Rattle.vip_relation.proofs.Reading.{view_at-parts}
use Rattle.vip_relation.proofs.run.name_point.Goals as goal

pub returns : goal.returns
returns c = rw (view_at-parts c.args.edition c.args.board.now.machine, c.opcode.ensures, c.r-pc.ensures.number, c.cpu.ensures, c.memory.ensures)
