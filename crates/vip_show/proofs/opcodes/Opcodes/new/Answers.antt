use Rattle.vip_program.proofs.Counting.{none-copied}
use Rattle.vip_show.proofs.OpcodeLemmas.{last-none}
use Rattle.vip_show.proofs.opcodes.Opcodes.new.Goals as goal

pub returns : goal.returns
returns c = last-none _ (c.in_ok-last.ensures.items_if_clones_equal (none-copied _ (λ opcode bad. bad)))
