use Rattle.std.proofs.Common.{ap, ◌∙◌, replicate}
use Rattle.std.specs.Prelude.{None}
use Rattle.vip_program.proofs.Counting.{none-copied}
use Rattle.vip_show.proofs.OpcodeLemmas.{last-none}
use Rattle.vip_show.proofs.opcodes.Opcodes.clear.Goals as goal

pub returns : goal.returns
returns c = last-none _ (c.fill.ensures.items (none-copied _ (λ opcode bad. bad)) ∙ ap (λ n. replicate n None) c.args.self.now.last_len)
