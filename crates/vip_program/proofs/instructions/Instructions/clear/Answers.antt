use Rattle.std.proofs.Common.{ap, ◌∙◌, replicate}
use Rattle.std.specs.Prelude.{None}
use Rattle.vip_program.proofs.Counting.{none-copied}
use Rattle.vip_program.proofs.Instructing.{first-none}
use Rattle.vip_program.proofs.instructions.Instructions.clear.Goals as goal

pub returns : goal.returns
returns c rom = first-none rom _ (c.fill.ensures.items (none-copied _ (λ three bad. bad)) ∙ ap (λ n. replicate n None) c.args.self.now.first_len)
