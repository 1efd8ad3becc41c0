use Rattle.std.proofs.Common.{sym}
use Rattle.vip_program.proofs.Labelled.{place-none}
use Rattle.vip_program.proofs.labels.next_place.Goals as goal

pub returns-else-next_is_instruction : goal.returns-else-next_is_instruction
returns-else-next_is_instruction c =
    sym (place-none c.args.board.now.machine (λ starts. let is = c.next_is_instruction.ensures.1 starts in let no = c.if-next_is_instruction.false in cc))
