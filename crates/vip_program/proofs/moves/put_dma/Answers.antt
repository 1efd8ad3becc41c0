use Rattle.std.proofs.Common.{◌++◌, ◌∙◌, ap}
use Rattle.vip_program.proofs.Texts.{appended}
use Rattle.vip_program.proofs.moves.put_dma.Goals as goal

pub returns-clause-items : goal.returns-clause-items
returns-clause-items c = appended _ _ _ _ _ c.put.ensures.items (c.put-2.ensures.items ∙ ap (λ text. c.put.new.into.items ++ text) c.hex4.ensures)
