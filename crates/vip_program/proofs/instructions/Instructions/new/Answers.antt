use Rattle.std.proofs.Common.{refl}
use Rattle.vip_program.proofs.Counting.{none-copied}
use Rattle.vip_program.proofs.Instructing.{first-none}
use Rattle.vip_program.proofs.instructions.Instructions.new.Goals as goal

pub returns : goal.returns
returns c rom = first-none rom _ (c.in_ok-first.ensures.items_if_clones_equal (none-copied _ (λ three bad. bad)))
