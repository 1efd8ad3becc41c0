use Rattle.vip_show.proofs.opcodes.Profile.clear.Goals as goal

pub returns : goal.returns
returns c = record { counted = c.clear.ensures; last = c.clear-2.ensures }
