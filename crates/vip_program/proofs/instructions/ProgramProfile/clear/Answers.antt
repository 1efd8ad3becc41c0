use Rattle.vip_program.proofs.instructions.ProgramProfile.clear.Goals as goal

pub returns : goal.returns
returns c rom = record { counted = c.clear.ensures; first = c.clear-2.ensures rom }
