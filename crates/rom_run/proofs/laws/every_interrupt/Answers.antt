use Rattle.rom_run.proofs.States.{every_interrupt, none_missing}
use Rattle.rom_run.proofs.laws.every_interrupt.Goals as goal

pub returns : goal.returns
returns c = record { there = every_interrupt; none_missing = none_missing }
