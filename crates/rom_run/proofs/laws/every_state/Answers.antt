use Rattle.rom_run.proofs.States.{every_state}
use Rattle.rom_run.proofs.laws.every_state.Goals as goal

pub returns : goal.returns
returns c = every_state
