use Rattle.rom_run.proofs.Run.{every_run}
use Rattle.rom_run.proofs.laws.every_run.Goals as goal

pub returns : goal.returns
returns c = every_run
