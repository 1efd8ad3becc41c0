use Rattle.rom_run.proofs.Bound.{timely}
use Rattle.rom_run.proofs.laws.timely.Goals as goal

pub returns : goal.returns
returns c = timely
