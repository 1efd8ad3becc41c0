use Rattle.rom_run.proofs.Display.{waits_soon}
use Rattle.rom_run.proofs.laws.waits_soon.Goals as goal

pub returns : goal.returns
returns c = waits_soon
