use Rattle.rom_run.proofs.Display.{undisturbed}
use Rattle.rom_run.proofs.laws.undisturbed.Goals as goal

pub returns : goal.returns
returns c = undisturbed
