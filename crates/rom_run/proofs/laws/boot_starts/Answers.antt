use Rattle.rom_run.proofs.Run.{boot_starts}
use Rattle.rom_run.proofs.laws.boot_starts.Goals as goal

pub returns : goal.returns
returns c = boot_starts
