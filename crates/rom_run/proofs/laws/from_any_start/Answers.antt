use Rattle.rom_run.proofs.Run.{from_any_start}
use Rattle.rom_run.proofs.laws.from_any_start.Goals as goal

pub returns : goal.returns
returns c = from_any_start
