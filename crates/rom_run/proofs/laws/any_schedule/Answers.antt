use Rattle.rom_run.proofs.Proved.{any_schedule}
use Rattle.rom_run.proofs.laws.any_schedule.Goals as goal

pub returns : goal.returns
returns c = any_schedule
