use Rattle.rom_run.proofs.Changes.{writes_soon}
use Rattle.rom_run.proofs.laws.writes_soon.Goals as goal

pub returns : goal.returns
returns c = writes_soon
