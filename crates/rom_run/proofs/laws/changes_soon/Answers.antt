use Rattle.rom_run.proofs.Changes.{changes_soon}
use Rattle.rom_run.proofs.laws.changes_soon.Goals as goal

pub returns : goal.returns
returns c = changes_soon
