use Rattle.rom_parts.proofs.keys.Presses.{counts_on}
use Rattle.rom_parts.proofs.keys.counts.Goals as goal

pub returns : goal.returns
returns c = counts_on
