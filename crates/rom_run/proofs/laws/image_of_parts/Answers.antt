use Rattle.rom_run.proofs.Together.{image_of_parts}
use Rattle.rom_run.proofs.laws.image_of_parts.Goals as goal

pub returns : goal.returns
returns c = image_of_parts
