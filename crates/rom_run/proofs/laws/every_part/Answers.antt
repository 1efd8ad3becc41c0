use Rattle.rom_run.proofs.Image.{parts}
use Rattle.rom_run.proofs.laws.every_part.Goals as goal

pub returns : goal.returns
returns c = λ p. (parts p).laws
