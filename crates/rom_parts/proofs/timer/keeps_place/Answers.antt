use Rattle.rom_parts.proofs.timer.Frame.{keeps_place}
use Rattle.rom_parts.proofs.timer.keeps_place.Goals as goal

pub returns : goal.returns
returns c = keeps_place
