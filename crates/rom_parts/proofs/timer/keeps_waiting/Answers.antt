use Rattle.rom_parts.proofs.timer.Frame.{keeps_waiting}
use Rattle.rom_parts.proofs.timer.keeps_waiting.Goals as goal

pub returns : goal.returns
returns c = keeps_waiting
