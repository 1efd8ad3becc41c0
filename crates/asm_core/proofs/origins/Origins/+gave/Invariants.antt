use Rattle.std.specs.Prelude.{length}
use Rattle.asm_core.proofs.origins.Origins.+gave.Given as goal

abbrev pub decreases-gave : goal.decreases-gave
decreases-gave l = length l.bytes.now
