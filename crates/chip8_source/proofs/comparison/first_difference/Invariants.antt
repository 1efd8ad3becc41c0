use Rattle.chip8_source.specs.Compared.{AgreesBelow}
use Rattle.asm_core.specs.Made.{made_byte}
use Rattle.chip8_source.proofs.comparison.first_difference.Given as goal

abbrev pub invariant-loop-address : goal.invariant-loop-address
invariant-loop-address l = AgreesBelow l.address (made_byte l.made) l.image
