use Rattle.std.proofs.Common.{refl}
use Rattle.asm_lex.specs.Bytes.{has_long_name}
use Rattle.asm_lex.proofs.text.has_long_name.Goals as goal

pub loop-rest-init : goal.loop-rest-init
unfolding has_long_name
loop-rest-init c = refl
