use Rattle.std.proofs.Common.{◌∙◌, refl}
use Rattle.game_check.specs.Closed.{instr_in}
use Rattle.game_check.proofs.checker.closed.instr_in.Goals as goal

pub returns : goal.returns
unfolding instr_in
returns c = c.read_instr.ensures ∙ rw (c.opcode_in.ensures.high, c.opcode_in.ensures.low) refl
