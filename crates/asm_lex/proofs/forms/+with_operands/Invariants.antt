use Rattle.std.proofs.Common.{length}
use Rattle.asm_lex.proofs.forms.+with_operands.Given as goal

abbrev pub decreases-with_operands : goal.decreases-with_operands
decreases-with_operands l = length l.due.now
