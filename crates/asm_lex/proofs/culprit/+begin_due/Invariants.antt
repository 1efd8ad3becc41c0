use Rattle.std.proofs.Common.{length}
use Rattle.asm_lex.proofs.culprit.+begin_due.Given as goal

abbrev pub decreases-begin_due : goal.decreases-begin_due
decreases-begin_due l = length l.due.now
