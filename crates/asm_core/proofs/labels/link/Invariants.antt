use Rattle.asm_core.specs.Labels.{shown_labels}
use Rattle.asm_core.proofs.Marking.{AreFoundFrom}
use Rattle.asm_core.proofs.labels.link.Given as goal

abbrev pub invariant-loop-place : goal.invariant-loop-place
invariant-loop-place l = AreFoundFrom (shown_labels l.list) l.first l.next l.place
