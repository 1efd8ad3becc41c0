use Rattle.asm_core.proofs.Cells.{Holds}
use Rattle.asm_core.proofs.table.place_bytes.Given as goal

abbrev pub invariant-loop-offset : goal.invariant-loop-offset
invariant-loop-offset l = Holds l.fn.cells.items l.cells.items l.line l.at l.bytes l.offset
