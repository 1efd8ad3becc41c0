use Rattle.std.specs.Prelude.{replicate}
use Rattle.asm_core.proofs.Cells.{Holds}
use Rattle.asm_core.proofs.table.place_zeros.Given as goal

abbrev pub invariant-loop-offset : goal.invariant-loop-offset
invariant-loop-offset l = Holds l.fn.cells.items l.cells.items l.line l.at (replicate l.count 0) l.offset
