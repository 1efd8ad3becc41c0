use Rattle.std.proofs.Common.{◌≡◌, ◌+◌, ◌<◌, ℕ, None}
use Rattle.asm_core.proofs.Cells.{entry}
use Rattle.asm_core.proofs.table.overlaps.Given as goal

-- no address so far has a byte
abbrev pub invariant-loop-offset : goal.invariant-loop-offset
invariant-loop-offset l = (k : ℕ) → k < l.offset → entry l.cells (l.at + k) ≡ None
