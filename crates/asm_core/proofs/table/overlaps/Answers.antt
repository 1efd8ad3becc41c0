use Rattle.std.proofs.Common.{◌∙◌, arith, sym}
use Rattle.asm_core.proofs.Cells.{overlaps-at, overlaps-none}
use Rattle.asm_core.proofs.table.overlaps.Goals as goal

pub returns-then-is_some : goal.returns-then-is_some
returns-then-is_some c =
    sym (overlaps-at c.args.cells.now c.args.at c.args.count c.loop-offset.offset c.loop-offset-test.true (sym c.is_some.ensures ∙ c.if-is_some.true))

pub returns : goal.returns
returns c =
    sym (overlaps-none c.args.cells.now c.args.at c.args.count (λ k below. c.loop-offset.invariant k (omega (arith, c.loop-offset-test.false))))
