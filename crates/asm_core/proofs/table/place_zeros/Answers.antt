use Rattle.std.proofs.Common.{arith, sym, subst, ◌+◌, List, Option, ℕ}
use Rattle.std.specs.Prelude.{replicate}
use Rattle.std.proofs.lemmas.Bool.{MatchBool-at_true, MatchBool-at_false}
use Rattle.std.proofs.lemmas.List.{length-replicate, get_or-replicate}
use Rattle.asm_core.specs.declared.table.Cell.{Cell}
use Rattle.asm_core.proofs.Cells.{Holds, holds_more, holds_all, holds_overlap}
use Rattle.asm_core.proofs.table.place_zeros.Goals as goal

pub returns-then-not-place_byte-clause-placed : goal.returns-then-not-place_byte-clause-placed
returns-then-not-place_byte-clause-placed c =
    holds_overlap c.args.cells.now.items c.loop-offset.cells.items c.args.line c.args.at
    (replicate c.args.count 0) c.loop-offset.offset c.loop-offset.invariant (omega (arith, length-replicate {A = ℕ} c.args.count 0))
    (MatchBool-at_false _ _ c.if-not-place_byte.true c.place_byte.ensures.placed).0

pub loop-offset-preserved : goal.loop-offset-preserved
loop-offset-preserved c =
    let done = MatchBool-at_true _ _ c.if-not-place_byte.false c.place_byte.ensures.placed in
    let P : List (Option Cell) → Type 0 =
    λ cells. Holds c.args.cells.now.items cells c.args.line c.args.at (replicate c.args.count 0) (c.loop-offset.offset + 1) in
    subst P (sym done.1) (holds_more c.args.cells.now.items c.loop-offset.cells.items c.args.line c.args.at
    (replicate c.args.count 0) c.loop-offset.offset 0 c.loop-offset.invariant
    (omega (arith, length-replicate {A = ℕ} c.args.count 0)) (omega (arith, length-replicate {A = ℕ} c.args.count 0))
    (sym (get_or-replicate c.args.count c.loop-offset.offset 0 0 (omega arith))) done.0)

pub returns-clause-placed : goal.returns-clause-placed
returns-clause-placed c =
    holds_all c.args.cells.now.items c.loop-offset.cells.items c.args.line c.args.at
    (replicate c.args.count 0) c.loop-offset.offset c.loop-offset.invariant (omega (arith, length-replicate {A = ℕ} c.args.count 0))
