use Rattle.std.proofs.Common.{◌≡◌, ◌∙◌, sym, ap, length, true, false}
use Rattle.asm_lex.specs.Names.{value_in}
use Rattle.asm_core.specs.Bytes.{bytes_in}
use Rattle.asm_core.specs.Sources.{overlaps}
use Rattle.asm_core.specs.Told.{finding_2}
use Rattle.asm_core.proofs.Cells.{entry}
use Rattle.asm_core.proofs.Surveys.{puts-overlap, puts-bytes, placed}
use Rattle.asm_core.proofs.findings.put_line.Goals as goal

pub returns-then-overlaps-clause-told : goal.returns-then-overlaps-clause-told
returns-then-overlaps-clause-told c = λ earlier reads.
    let old = c.args.cells.now.items in
    let bytes = bytes_in c.in-Ok.bytes in
    let taken : overlaps (entry old) c.args.plan.at (length bytes) ≡ true =
    ap (λ cells. overlaps (entry cells) c.args.plan.at (length bytes)) (sym c.as_slice.ensures.value)
    ∙ ap (λ count. overlaps (entry c.as_slice.result.now) c.args.plan.at count) (sym c.byte_count.ensures)
    ∙ sym c.overlaps.ensures ∙ c.if-overlaps.true in
    puts-overlap (finding_2 c.args.isa (value_in c.args.names.now) c.args.plan.at c.args.plan.word c.args.line.now) old c.args.number c.args.plan.at _ bytes
    c.finding_2-then-overlaps.result (c.in-Ok.ensures earlier reads) taken c.finding_2-then-overlaps.ensures

pub returns-clause-told : goal.returns-clause-told
returns-clause-told c = λ earlier reads.
    let old = c.args.cells.now.items in
    let bytes = bytes_in c.in-Ok.bytes in
    let free : overlaps (entry old) c.args.plan.at (length bytes) ≡ false =
    ap (λ cells. overlaps (entry cells) c.args.plan.at (length bytes)) (sym c.as_slice.ensures.value)
    ∙ ap (λ count. overlaps (entry c.as_slice.result.now) c.args.plan.at count) (sym c.byte_count.ensures)
    ∙ sym c.overlaps.ensures ∙ c.if-overlaps.false in
    puts-bytes (finding_2 c.args.isa (value_in c.args.names.now) c.args.plan.at c.args.plan.word c.args.line.now) old c.place.new.cells.items c.args.number c.args.plan.at _ bytes
    (c.in-Ok.ensures earlier reads) free (placed c.place.result (overlaps (entry old) c.args.plan.at (length bytes)) c.place.ensures.placed free)
