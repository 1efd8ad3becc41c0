use Rattle.std.proofs.Common.{◌+◌, ◌++◌, ◌∙◌, ℕ, List, Some, ap}
use Rattle.std.specs.Prelude.{codes}
use Rattle.asm_listing.specs.Told.{line_text, start_at, bytes_at}
use Rattle.asm_listing.proofs.Texts.{on_ok}
use Rattle.asm_listing.proofs.report_text.append_note.Goals as goal

pub returns : goal.returns
returns c = on_ok c.append_line.result (λ e.
    let line = c.args.line.now in
    let f : ℕ → List ℕ → List ℕ → List ℕ = λ start culprit remark.
    c.args.text.now.items ++ line_text c.args.name.now c.args.number (start + 1) (codes "note") culprit (Some remark) in
    e
    ∙ ap (λ start. f start c.bytes_at-instruction.result.now c.as_bytes.result.now) c.start_at-column.ensures.start
    ∙ ap (λ culprit. f (start_at line c.args.place) culprit c.as_bytes.result.now) c.bytes_at-instruction.ensures
    ∙ ap (f (start_at line c.args.place) (bytes_at line c.args.place)) c.as_bytes.ensures.value) c.append_line.ensures
