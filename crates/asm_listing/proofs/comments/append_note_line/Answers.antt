use Rattle.std.proofs.Common.{◌++◌, ◌∙◌, Some, ap}
use Rattle.std.specs.Prelude.{codes}
use Rattle.asm_listing.specs.Told.{line_text}
use Rattle.asm_listing.proofs.Texts.{on_ok}
use Rattle.asm_listing.proofs.comments.append_note_line.Goals as goal

pub returns : goal.returns
returns c = on_ok c.append_line.result (λ e.
    e
    ∙ ap (λ remark. c.args.text.now.items ++ line_text c.args.name.now c.args.number c.args.column (codes "note") c.args.words.now (Some remark))
    c.as_bytes.ensures.value) c.append_line.ensures
