use Rattle.std.proofs.Common.{◌∙◌, ◌++◌, [], ap}
use Rattle.vip_tools.specs.Help.{note_line}
use Rattle.vip_tools.proofs.JoinLemmas.{all_joined, one_more}
use Rattle.vip_tools.proofs.pages.note_lines.Goals as goal

pub loop-note-preserved : goal.loop-note-preserved
loop-note-preserved c =
    c.in_ok-append.ensures
    ∙ (ap (λ note. c.loop-note.text.items ++ note_line note) c.as_bytes.ensures.value
    ∙ one_more (λ note. note_line note.now) [] c.args.notes.now c.loop-note.note-index c.loop-note.text.items _ c.loop-note.invariant
    c.loop-note-test.true)

pub returns : goal.returns
returns c =
    all_joined (λ note. note_line note.now) [] c.args.notes.now c.loop-note.note-index c.loop-note.text.items c.loop-note.invariant
    c.loop-note-test.false
