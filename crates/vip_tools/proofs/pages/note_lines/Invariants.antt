use Rattle.std.proofs.Common.{◌≡◌, take}
use Rattle.std.specs.List.{flat_map}
use Rattle.vip_tools.specs.Help.{note_line}
use Rattle.vip_tools.proofs.pages.note_lines.Given as goal

-- the lines of the notes that were gone through
abbrev pub invariant-loop-note : goal.invariant-loop-note
invariant-loop-note l = l.text.items ≡ flat_map (λ note. note_line note.now) (take l.note-index l.notes)
