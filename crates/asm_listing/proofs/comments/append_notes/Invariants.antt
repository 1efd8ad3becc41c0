use Rattle.std.proofs.Common.{◌≡◌, ◌++◌}
use Rattle.std.specs.Prelude.{flat_map}
use Rattle.std.specs.List.{range_with_len}
use Rattle.asm_listing.specs.Told.{note_at_byte}
use Rattle.asm_listing.proofs.comments.append_notes.Given as goal

-- the notes of the bytes so far
abbrev pub invariant-loop-place : goal.invariant-loop-place
invariant-loop-place l =
    l.text.items ≡ l.fn.text.items ++ flat_map (note_at_byte l.isa l.name l.number l.line) (range_with_len 0 l.place)
