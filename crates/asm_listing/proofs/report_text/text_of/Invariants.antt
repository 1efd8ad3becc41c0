use Rattle.std.proofs.Common.{◌≡◌, ◌≤◌, ◌+◌, length, drop}
use Rattle.std.specs.Prelude.{flat_map}
use Rattle.std.specs.List.{range_with_len}
use Rattle.asm_core.specs.Sources.{source_lines, line_at}
use Rattle.asm_core.specs.Fixed.{fixed_names}
use Rattle.asm_core.specs.Told.{given_names, told, note_at}
use Rattle.asm_listing.specs.Told.{told_text}
use Rattle.asm_listing.proofs.report_text.text_of.Given as goal

-- the lines that are left, and the text of those before them
abbrev pub invariant-loop-line : goal.invariant-loop-line
invariant-loop-line l = record {
  rest : source_lines l.rest ≡ drop l.number (source_lines l.fn.text);
  inside : l.number ≤ length (source_lines l.fn.text);
  text : l.report.items ≡ flat_map (λ i. told_text l.fn.isa (given_names l.fn.isa (source_lines l.fn.text)) (fixed_names l.fn.isa (source_lines l.fn.text)) l.fn.part l.fn.name (i + 1) (line_at (source_lines l.fn.text) i) (told l.fn.isa (source_lines l.fn.text) i)
      (note_at l.fn.isa (source_lines l.fn.text) i)) (range_with_len 0 l.number);
  few : l.number + length l.rest ≤ length l.fn.text;
}

abbrev pub decreases-loop-line : goal.decreases-loop-line
decreases-loop-line l = length l.rest
