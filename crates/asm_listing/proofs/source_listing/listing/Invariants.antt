use Rattle.std.proofs.Common.{◌≡◌, ◌≤◌, ◌+◌, length, drop}
use Rattle.asm_core.specs.Sources.{source_lines}
use Rattle.asm_listing.specs.Listing.{lines_text}
use Rattle.asm_listing.proofs.source_listing.listing.Given as goal

-- the lines that are left, and the text of those before them
abbrev pub invariant-loop-line : goal.invariant-loop-line
invariant-loop-line l = record {
  rest : source_lines l.rest ≡ drop l.index (source_lines l.fn.text);
  inside : l.index ≤ length (source_lines l.fn.text);
  text : l.list.items ≡ lines_text l.fn.isa (source_lines l.fn.text) l.index;
  few : l.index + length l.rest ≤ length l.fn.text;
}

abbrev pub decreases-loop-line : goal.decreases-loop-line
decreases-loop-line l = length l.rest
