use Rattle.std.proofs.Common.{◌≡◌, ◌≤◌, ◌+◌, length, drop}
use Rattle.asm_core.specs.Sources.{source_lines}
use Rattle.asm_listing.specs.Told.{octo_count}
use Rattle.asm_listing.proofs.report_text.octo_count.Given as goal

-- the lines that are left, and the count of those before them
abbrev pub invariant-loop-line : goal.invariant-loop-line
invariant-loop-line l = record {
  rest : source_lines l.rest ≡ drop l.number (source_lines l.fn.text);
  inside : l.number ≤ length (source_lines l.fn.text);
  count : l.count ≡ octo_count l.fn.isa (source_lines l.fn.text) l.number;
  most : l.count ≤ l.number;
  few : l.number + length l.rest ≤ length l.fn.text;
}

abbrev pub decreases-loop-line : goal.decreases-loop-line
decreases-loop-line l = length l.rest
