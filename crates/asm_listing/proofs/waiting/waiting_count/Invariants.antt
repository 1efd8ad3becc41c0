use Rattle.std.proofs.Common.{◌≡◌, ◌≤◌, ◌+◌, length, drop}
use Rattle.asm_core.specs.Sources.{source_lines}
use Rattle.asm_listing.specs.Told.{has_told_before, waiting_count}
use Rattle.asm_listing.proofs.waiting.waiting_count.Given as goal

-- the lines that are left, and the count of those before them
abbrev pub invariant-loop-line : goal.invariant-loop-line
invariant-loop-line l = record {
  rest : source_lines l.rest ≡ drop l.number (source_lines l.fn.text);
  inside : l.number ≤ length (source_lines l.fn.text);
  behind : l.behind ≡ has_told_before l.fn.isa (source_lines l.fn.text) l.number;
  count : l.count ≡ waiting_count l.fn.isa (source_lines l.fn.text) l.number;
  most : l.count ≤ l.number;
  few : l.number + length l.rest ≤ length l.fn.text;
}

abbrev pub decreases-loop-line : goal.decreases-loop-line
decreases-loop-line l = length l.rest
