use Rattle.std.proofs.Common.{◌≡◌, ◌≤◌, ◌+◌, ℕ, length, drop}
use Rattle.asm_core.specs.Sources.{source_lines}
use Rattle.asm_core.specs.Told.{kept_before, told_2, IsEachOf}
use Rattle.asm_core.proofs.Cells.{entry}
use Rattle.asm_core.proofs.findings.pass_2.Given as goal

-- the lines that are left, the bytes of those before them, and what was told of these
abbrev pub invariant-loop-line : goal.invariant-loop-line
invariant-loop-line l = record {
  rest : source_lines l.rest ≡ drop l.number (source_lines l.fn.text);
  inside : l.number ≤ length (source_lines l.fn.text);
  count : length l.cells.items ≡ 65536;
  kept : (address : ℕ) → entry l.cells.items address ≡ kept_before l.fn.isa (source_lines l.fn.text) l.number address;
  told : IsEachOf (told_2 l.fn.isa (source_lines l.fn.text)) l.number l.findings.items;
  few : l.number + length l.rest ≤ length l.fn.text;
}

abbrev pub decreases-loop-line : goal.decreases-loop-line
decreases-loop-line l = length l.rest
