use Rattle.std.proofs.Common.{◌≡◌, ◌≤◌, ◌+◌, length, drop}
use Rattle.asm_core.specs.Sources.{source_lines}
use Rattle.asm_core.proofs.Surveys.{AreSurveyed}
use Rattle.asm_core.proofs.findings.pass_1.Given as goal

-- the lines that are left, and what was found of those before them
abbrev pub invariant-loop-line : goal.invariant-loop-line
invariant-loop-line l = record {
  rest : source_lines l.rest ≡ drop (length l.first.told.findings.items) (source_lines l.fn.text);
  inside : length l.first.told.findings.items ≤ length (source_lines l.fn.text);
  few : length l.first.told.findings.items + length l.rest ≤ length l.fn.text;
  surveyed : AreSurveyed l.fn.isa (source_lines l.fn.text) l.fn.with_notes (length l.first.told.findings.items) l.first l.at;
}

abbrev pub decreases-loop-line : goal.decreases-loop-line
decreases-loop-line l = length l.rest
