use Rattle.std.proofs.Common.{◌≡◌, ◌≤◌, ◌+◌, length, drop}
use Rattle.asm_core.specs.Sources.{source_lines}
use Rattle.asm_core.specs.Made.{value_at}
use Rattle.asm_core.specs.Labels.{labels_by, shown_labels}
use Rattle.asm_core.proofs.labels.Labels.of.Given as goal

-- the lines that are left, and the labels of those before them
abbrev pub invariant-loop-line : goal.invariant-loop-line
invariant-loop-line l = record {
  rest : source_lines l.rest ≡ drop l.index (source_lines l.fn.text);
  inside : l.index ≤ length (source_lines l.fn.text);
  list : shown_labels l.list.items ≡ labels_by (source_lines l.fn.text) (value_at l.made) l.index;
  few : l.index + length l.rest ≤ length l.fn.text;
}

abbrev pub decreases-loop-line : goal.decreases-loop-line
decreases-loop-line l = length l.rest
