use Rattle.std.proofs.Common.{◌≡◌, ◌≤◌, ◌+◌, ℕ, List, length, drop}
use Rattle.asm_lex.specs.Names.{value_in}
use Rattle.asm_core.specs.Fixed.{fixed_before}
use Rattle.asm_core.specs.Sources.{source_lines}
use Rattle.asm_core.proofs.fixed.fixed_names.Given as goal

-- the lines that are left, and the names of those before them
abbrev pub invariant-loop-line : goal.invariant-loop-line
invariant-loop-line l = record {
  rest : source_lines l.rest ≡ drop l.number (source_lines l.fn.text);
  inside : l.number ≤ length (source_lines l.fn.text);
  fixed : (name : List ℕ) → value_in l.names name ≡ fixed_before l.fn.isa (source_lines l.fn.text) l.number name;
  few : l.number + length l.rest ≤ length l.fn.text;
}

abbrev pub decreases-loop-line : goal.decreases-loop-line
decreases-loop-line l = length l.rest
