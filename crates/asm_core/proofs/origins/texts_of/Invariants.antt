use Rattle.std.specs.Prelude.{◌≡◌, ◌≤◌, ◌++◌, ℕ, length, map}
use Rattle.asm_lex.specs.Parts.{trimmed}
use Rattle.asm_core.specs.Origins.{shown_texts}
use Rattle.asm_core.specs.Sources.{line_at, source_lines}
use Rattle.asm_core.proofs.origins.texts_of.Given as goal

-- the texts of the lines before those that are left, which are short
abbrev pub invariant-loop-line : goal.invariant-loop-line
invariant-loop-line l = record {
  texts : shown_texts l.texts.items ++ map trimmed (source_lines l.rest) ≡ map trimmed (source_lines l.fn.text);
  short : (i : ℕ) → length (line_at (source_lines l.rest) i) ≤ 255;
}

abbrev pub decreases-loop-line : goal.decreases-loop-line
decreases-loop-line l = length l.rest
