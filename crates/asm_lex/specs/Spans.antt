-- Spans of a line.
use Rattle.std.specs.Prelude.{◌≤◌, ℕ, List, [], ◌∷◌, length, slice_range, All}
use Rattle.asm_lex.specs.declared.shape.Span.{Span}

-- the bytes of a line in a span
abbrev pub text_at : List ℕ → Span → List ℕ
text_at line span = slice_range line span.from span.to

-- a span lies in a line
pub record IsWithin (line : List ℕ) (span : Span) : Type 0 where
  pub in_order : span.from ≤ span.to
  pub inside : span.to ≤ length line

abbrev pub AreWithin : List ℕ → List Span → Type 0
AreWithin line spans = All (IsWithin line) spans

-- spans stand in order between two places
abbrev pub AreInOrder : ℕ → List Span → ℕ → Type 0
AreInOrder start [] end = start ≤ end
AreInOrder start (span ∷ spans) end = (start ≤ span.from) × (span.from ≤ span.to) × AreInOrder span.to spans end
