-- What a source gave each address is what it was assembled to.
use Rattle.std.proofs.Common.{◌≡◌, ◌≤◌, ◌∙◌, ap, append_assoc, arith, inl, inr, ℕ, List, [], ◌∷◌, ◌++◌, length, map, None, Option}
use Rattle.std.proofs.lemmas.Bool.{cases_lt}
use Rattle.std.proofs.lemmas.List.{get_or_past, map-append}
use Rattle.std.proofs.lemmas.List.FromFn.{fill_by_all}
use Rattle.asm_lex.specs.Parts.{trimmed}
use Rattle.asm_lex.specs.declared.shape.Isa.{Isa}
use Rattle.asm_core.specs.declared.line_text.LineText.{LineText}
use Rattle.asm_core.specs.declared.table.Cell.{Cell}
use Rattle.asm_core.specs.Labels.{labels_of}
use Rattle.asm_core.specs.Made.{Made, IsAssembly}
use Rattle.asm_core.specs.Origins.{cells_of, origins_of, shown_texts, told_origins_of}
use Rattle.asm_core.specs.Sources.{cell_before, line_at}
use Rattle.asm_core.proofs.Marking.{short-line}

module _ (isa : Isa) (source : List (List ℕ)) (made : Made) (is : IsAssembly isa source made) (count : length made.cells ≡ 65536) where
  cells_are : made.cells ≡ cells_of isa source
  cells_are = fill_by_all (cell_before isa source (length source)) made.cells 65536 None count (λ address low. is.cells address low)

  pub made-origins : (labels : List (ℕ × List ℕ)) (cells : List (Option Cell)) (texts : List (List ℕ)) → labels ≡ labels_of isa source → cells ≡ made.cells
      → texts ≡ [] → record { labels = labels; cells = cells; texts = texts } ≡ origins_of isa source
  made-origins labels cells texts labelled given none = λ i. record { labels = labelled i; cells = (given ∙ cells_are) i; texts = none i }

  pub made-told : (labels : List (ℕ × List ℕ)) (cells : List (Option Cell)) (texts : List (List ℕ)) → labels ≡ labels_of isa source → cells ≡ made.cells
      → texts ≡ map trimmed source → record { labels = labels; cells = cells; texts = texts } ≡ told_origins_of isa source
  made-told labels cells texts labelled given told = λ i. record { labels = labelled i; cells = (given ∙ cells_are) i; texts = told i }

-- each line of a source without a fault is short
pub all-short : (isa : Isa) (source : List (List ℕ)) (made : Made) → IsAssembly isa source made → (i : ℕ) → length (line_at source i) ≤ 255
all-short isa source made is i = elim (cases_lt i (length source)) [
  | inl below ↦ short-line isa source i (is.no_fault_1 i below)
  | inr past ↦ omega (arith, ap length (get_or_past source i [] past))
]

-- the text of a line more
pub one-told : (texts : List LineText) (text : LineText) (line : List ℕ) (more all : List (List ℕ)) → text.bytes.items ≡ trimmed line
    → shown_texts texts ++ map trimmed (line ∷ more) ≡ all → shown_texts (texts ++ text ∷ []) ++ map trimmed more ≡ all
one-told texts text line more all here before =
    ap (λ shown. shown ++ map trimmed more) (map-append (λ text. text.bytes.items) texts (text ∷ []))
    ∙ append_assoc (shown_texts texts) (text.bytes.items ∷ []) (map trimmed more)
    ∙ ap (λ here. shown_texts texts ++ here ∷ map trimmed more) here ∙ before
