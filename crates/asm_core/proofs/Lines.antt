-- The lines of a source, one after another.
use Rattle.std.proofs.Common.{◌≡◌, ◌+◌, ◌<◌, ℕ, zero, suc, refl, List, [], ◌∷◌, length, take, drop, ◌∙◌, ap, arith, false}
use Rattle.std.specs.Prelude.{◌==◌}
use Rattle.std.specs.List.{slice_split, position_or_len}
use Rattle.std.specs.Str.Lines.{lines_of_parts, strip_carriage_return}
use Rattle.std.proofs.lemmas.List.Splits.{slice_split_none, slice_split_first, length-slice_split}
use Rattle.std.proofs.lemmas.List.Sums.{fails_before_first}
use Rattle.std.proofs.lemmas.Bool.{cond-false, ne_eqb}
use Rattle.asm_core.specs.Cuts.{is_newline}
use Rattle.asm_core.specs.Sources.{source_lines}

pub source_lines-empty : source_lines [] ≡ []
unfolding source_lines
source_lines-empty = refl

-- a last line without a newline
pub source_lines-last : (text : List ℕ) → position_or_len is_newline text ≡ length text → 0 < length text → source_lines text ≡ text ∷ []
unfolding source_lines
source_lines-last text e there =
    ap lines_of_parts (slice_split_none is_newline text (λ k d below. fails_before_first is_newline text k d (omega (arith, e))))
    ∙ cond-false (length text == 0) [] (text ∷ []) (ne_eqb (length text) 0 (λ h. omega arith))

more_parts : (first : List ℕ) (parts : List (List ℕ)) → 0 < length parts → lines_of_parts (first ∷ parts) ≡ strip_carriage_return first ∷ lines_of_parts parts
more_parts first [] there = absurd (omega arith)
more_parts first (part ∷ parts) there = refl

-- a line that ends with a newline
pub source_lines-next : (text : List ℕ) → position_or_len is_newline text < length text
    → source_lines text ≡ strip_carriage_return (take (position_or_len is_newline text) text) ∷ source_lines (drop (position_or_len is_newline text + 1) text)
unfolding source_lines
source_lines-next text below =
    ap lines_of_parts (slice_split_first is_newline text 0 below)
    ∙ more_parts _ (slice_split is_newline (drop (position_or_len is_newline text + 1) text))
    (omega (arith, length-slice_split is_newline (drop (position_or_len is_newline text + 1) text)))

pub there_from : (n : ℕ) → (n == 0) ≡ false → 0 < n
there_from zero e = absurd (cc)
there_from (suc n) e = omega arith
