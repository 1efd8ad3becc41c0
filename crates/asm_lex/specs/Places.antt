-- Where the parts of a line stand. A text without the blanks at its start begins at the text's end less its own length.
use Rattle.std.specs.Prelude.{◌+◌, ◌-◌, ◌==◌, ℕ, List, [], ◌∷◌, length, drop, take, if◌then◌else◌, Option, Some, None}
use Rattle.std.specs.List.{list_any, before_first, slice_split}
use Rattle.asm_lex.specs.declared.shape.Span.{Span}
use Rattle.asm_lex.specs.declared.shape.Place.{Place}
use Rattle.asm_lex.specs.Bytes.{is_colon, is_comma}
use Rattle.asm_lex.specs.Parts.{without_leading_blanks, trimmed, statement_of, word_of, behind_word}

-- the span of a text without its blanks at both ends, where the text ends at the place `end`
abbrev pub visible_from : ℕ → List ℕ → ℕ
visible_from end text = end - length (without_leading_blanks text)

abbrev pub visible_span : ℕ → List ℕ → Span
visible_span end text = record { from = visible_from end text; to = visible_from end text + length (trimmed text) }

-- the label of a line's code, its word, and where what stands behind the word begins
abbrev pub label_span : List ℕ → Option Span
label_span code =
    if list_any is_colon code then
    Some (record { from = visible_from (length (before_first is_colon code)) (before_first is_colon code); to = length (before_first is_colon code) })
    else None

abbrev pub word_span : List ℕ → Span
word_span code = record { from = length code - length (statement_of code); to = length code - length (statement_of code) + length (word_of (statement_of code)) }

abbrev pub behind_span : List ℕ → Span
behind_span code = visible_span (length code) (drop (length (word_of (statement_of code))) (statement_of code))

-- the operands in what stands behind the word, which begins at the place `from`: they are parted by one byte each
abbrev pub part_spans : ℕ → List (List ℕ) → List Span
part_spans from [] = []
part_spans from (part ∷ parts) = visible_span (from + length part) part ∷ part_spans (from + length part + 1) parts

abbrev pub spans_in : ℕ → List ℕ → List Span
spans_in from text = if length text == 0 then [] else part_spans from (slice_split is_comma text)

-- the operands of a line's code, of which no word takes more than 128
abbrev pub operand_spans : List ℕ → List Span
operand_spans code = take 128 (spans_in (behind_span code).from (behind_word (statement_of code)))

abbrev pub place_of : Span → Place
place_of span = record { from = span.from; to = span.to }
