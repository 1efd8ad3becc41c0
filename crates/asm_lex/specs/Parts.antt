-- The parts of a source line: what stands before the comment is an optional label, then an optional word, then operands.
use Rattle.std.specs.Prelude.{◌==◌, ◌-◌, ℕ, List, [], length, take, drop, map, if◌then◌else◌, Option, Some, None}
use Rattle.std.specs.List.{list_any, before_first, after_first, prefix_len, suffix_len, slice_split}
use Rattle.vip_byte.specs.Text.{is_blank}
use Rattle.asm_lex.specs.Bytes.{is_semicolon, is_colon, is_comma}

-- a text without the blanks at its start, at its end, and at both
unfoldable pub without_leading_blanks : List ℕ → List ℕ
without_leading_blanks text = drop (prefix_len is_blank text) text

unfoldable pub without_trailing_blanks : List ℕ → List ℕ
without_trailing_blanks text = take (length text - suffix_len is_blank text) text

abbrev pub trimmed : List ℕ → List ℕ
trimmed text = without_trailing_blanks (without_leading_blanks text)

-- what stands before the comment
abbrev pub code_of : List ℕ → List ℕ
code_of line = before_first is_semicolon line

-- where the code has a colon, what stands before the first one is the label, the blanks at the line's start aside
abbrev pub label_of : List ℕ → Option (List ℕ)
label_of code = if list_any is_colon code then Some (without_leading_blanks (before_first is_colon code)) else None

-- the word and its operands
abbrev pub statement_of : List ℕ → List ℕ
statement_of code = without_leading_blanks (if list_any is_colon code then after_first is_colon code else code)

-- the word is what stands up to the first blank
abbrev pub word_of : List ℕ → List ℕ
word_of statement = before_first is_blank statement

-- what stands behind the word
abbrev pub behind_word : List ℕ → List ℕ
behind_word statement = trimmed (drop (length (word_of statement)) statement)

-- the operands are parted by commas, with blanks around them at will
unfoldable pub operands_in : List ℕ → List (List ℕ)
operands_in text = if length text == 0 then [] else map trimmed (slice_split is_comma text)
