-- The words of a line, and short texts that others are made of. The lines of a text are std's `lines`: each part that ends with a newline,
-- without that newline and a carriage return directly before it, and what stands behind the last newline where it isn't empty.
use Rattle.std.specs.Prelude.{ℕ, ◌==◌, ◌||◌, Bool, true, false, not, List, [], ◌∷◌, length, filter, slice_index, codes}
use Rattle.std.specs.List.{slice_split}

-- a space or a tab
abbrev pub is_blank : ℕ → Bool
is_blank byte = (byte == 32) || (byte == 9)

-- what stands between blanks, and isn't empty
unfoldable pub words : List ℕ → List (List ℕ)
words line = filter (λ word. not (length word == 0)) (slice_split is_blank line)

-- the words of a line that says nothing: there are none, or it is a remark
abbrev pub is_silent : List (List ℕ) → Bool
is_silent [] = true
is_silent (first ∷ others) = slice_index first 0 == 35

-- the end of a line
abbrev pub newline : List ℕ
newline = 10 ∷ []

abbrev pub bit_text : Bool → List ℕ
bit_text true = codes "1"
bit_text false = codes "0"
