-- The hexadecimal digits of bytes and words. `upper_digits` of the kit's `hex` are the sixteen digits, with upper-case
-- letters.
use Rattle.std.specs.Prelude.{ℕ, ◌/◌, ◌%◌, List, [], ◌∷◌, ◌++◌, flat_map, slice_index}
use Rattle.hex.specs.Hex.{upper_digits}

-- the digit of a number below 16
abbrev pub hex_digit : ℕ → ℕ
hex_digit number = slice_index upper_digits number

-- the two digits of a byte, the highest first
abbrev pub hex2 : ℕ → List ℕ
hex2 byte = hex_digit (byte / 16) ∷ hex_digit (byte % 16) ∷ []

-- the four digits of a word, the highest first
abbrev pub hex4 : ℕ → List ℕ
hex4 word = hex2 (word / 256) ++ hex2 (word % 256)

-- the two digits of each byte, and the four of each word, behind a blank
abbrev pub bytes_text : List ℕ → List ℕ
bytes_text = flat_map (λ byte. 32 ∷ hex2 byte)

abbrev pub words_text : List ℕ → List ℕ
words_text = flat_map (λ word. 32 ∷ hex4 word)
