-- Texts in columns.
use Rattle.std.specs.Prelude.{ℕ, ◌-◌, List, [], ◌∷◌, ◌++◌, length, replicate}
use Rattle.vip_byte.specs.HexText.{hex_digit}

-- a text at the left of a column of so many characters, and one at its right
abbrev pub left : ℕ → List ℕ → List ℕ
left width text = text ++ replicate (width - length text) 32

abbrev pub right : ℕ → List ℕ → List ℕ
right width text = replicate (width - length text) 32 ++ text

-- a number below 16
abbrev pub digit : ℕ → List ℕ
digit number = hex_digit number ∷ []
