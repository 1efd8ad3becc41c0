-- What is left of a sum while its terms are taken: a sign and the terms behind it, or nothing.
use Rattle.std.specs.Prelude.{◌+◌, ℕ, List, [], length, Option, Some, None, option_map}
use Rattle.std.specs.Borrow.{Bor}
use Rattle.asm_lex.specs.Expressions.{terms_of, signed_terms}

abbrev pub left : Option (ℕ × Bor (List ℕ)) → Option (ℕ × List ℕ)
left rest = option_map (λ rest. (rest.0, rest.1.now)) rest

abbrev pub left_terms : Option (ℕ × List ℕ) → List (List ℕ)
left_terms None = []
left_terms (Some rest) = terms_of rest.1

abbrev pub left_signed : Option (ℕ × List ℕ) → List (ℕ × List ℕ)
left_signed None = []
left_signed (Some rest) = signed_terms rest.0 rest.1

abbrev pub left_length : Option (ℕ × List ℕ) → ℕ
left_length None = 0
left_length (Some rest) = length rest.1 + 1
