-- Expressions: an optional prefix `<` or `>`, then terms joined by `+` and `-`.
use Rattle.std.specs.Prelude.{◌==◌, ◌&&◌, ◌||◌, ◌+ℤ◌, ◌-ℤ◌, ℕ, ℤ, pos, nat_abs, int_le, ◌/◌, ◌%◌, Bool, List, [], ◌∷◌, length, drop, filter, fold, zip, slice_index, nat_lt, false, if◌then◌else◌, Option, Some, None, unwrap_or, is_some, is_none, Result, Ok, Err}
use Rattle.std.specs.Option.{option_map_or}
use Rattle.std.specs.Str.{bytes_eq}
use Rattle.std.specs.List.{list_all, list_any, slice_split}
use Rattle.std.specs.Str.Parse.{digits_value}
use Rattle.vip_byte.specs.Number.{are_digits}
use Rattle.asm_lex.specs.Bytes.{is_name}
use Rattle.asm_lex.specs.declared.shape.Isa.{Isa}
use Rattle.asm_lex.specs.declared.shape.Isa.TheVariants.{Cdp1802, Chip8}
use Rattle.asm_lex.specs.declared.shape.ValueFault.{ValueFault}
use Rattle.asm_lex.specs.declared.shape.ValueFault.TheVariants.{Undefined, Range}

-- the signs are `+` and `-`, the prefixes `<` and `>`
abbrev pub is_sign : ℕ → Bool
is_sign byte = (byte == 43) || (byte == 45)

abbrev pub is_prefix : ℕ → Bool
is_prefix byte = (byte == 60) || (byte == 62)

-- an expression without its prefix
unfoldable pub sum_in : List ℕ → List ℕ
sum_in text = if is_prefix (slice_index text 0) then drop 1 text else text

-- the terms of a sum
abbrev pub terms_of : List ℕ → List (List ℕ)
terms_of sum = slice_split is_sign sum

-- each term with the sign before it, where `first` is the sign before the first
abbrev pub signed_terms : ℕ → List ℕ → List (ℕ × List ℕ)
signed_terms first sum = zip (first ∷ filter is_sign sum) (terms_of sum)

-- the number that digits of a base write; none where a byte is no such digit, or there is none
unfoldable pub number_in : ℕ → List ℕ → Option ℕ
number_in base digits = if nat_lt 0 (length digits) && are_digits base digits then Some (digits_value base digits) else None

-- a hexadecimal number is `0x` and its digits
abbrev pub hexadecimal_of : List ℕ → Option ℕ
hexadecimal_of [] = None
hexadecimal_of (nought ∷ []) = None
hexadecimal_of (nought ∷ x ∷ digits) = if (nought == 48) && (x == 120) then number_in 16 digits else None

-- a binary number is `0b` and its digits; CHIP-8 alone has them
abbrev pub binary_of : Isa → List ℕ → Option ℕ
binary_of Cdp1802 term = None
binary_of Chip8 [] = None
binary_of Chip8 (nought ∷ []) = None
binary_of Chip8 (nought ∷ b ∷ digits) = if (nought == 48) && (b == 98) then number_in 2 digits else None

-- the value of a number, decimal, hexadecimal or binary
unfoldable pub written_value : Isa → List ℕ → Option ℕ
written_value isa term =
    if is_some (number_in 10 term) then number_in 10 term
    else if is_some (hexadecimal_of term) then hexadecimal_of term
    else binary_of isa term

-- `$` is the address at which the line begins
unfoldable pub is_here : List ℕ → Bool
is_here term = bytes_eq term (36 ∷ [])

-- a term is a number, `$` or a name
abbrev pub is_term : Isa → List ℕ → Bool
is_term isa term = is_some (written_value isa term) || (is_here term || is_name isa term)

unfoldable pub is_expression : Isa → List ℕ → Bool
is_expression isa text = list_all (is_term isa) (terms_of (sum_in text))

-- a number above 65535 is written in the text
abbrev pub is_large : Isa → List ℕ → Bool
is_large isa term = option_map_or (λ number. nat_lt 65535 number) (written_value isa term) false

unfoldable pub has_large_number : Isa → List ℕ → Bool
has_large_number isa text = list_any (is_large isa) (terms_of (sum_in text))

-- the value of a term, where `names` gives the values of names; none for a name without a value
unfoldable pub term_value : Isa → (List ℕ → Option ℕ) → ℕ → List ℕ → Option ℕ
term_value isa names here term =
    if is_some (written_value isa term) then written_value isa term
    else if is_here term then Some here
    else names term

-- a name without a value stands in the text
abbrev pub has_undefined : Isa → (List ℕ → Option ℕ) → ℕ → List ℕ → Bool
has_undefined isa names here text = list_any (λ term. is_none (term_value isa names here term)) (terms_of (sum_in text))

-- the sum so far and one more term, with the sign before it
abbrev pub with_term : Isa → (List ℕ → Option ℕ) → ℕ → ℤ → ℕ × List ℕ → ℤ
with_term isa names here sum signed =
    let value = pos (unwrap_or (term_value isa names here signed.1) 0) in
    if signed.0 == 45 then sum -ℤ value else sum +ℤ value

-- the terms are taken from left to right
unfoldable pub sum_of : Isa → (List ℕ → Option ℕ) → ℕ → List ℕ → ℤ
sum_of isa names here text = fold (with_term isa names here) (pos 0) (signed_terms 43 (sum_in text))

-- the value is the sum, with `<` its low byte, and with `>` its high byte; under a prefix the sum must lie in 0 to 65535
abbrev pub prefixed : ℕ → ℤ → Result ℤ ValueFault
prefixed prefix sum =
    if is_prefix prefix then
    (if int_le (pos 0) sum && int_le sum (pos 65535) then Ok (pos (if prefix == 60 then nat_abs sum % 256 else nat_abs sum / 256)) else Err Range)
    else Ok sum

-- the value of an expression of a line that begins at the address `here`, or the first fault
unfoldable pub value_of : Isa → (List ℕ → Option ℕ) → ℕ → List ℕ → Result ℤ ValueFault
value_of isa names here text =
    if has_undefined isa names here text then Err Undefined
    else if has_large_number isa text then Err Range
    else prefixed (slice_index text 0) (sum_of isa names here text)
