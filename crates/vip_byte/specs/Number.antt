-- Numbers in text. std's `is_digit byte base` says that a byte is a digit of the base, with letters of either case, and
-- std's `digits_value base text` is the number that the digits write, the highest first.
use Rattle.std.specs.Prelude.{◌==◌, ℕ, List, length, Bool, not, if◌then◌else◌, nat_lt, Result, Ok, Err}
use Rattle.std.specs.Char.{is_digit}
use Rattle.std.specs.List.{list_all}
use Rattle.std.specs.Str.Parse.{digits_value}
use Rattle.vip_byte.specs.declared.number.NumFault.{NumFault}
use Rattle.vip_byte.specs.declared.number.NumFault.TheVariants.{Empty, BadDigit, TooLarge}

-- every byte of the text is a digit of the base
abbrev pub are_digits : ℕ → List ℕ → Bool
are_digits base text = list_all (λ byte. is_digit byte base) text

-- a number in a base that is at most `most`, or the first reason why the text is none
unfoldable pub number : ℕ → List ℕ → ℕ → Result ℕ NumFault
number base text most =
    if length text == 0 then Err Empty
    else if not (are_digits base text) then Err BadDigit
    else if nat_lt most (digits_value base text) then Err TooLarge
    else Ok (digits_value base text)

-- a decimal number that is at most `most`, or why the text is none
abbrev pub decimal_number : List ℕ → ℕ → Result ℕ NumFault
decimal_number text most = number 10 text most

-- a hexadecimal number that is at most `most`, or why the text is none
abbrev pub hex_number : List ℕ → ℕ → Result ℕ NumFault
hex_number text most = number 16 text most

-- the greatest machine cycle that a text or the command line may name, which every limit of a run keeps to (this project's profile)
abbrev pub most_cycles : ℕ
most_cycles = 4_000_000_000
