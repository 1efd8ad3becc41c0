-- What to write in place of a culprit that is a habit of other assemblers.
use Rattle.std.specs.Prelude.{◌+◌, ◌-◌, ◌*◌, ◌%◌, ◌==◌, ◌&&◌, ◌||◌, ℕ, Bool, true, false, List, [], ◌∷◌, ◌++◌, length, take, drop, find, fold, flat_map, codes, slice_index, slice_get, min, nat_le, nat_lt, if◌then◌else◌, Option, None, Some, is_some, option_map, option_and_then, unwrap_or}
use Rattle.std.specs.List.{list_all, list_any}
use Rattle.std.specs.Option.{option_map_or, option_or}
use Rattle.std.specs.Str.{str_eq_ignore_ascii_case, str_to_ascii_lowercase, str_to_ascii_uppercase}
use Rattle.std.specs.Char.{is_ascii_digit, is_ascii_hexdigit}
use Rattle.vip_byte.specs.HexText.{hex2, hex4}
use Rattle.asm_lex.specs.declared.shape.Isa.{Isa}
use Rattle.asm_lex.specs.Bytes.{is_name}
use Rattle.asm_lex.specs.declared.shape.Isa.TheVariants.{Cdp1802, Chip8}
use Rattle.asm_lex.specs.Culprits.{missing_colon}
use Rattle.asm_lex.specs.Names.{Names, number_named}
use Rattle.asm_lex.specs.Parts.{code_of}
use Rattle.asm_lex.specs.Places.{word_span, operand_spans}
use Rattle.asm_lex.specs.Spans.{text_at}
use Rattle.asm_core.specs.declared.fault.AsmCause.{AsmCause}
use Rattle.asm_core.specs.declared.fault.AsmCause.TheVariants.{BadText, UnknownMnemonic, BadOperand, Undefined}
use Rattle.asm_listing.specs.declared.habits.Class.{Class}
use Rattle.asm_listing.specs.declared.habits.Class.TheVariants.{Any, Hexadecimal, HexNumber, HexDigit, Digit, Port, Decimal, Binary, Character, Name, Number}
use Rattle.asm_listing.specs.Habits.{Row, Shape, Words, Between, Holds, registers, rows, octo_rows}

-- the bytes of which a class of texts is made
abbrev pub is_digit_of : Class → ℕ → Bool
is_digit_of Port byte = nat_le 49 byte && nat_le byte 55
is_digit_of Decimal byte = is_ascii_digit byte
is_digit_of Binary byte = (byte == 48) || (byte == 49)
is_digit_of _ byte = is_ascii_hexdigit byte

abbrev pub are_digits : Class → List ℕ → Bool
are_digits class text = nat_lt 0 (length text) && list_all (is_digit_of class) text

abbrev pub begins_decimal : List ℕ → Bool
begins_decimal [] = false
begins_decimal (byte ∷ rest) = is_ascii_digit byte

-- a text's last byte, and what stands before it
abbrev pub before_last : List ℕ → List ℕ
before_last text = take (length text - 1) text

abbrev pub last_of : List ℕ → List ℕ
last_of text = drop (length text - 1) text

-- a digit behind any number of noughts
abbrev pub is_nought : ℕ → Bool
is_nought byte = byte == 48

abbrev pub is_one_digit : Class → List ℕ → Bool
is_one_digit class text = list_all is_nought (before_last text) && are_digits class (last_of text)

unfoldable pub is_of : Isa → Class → List ℕ → Bool
is_of isa Any text = true
is_of isa Hexadecimal text = are_digits Hexadecimal text
is_of isa HexNumber text = are_digits HexNumber text && begins_decimal text
is_of isa HexDigit text = are_digits HexDigit text && (length text == 1)
is_of isa Digit text = is_one_digit Digit text
is_of isa Port text = is_one_digit Port text
is_of isa Decimal text = are_digits Decimal text
is_of isa Binary text = are_digits Binary text && nat_le (length text) 16
is_of isa Character text = length text == 1
is_of isa Name text = is_name isa text
is_of isa Number text = begins_decimal text

-- a text begins so, in letters of either case, and what stands behind that
abbrev pub begins : List ℕ → List ℕ → Bool
begins opening text = str_eq_ignore_ascii_case (take (min (length opening) (length text)) text) opening

abbrev pub behind_of : List ℕ → List ℕ → List ℕ
behind_of opening text = drop (min (length opening) (length text)) text

abbrev pub behind_opening : List ℕ → List ℕ → Option (List ℕ)
behind_opening opening text = if begins opening text then Some (behind_of opening text) else None

-- what stands before a closing
abbrev pub before_closing : List ℕ → List ℕ → Option (List ℕ)
before_closing closing text =
    let count = length text - length closing in
    if str_eq_ignore_ascii_case (drop count text) closing then Some (take count text) else None

-- a text begins so at some place
abbrev pub holds : List ℕ → List ℕ → Bool
holds opening [] = begins opening []
holds opening (byte ∷ rest) = begins opening (byte ∷ rest) || holds opening rest

abbrev pub is_one_of : List (List ℕ) → List ℕ → Bool
is_one_of words text = list_any (str_eq_ignore_ascii_case text) words

abbrev pub some_if : Bool → List ℕ → Option (List ℕ)
some_if test text = if test then Some text else None

-- what a shape finds in a text
abbrev pub between : Isa → List ℕ → Class → List ℕ → List ℕ → Option (List ℕ)
between isa opening class closing text =
    option_and_then (λ middle. some_if (is_of isa class middle) middle) (option_and_then (behind_opening opening) (before_closing closing text))

unfoldable pub found : Isa → Shape → List ℕ → Option (List ℕ)
found isa (Words words) text = some_if (is_one_of words text) text
found isa (Between opening class closing) text = between isa opening class closing text
found isa (Holds opening) text = some_if (holds opening text) text

-- a line's word is one of those of a habit
abbrev pub is_after : List (List ℕ) → List ℕ → Bool
is_after [] word = true
is_after (first ∷ rest) word = is_one_of (first ∷ rest) word

-- a row's habit in a line with this word and this first operand, and with this culprit
unfoldable pub fits : Isa → List ℕ → List ℕ → List ℕ → Row → Bool
fits isa word first text row = is_after row.after word && (begins row.behind first && is_some (found isa row.shape text))

-- the value of binary digits, modulo 65536, in as many hexadecimal digits as it needs
abbrev pub with_digit : ℕ → ℕ → ℕ
with_digit value digit = (value * 2 + digit % 2) % 65536

abbrev pub binary_value : List ℕ → ℕ
binary_value digits = fold with_digit 0 digits

abbrev pub binary_text : List ℕ → List ℕ
binary_text digits = if nat_lt 8 (length digits) then hex4 (binary_value digits) else hex2 (binary_value digits % 256)

-- what a byte of what is said stands for: `@`, `%`, `&`, `^`, `|` and `~` stand for parts of the line
unfoldable pub piece : List ℕ → List ℕ → List ℕ → ℕ → List ℕ
piece word rest middle byte =
    if byte == 64 then middle
    else if byte == 37 then binary_text middle
    else if byte == 38 then hex2 (slice_index middle 0)
    else if byte == 94 then last_of middle
    else if byte == 124 then word
    else if byte == 126 then rest
    else byte ∷ []

unfoldable pub said : Isa → List ℕ → List ℕ → List ℕ → Row → List ℕ
said isa word first text row =
    flat_map (piece word (behind_of row.behind first) (unwrap_or (found isa row.shape text) [])) row.says

-- the first habit that fits
abbrev pub row_that_fits : Isa → AsmCause → List ℕ → List ℕ → List ℕ → Option Row
row_that_fits isa cause word first text =
    option_or (find (fits isa word first text) (octo_rows isa cause)) (find (fits isa word first text) (rows isa cause))

unfoldable pub habit : Isa → AsmCause → List ℕ → List ℕ → List ℕ → Option (List ℕ)
habit isa cause word first text = option_map (said isa word first text) (row_that_fits isa cause word first text)

-- the word and the first operand of a line of at most 255 bytes
abbrev pub word_in : List ℕ → List ℕ
word_in line = if nat_le (length line) 255 then text_at line (word_span (code_of line)) else []

abbrev pub first_operand : List ℕ → List ℕ
first_operand line = if nat_le (length line) 255 then option_map_or (text_at line) (slice_get (operand_spans (code_of line)) 0) [] else []

-- a line of at most 255 bytes
abbrev pub habit_in : Isa → AsmCause → List ℕ → List ℕ → Option (List ℕ)
habit_in isa cause line text = if nat_le (length line) 255 then habit isa cause (word_in line) (first_operand line) text else None

-- a culprit of a line is a statement of Octo
unfoldable pub is_octo : Isa → AsmCause → List ℕ → List ℕ → Bool
is_octo isa cause line text =
    nat_le (length line) 255 && is_some (find (fits isa (word_in line) (first_operand line) text) (octo_rows isa cause))

-- a label without its colon
abbrev pub label_text : List ℕ → Option ℕ → Option (List ℕ)
label_text word place = option_map (λ place. codes "write a label as " ++ (word ++ codes ":")) place

-- a byte that isn't ASCII
abbrev pub not_ascii : List ℕ → Option (List ℕ)
not_ascii [] = None
not_ascii (byte ∷ rest) = if nat_lt 127 byte then Some (codes "a line can contain only ASCII") else None

-- of a culprit that is no habit
abbrev pub other_remedy : Isa → AsmCause → List ℕ → List ℕ → Option (List ℕ)
other_remedy isa BadText line text = not_ascii text
other_remedy isa UnknownMnemonic line text = label_text text (missing_colon isa line)
other_remedy isa _ line text = None

-- a name that stands for the number of a register, where a register is due
abbrev pub register_text : Option ℕ → Option (List ℕ)
register_text None = None
register_text (Some number) = if nat_lt number 16 then Some (codes "registers have no names: use R" ++ last_of (hex2 number)) else None

abbrev pub register_named : Isa → Names → List ℕ → List ℕ → Option (List ℕ)
register_named Cdp1802 given word text = if is_one_of registers word then register_text (number_named given text) else None
register_named Chip8 given word text = None

-- a name that isn't given, but is so in capitals or in small letters
abbrev pub if_given : Names → List ℕ → Option (List ℕ)
if_given given text = if is_some (given text) then Some (text ++ codes ", as it is defined") else None

abbrev pub as_written : Names → List ℕ → Option (List ℕ)
as_written given text =
    if is_some (given text) then None else option_or (if_given given (str_to_ascii_uppercase text)) (if_given given (str_to_ascii_lowercase text))

-- by the names that the lines of the source give
abbrev pub named_remedy : Isa → Names → AsmCause → List ℕ → List ℕ → Option (List ℕ)
named_remedy isa given BadOperand line text = register_named isa given (word_in line) text
named_remedy isa given Undefined line text = as_written given text
named_remedy isa given _ line text = None

-- the remedy of a culprit of a line
unfoldable pub remedy : Isa → AsmCause → List ℕ → List ℕ → Option (List ℕ)
remedy isa cause line text = option_or (other_remedy isa cause line text) (habit_in isa cause line text)
