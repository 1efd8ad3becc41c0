-- The listing of a source: each line with its address and its bytes, and then the names.
use Rattle.std.specs.Prelude.{◌≡◌, ◌+◌, ◌-◌, ◌*◌, ◌/◌, ◌%◌, ◌==◌, ℕ, List, [], ◌∷◌, ◌++◌, length, take, drop, flat_map, replicate, codes, decimal, if◌then◌else◌}
use Rattle.std.specs.List.{range_with_len}
use Rattle.std.specs.List.Sorted.{IsStrictlySortedBy}
use Rattle.std.specs.Map.{keys_of}
use Rattle.std.specs.Ordering.{nat_cmp}
use Rattle.std.specs.Cmp.Lexicographic.{slice_cmp}
use Rattle.std.specs.Result.{result_unwrap_or}
use Rattle.vip_byte.specs.HexText.{hex_digit, hex2, hex4}
use Rattle.asm_lex.specs.declared.shape.Isa.{Isa}
use Rattle.asm_lex.specs.declared.shape.SymbolValue.{SymbolValue}
use Rattle.asm_lex.specs.declared.shape.SymbolValue.TheVariants.{Number, Register}
use Rattle.asm_core.specs.declared.layout.LabelValue.{LabelValue}
use Rattle.asm_core.specs.declared.layout.LabelValue.TheVariants.{Address, Given}
use Rattle.asm_lex.specs.Names.{value_in}
use Rattle.asm_core.specs.Sources.{line_at, address_of, all_names, label_value, bytes_of}
use Rattle.vip_byte.specs.Text.{newline}

abbrev pub blanks : ℕ → List ℕ
blanks count = replicate count 32

-- a number right in 5 places, or in as many as it has digits
abbrev pub number_text : ℕ → List ℕ
number_text number = blanks (5 - length (decimal number)) ++ decimal number

abbrev pub digits_of : List ℕ → List ℕ
digits_of bytes = flat_map hex2 bytes

-- the bytes of one line of the listing, of which there are three or fewer
abbrev pub three_at : List ℕ → ℕ → List ℕ
three_at bytes k = take 3 (drop (3 * k) bytes)

-- the bytes behind the first three stand on lines of their own, each with the address of its first byte
abbrev pub further_line : ℕ → List ℕ → ℕ → List ℕ
further_line at bytes k = codes "      " ++ (hex4 (at + 3 * k) ++ (codes " " ++ (digits_of (three_at bytes k) ++ newline)))

unfoldable pub further_lines : ℕ → List ℕ → List ℕ
further_lines at bytes = flat_map (further_line at bytes) (range_with_len 1 ((length bytes + 2) / 3 - 1))

-- the first three bytes as six digits, filled with blanks to six places
abbrev pub first_digits : List ℕ → List ℕ
first_digits bytes = digits_of (three_at bytes 0) ++ blanks (6 - 2 * length (three_at bytes 0))

-- a number as four digits, a register as `V` and its digit
abbrev pub value_text : SymbolValue → List ℕ
value_text (Number number) = hex4 number
value_text (Register register) = codes "V" ++ (hex_digit (register % 16) ∷ [])

-- the same in four places
abbrev pub label_text : LabelValue → List ℕ
label_text (Address address) = hex4 (address % 65536)
label_text (Given (Number number)) = value_text (Number number)
label_text (Given (Register register)) = value_text (Register register) ++ codes "  "

-- a line of the source: its number, the value that is shown, its bytes, which stand from `at` on, and its text
unfoldable pub line_listing : ℕ → LabelValue → ℕ → List ℕ → List ℕ → List ℕ
line_listing number shown at bytes line =
    number_text number ++ (codes " " ++
    (label_text shown ++ (codes " " ++ (first_digits bytes ++ (codes " " ++ (line ++ (newline ++ further_lines at bytes)))))))

-- line i, counted from 0: EQU shows its value, a line that moves the address the new one, and each other line the address at which it begins
abbrev pub listed : Isa → List (List ℕ) → ℕ → List ℕ
listed isa source i =
    line_listing (i + 1) (label_value isa source i) (address_of isa source i) (result_unwrap_or (bytes_of isa source i) []) (line_at source i)

-- behind an empty line the names with their values, where there are any
abbrev pub symbol_line : List ℕ × SymbolValue → List ℕ
symbol_line symbol = symbol.0 ++ (codes " " ++ (value_text symbol.1 ++ newline))

abbrev pub symbols_text : List (List ℕ × SymbolValue) → List ℕ
symbols_text names = if length names == 0 then [] else newline ++ flat_map symbol_line names

unfoldable pub lines_text : Isa → List (List ℕ) → ℕ → List ℕ
lines_text isa source count = flat_map (listed isa source) (range_with_len 0 count)

-- the text is the listing of a source, whose names stand in the order of their bytes
pub record IsListing (isa : Isa) (source : List (List ℕ)) (text : List ℕ) : Type 0 where
  pub names : List (List ℕ × SymbolValue)
  pub in_order : IsStrictlySortedBy (slice_cmp nat_cmp) (keys_of names)
  pub defined : (name : List ℕ) → value_in names name ≡ all_names isa source name
  pub is : text ≡ lines_text isa source (length source) ++ symbols_text names
