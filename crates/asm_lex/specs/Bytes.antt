-- The bytes of a source line, and the names that stand in it.
use Rattle.std.specs.Prelude.{◌==◌, ◌&&◌, ◌||◌, ℕ, Bool, not, List, [], ◌∷◌, length, map, codes, slice_index, nat_lt, nat_le, if◌then◌else◌, Option, Some, None, is_some}
use Rattle.std.specs.Str.{bytes_eq}
use Rattle.std.specs.List.{list_all, list_any, slice_split}
use Rattle.std.specs.Char.{is_ascii_alphabetic, is_ascii_alphanumeric, is_ascii_hexdigit, to_ascii_uppercase, digit_value}
use Rattle.asm_lex.specs.declared.shape.Isa.{Isa}
use Rattle.asm_lex.specs.declared.shape.Isa.TheVariants.{Cdp1802, Chip8}

-- a line may hold the bytes 20 to 7E and the tab
abbrev pub is_allowed : ℕ → Bool
is_allowed byte = (nat_le 32 byte && nat_le byte 126) || (byte == 9)

abbrev pub is_forbidden : ℕ → Bool
is_forbidden byte = not (is_allowed byte)

-- a comment begins with `;`, a label ends with `:`, and operands are parted by `,`
abbrev pub is_semicolon : ℕ → Bool
is_semicolon byte = byte == 59

abbrev pub is_colon : ℕ → Bool
is_colon byte = byte == 58

abbrev pub is_comma : ℕ → Bool
is_comma byte = byte == 44

-- a name begins with a letter or `_`, and goes on with letters, digits and `_`
abbrev pub begins_name : ℕ → Bool
begins_name byte = is_ascii_alphabetic byte || (byte == 95)

abbrev pub is_in_name : ℕ → Bool
is_in_name byte = is_ascii_alphanumeric byte || (byte == 95)

abbrev pub ends_name : ℕ → Bool
ends_name byte = not (is_in_name byte)

-- a text in letters of either case is the name, which is in capitals
unfoldable pub spells : List ℕ → List ℕ → Bool
spells text name = bytes_eq (map to_ascii_uppercase text) name

-- the number of a register, which is written as a letter and one hexadecimal digit, both of either case
abbrev pub register_of : ℕ → List ℕ → Option ℕ
register_of letter [] = None
register_of letter (r ∷ []) = None
register_of letter (r ∷ digit ∷ []) = if (to_ascii_uppercase r == letter) && is_ascii_hexdigit digit then Some (digit_value digit) else None
register_of letter (r ∷ digit ∷ more ∷ rest) = None

-- the registers of the CDP1802 are R0 to RF, those of CHIP-8 are V0 to VF
abbrev pub register_letter : Isa → ℕ
register_letter Cdp1802 = 82
register_letter Chip8 = 86

-- the words that stand as operands in CHIP-8
abbrev pub operand_words : Isa → List (List ℕ)
operand_words Cdp1802 = []
operand_words Chip8 = codes "I" ∷ codes "DT" ∷ codes "ST" ∷ codes "K" ∷ codes "F" ∷ codes "B" ∷ []

-- a register, or such a word
unfoldable pub is_reserved : Isa → List ℕ → Bool
is_reserved isa text = is_some (register_of (register_letter isa) text) || list_any (spells text) (operand_words isa)

-- a name has at most 32 characters, and isn't reserved
unfoldable pub is_name : Isa → List ℕ → Bool
is_name isa text = begins_name (slice_index text 0) && (list_all is_in_name text && (nat_le (length text) 32 && not (is_reserved isa text)))

-- a run of a name's characters that begins as a name does and is longer than a name may be
abbrev pub is_long_name : List ℕ → Bool
is_long_name run = begins_name (slice_index run 0) && nat_lt 32 (length run)

-- some run of a name's characters in the text is such
unfoldable pub has_long_name : List ℕ → Bool
has_long_name text = list_any is_long_name (slice_split ends_name text)
