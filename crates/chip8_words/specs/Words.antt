-- The text of an opcode in words: its mnemonic, a blank, and its operands with `, ` between them. Digits are upper case (this project's profile).
use Rattle.std.specs.Prelude.{ℕ, ◌<◌, List, [], ◌∷◌, ◌++◌, codes, Option, Some, None}
use Rattle.vip_byte.specs.HexText.{hex_digit, hex2, hex4}
use Rattle.chip8_words.specs.declared.code.Op.{Op}
use Rattle.chip8_words.specs.declared.table.Operand.{Operand}
use Rattle.chip8_words.specs.declared.table.Operand.TheVariants.{X, Y, V0, Byte, Address, Nibble, Index, AtIndex, DelayTimer, SoundTimer, Key, Font, Decimal}
use Rattle.chip8_words.specs.Codes.{decoded}
use Rattle.chip8_words.specs.Table.{mnemonic_of, operands_of}

-- an operand: a register by one digit, a number of 8, 12 or 4 bits by two, four or one, or a word
abbrev pub operand_text : Op → Operand → List ℕ
operand_text op X = codes "V" ++ (hex_digit op.x ∷ [])
operand_text op Y = codes "V" ++ (hex_digit op.y ∷ [])
operand_text op V0 = codes "V0"
operand_text op Byte = codes "0x" ++ hex2 op.number
operand_text op Address = codes "0x" ++ hex4 op.number
operand_text op Nibble = codes "0x" ++ (hex_digit op.number ∷ [])
operand_text op Index = codes "I"
operand_text op AtIndex = codes "[I]"
operand_text op DelayTimer = codes "DT"
operand_text op SoundTimer = codes "ST"
operand_text op Key = codes "K"
operand_text op Font = codes "F"
operand_text op Decimal = codes "B"

-- the number that it writes has so many digits
abbrev pub HasItsDigits : Op → Operand → Type 0
HasItsDigits op X = op.x < 16
HasItsDigits op Y = op.y < 16
HasItsDigits op Byte = op.number < 256
HasItsDigits op Nibble = op.number < 16
HasItsDigits op _ = Unit {0}

-- how many characters it has
abbrev pub text_size : Operand → ℕ
text_size Byte = 4
text_size Address = 6
text_size Nibble = 3
text_size Index = 1
text_size AtIndex = 3
text_size Key = 1
text_size Font = 1
text_size Decimal = 1
text_size _ = 2

-- all of them, of which the first stands behind this
abbrev pub operands_text : Op → List ℕ → List Operand → List ℕ
operands_text op lead [] = []
operands_text op lead (operand ∷ operands) = lead ++ operand_text op operand ++ operands_text op (codes ", ") operands

abbrev pub op_text : Op → List ℕ
op_text op = mnemonic_of op.form ++ operands_text op (codes " ") (operands_of op.form)

-- an opcode that the language doesn't know stands as data
abbrev pub words_of : Option Op → ℕ → List ℕ
words_of None opcode = codes "DW 0x" ++ hex4 opcode
words_of (Some op) opcode = op_text op

unfoldable pub opcode_words : ℕ → List ℕ
opcode_words opcode = words_of (decoded opcode) opcode
