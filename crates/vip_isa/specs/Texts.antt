-- The text of an instruction: its mnemonic, and its operand behind a blank. Digits are upper case (this project's profile).
use Rattle.std.specs.Prelude.{ℕ, ◌+◌, ◌*◌, ◌/◌, ◌%◌, ◌<◌, List, [], ◌∷◌, ◌++◌, codes, slice_index}
use Rattle.machine.specs.Opcodes.{kind_of, opcode_number}
use Rattle.vip_byte.specs.HexText.{hex_digit, hex2, hex4}
use Rattle.vip_isa.specs.Rows.{mnemonic_of, operands_of}
use Rattle.vip_isa.specs.declared.rows.Operands.{Operands}
use Rattle.vip_isa.specs.declared.rows.Operands.TheVariants as stands
use Rattle.vip_isa.specs.declared.text.Operand.{Operand}
use Rattle.vip_isa.specs.declared.text.Operand.TheVariants.{Nothing, Register, Port, Byte, Target}

-- An operand, by what stands behind the mnemonic, the opcode with its address, and the two bytes behind it. Behind FFFF comes 0000.
abbrev pub operand_with : Operands → (at opcode next after : ℕ) → Operand
operand_with stands.Nothing at opcode next after = Nothing
operand_with stands.Register at opcode next after = Register (opcode_number opcode)
operand_with stands.Port at opcode next after = Port (opcode_number opcode)
operand_with stands.Byte at opcode next after = Byte next
operand_with stands.Short at opcode next after = Target ((at + 1) % 65536 / 256 * 256 + next)
operand_with stands.Long at opcode next after = Target (next * 256 + after)
operand_with stands.Data at opcode next after = Byte opcode

-- that of an instruction whose bytes stand from an address on
unfoldable pub operand_at : ℕ → List ℕ → Operand
operand_at at bytes = operand_with (operands_of (kind_of (slice_index bytes 0))) at (slice_index bytes 0) (slice_index bytes 1) (slice_index bytes 2)

abbrev pub operand_text : Operand → List ℕ
operand_text Nothing = []
operand_text (Register number) = codes " R" ++ (hex_digit number ∷ [])
operand_text (Port number) = codes " " ++ (hex_digit number ∷ [])
operand_text (Byte value) = codes " 0x" ++ hex2 value
operand_text (Target address) = codes " 0x" ++ hex4 address

-- the number of a register or a port is one digit
abbrev pub HasOneDigit : Operand → Type 0
HasOneDigit Nothing = Unit {0}
HasOneDigit (Register number) = number < 16
HasOneDigit (Port number) = number < 16
HasOneDigit (Byte value) = Unit {0}
HasOneDigit (Target address) = Unit {0}

unfoldable pub instruction_text : ℕ → List ℕ → List ℕ
instruction_text at bytes = mnemonic_of (kind_of (slice_index bytes 0)) ++ operand_text (operand_at at bytes)
