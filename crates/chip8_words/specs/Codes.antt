-- Opcodes by their parts.
use Rattle.std.specs.Prelude.{◌+◌, ◌*◌, ◌≤◌, ◌==◌, ℕ, if◌then◌else◌, map, sum, Option}
use Rattle.chip8_lang.specs.Decode.{instr_of}
use Rattle.chip8_words.specs.declared.code.Op.{Op}
use Rattle.chip8_words.specs.declared.table.Form.{Form}
use Rattle.chip8_words.specs.declared.table.Form.TheVariants as form
use Rattle.chip8_words.specs.declared.table.Operand.{Operand}
use Rattle.chip8_words.specs.declared.table.Operand.TheVariants.{X, Y, Byte, Address, Nibble}
use Rattle.chip8_words.specs.Table.{opcode_of, operands_of, parts_of}

-- ---- fields

-- the greatest number that an operand stands for in each field: 0 where it stands for none
abbrev pub greatest_x : Operand → ℕ
greatest_x X = 15
greatest_x _ = 0

abbrev pub greatest_y : Operand → ℕ
greatest_y Y = 15
greatest_y _ = 0

abbrev pub greatest_number : Operand → ℕ
greatest_number Byte = 255
greatest_number Address = 4095
greatest_number Nibble = 15
greatest_number _ = 0

-- each field is in the range of the operand that stands for it, of which a form has one at most, and is 0 where there is none
pub record IsValid (op : Op) : Type 0 where
  pub x : op.x ≤ sum (map greatest_x (operands_of op.form))
  pub y : op.y ≤ sum (map greatest_y (operands_of op.form))
  pub number : op.number ≤ sum (map greatest_number (operands_of op.form))

-- ---- the opcode of the parts

abbrev pub encoded : Op → ℕ
encoded op = opcode_of op.form + 256 * op.x + 16 * op.y + op.number

-- ---- the parts of an opcode

-- where the language knows it
abbrev pub decoded : ℕ → Option Op
decoded opcode = parts_of (instr_of opcode)

-- SYS of the opcodes of CLS and RET is these
abbrev pub canonical_by : Form → Op → Op
canonical_by form.Machine op =
    if op.number == 0x0e0 then record { form = form.Clear; x = 0; y = 0; number = 0 }
    else if op.number == 0x0ee then record { form = form.Return; x = 0; y = 0; number = 0 }
    else op
canonical_by _ op = op

-- the parts that are read back
abbrev pub canonical : Op → Op
canonical op = canonical_by op.form op
