-- The values of names, and of the operands that they stand in.
use Rattle.std.specs.Prelude.{◌&&◌, ℕ, ℤ, pos, nat_abs, int_le, List, [], slice_index_or, if◌then◌else◌, Option, None, Some, Result, Ok, Err}
use Rattle.asm_lex.specs.declared.shape.Isa.{Isa}
use Rattle.asm_lex.specs.declared.shape.SymbolValue.{SymbolValue}
use Rattle.asm_lex.specs.Names.{Names, number_named, with_name}
use Rattle.asm_lex.specs.declared.shape.ValueFault.{ValueFault}
use Rattle.asm_lex.specs.declared.shape.ValueFault.TheVariants.{Range}
use Rattle.asm_lex.specs.Expressions.{value_of}

-- the names with that of a label, which may be absent
abbrev pub with_label : Names → Option (List ℕ) → SymbolValue → Names
with_label names None value = names
with_label names (Some label) value = with_name names label value

-- a value that must lie in 0 to `most`
abbrev pub within : ℕ → Result ℤ ValueFault → Result ℕ ValueFault
within most (Err fault) = Err fault
within most (Ok value) = if int_le (pos 0) value && int_le value (pos most) then Ok (nat_abs value) else Err Range

-- the value of an operand in a line that begins at the address `here`
unfoldable pub operand_value : Isa → Names → ℕ → ℕ → List ℕ → Result ℕ ValueFault
operand_value isa names here most text = within most (value_of isa (number_named names) here text)

-- the operand of a word that has one
abbrev pub first_operand : List (List ℕ) → List ℕ
first_operand operands = slice_index_or operands 0 []
