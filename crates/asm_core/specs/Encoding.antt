-- The bytes of instructions and of data, by the values of their operands.
use Rattle.std.specs.Prelude.{◌+◌, ◌/◌, ◌%◌, ◌==◌, ℕ, Bool, true, false, List, [], ◌∷◌, nat_lt, map, if◌then◌else◌, Result, Ok, Err, is_err}
use Rattle.std.specs.List.{list_any}
use Rattle.std.specs.Result.{result_map_both, result_unwrap_or}
use Rattle.asm_lex.specs.declared.shape.ValueFault.{ValueFault}
use Rattle.asm_lex.specs.declared.shape.ValueFault.TheVariants as value
use Rattle.asm_lex.specs.Words.{size_at}
use Rattle.asm_core.specs.declared.fault.AsmCause.{AsmCause}
use Rattle.asm_core.specs.declared.fault.AsmCause.TheVariants.{Undefined, Range, OffPage}
use Rattle.asm_lex.specs.declared.shape.Isa.{Isa}
use Rattle.asm_lex.specs.declared.shape.Isa.TheVariants.{Cdp1802, Chip8}
use Rattle.asm_lex.specs.Names.{Names}
use Rattle.asm_lex.specs.Forms.{most_of}
use Rattle.chip8_words.specs.declared.code.Op.{Op}
use Rattle.chip8_words.specs.Codes.{encoded as opcode_of_parts}
use Rattle.asm_core.specs.Names.{operand_value}

-- the cause of an expression's value
abbrev pub value_cause : ValueFault → AsmCause
value_cause value.Undefined = Undefined
value_cause value.Range = Range

-- a word's bytes, the high one first
abbrev pub word_bytes : ℕ → List ℕ
word_bytes word = word / 256 ∷ word % 256 ∷ []

abbrev pub is_undefined : Result ℕ ValueFault → Bool
is_undefined (Ok value) = false
is_undefined (Err value.Undefined) = true
is_undefined (Err value.Range) = false

-- the values of several operands, or the first fault in the order of the causes
unfoldable pub collected : List (Result ℕ ValueFault) → Result (List ℕ) ValueFault
collected results =
    if list_any is_undefined results then Err value.Undefined
    else if list_any is_err results then Err value.Range
    else Ok (map (λ result. result_unwrap_or result 0) results)

unfoldable pub values_of : Isa → Names → ℕ → ℕ → List (List ℕ) → Result (List ℕ) ValueFault
values_of isa names here most operands = collected (map (operand_value isa names here most) operands)

-- a branch or an immediate instruction with the value of its operand: a short branch stays in the page of its second byte
abbrev pub long_branch : ℕ → Result ℕ ValueFault → Result (List ℕ) AsmCause
long_branch opcode value = result_map_both (λ target. opcode ∷ word_bytes target) value_cause value

abbrev pub to_page : ℕ → ℕ → ℕ → Result (List ℕ) AsmCause
to_page at opcode target = if target / 256 == (at + 1) / 256 then Ok (opcode ∷ target % 256 ∷ []) else Err OffPage

abbrev pub short_branch : ℕ → ℕ → Result ℕ ValueFault → Result (List ℕ) AsmCause
short_branch at opcode (Ok target) = to_page at opcode target
short_branch at opcode (Err fault) = Err (value_cause fault)

abbrev pub immediate : ℕ → Result ℕ ValueFault → Result (List ℕ) AsmCause
immediate opcode value = result_map_both (λ byte. opcode ∷ byte ∷ []) value_cause value

-- the bytes of an instruction of the CDP1802: the opcodes 30 to 3F, but for SKP, are short branches
unfoldable pub instruction : Names → ℕ → ℕ → List ℕ → Result (List ℕ) AsmCause
instruction names at opcode operand =
    if size_at opcode == 1 then Ok (opcode ∷ [])
    else if size_at opcode == 3 then long_branch opcode (operand_value Cdp1802 names at 65535 operand)
    else if opcode / 16 == 3 then short_branch at opcode (operand_value Cdp1802 names at 65535 operand)
    else immediate opcode (operand_value Cdp1802 names at 255 operand)

-- the bytes of an instruction of CHIP-8, whose number is the value of its operand, where it has one
abbrev pub with_number : Op → ℕ → Op
with_number op number = record { form = op.form; x = op.x; y = op.y; number = number }

unfoldable pub op_bytes : Names → ℕ → Op → List ℕ → Result (List ℕ) AsmCause
op_bytes names at op operand =
    if nat_lt 0 (most_of op.form) then
    result_map_both (λ number. word_bytes (opcode_of_parts (with_number op number))) value_cause (operand_value Chip8 names at (most_of op.form) operand)
    else Ok (word_bytes (opcode_of_parts op))
