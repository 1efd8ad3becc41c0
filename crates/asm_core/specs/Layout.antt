-- A line in both passes: in pass 1 the value of its label and the address behind it, in pass 2 its bytes.
use Rattle.std.specs.Prelude.{◌+◌, ◌-◌, ◌*◌, ◌/◌, ◌||◌, ◌&&◌, ◌==◌, ℕ, Bool, false, List, length, flat_map, replicate, nat_lt, nat_le, if◌then◌else◌, Option, None, Some, is_some, Result, Ok, Err}
use Rattle.std.specs.Option.{option_map_or}
use Rattle.std.specs.Result.{result_map_both}
use Rattle.std.specs.List.{list_any}
use Rattle.asm_lex.specs.declared.shape.Word.{Word}
use Rattle.asm_lex.specs.declared.shape.Word.TheVariants.{Code, Instruction, Org, Equ, EquRegister, Db, Dw, Ds, Page}
use Rattle.asm_lex.specs.declared.shape.LexFault.{LexFault}
use Rattle.asm_lex.specs.declared.shape.LexFault.TheVariants as lex
use Rattle.asm_lex.specs.declared.shape.ValueFault.{ValueFault}
use Rattle.asm_lex.specs.declared.shape.ValueFault.TheVariants as value
use Rattle.asm_lex.specs.Expressions.{has_large_number}
use Rattle.asm_lex.specs.Forms.{last_operand}
use Rattle.asm_lex.specs.Lines.{Parsed, parsed}
use Rattle.asm_lex.specs.Words.{size_at}
use Rattle.asm_core.specs.declared.layout.Laid.{Laid}
use Rattle.asm_core.specs.declared.fault.AsmCause.{AsmCause}
use Rattle.asm_core.specs.declared.fault.AsmCause.TheVariants.{BadText, UnknownMnemonic, BadOperand, Range, Duplicate, TooLarge}
use Rattle.asm_lex.specs.declared.shape.Isa.{Isa}
use Rattle.asm_lex.specs.declared.shape.SymbolValue.{SymbolValue}
use Rattle.asm_lex.specs.declared.shape.SymbolValue.TheVariants.{Number, Register}
use Rattle.asm_lex.specs.Names.{Names, IsValue}
use Rattle.asm_core.specs.declared.layout.LabelValue.{LabelValue}
use Rattle.asm_core.specs.declared.layout.LabelValue.TheVariants.{Address, Given}
use Rattle.asm_lex.specs.Ranges.{origin_of, last_of}
use Rattle.asm_core.specs.Names.{operand_value, first_operand}
use Rattle.asm_core.specs.Encoding.{value_cause, word_bytes, values_of, instruction, op_bytes}

-- the cause of a line by itself
abbrev pub cause_of : LexFault → AsmCause
cause_of lex.BadText = BadText
cause_of lex.UnknownMnemonic = UnknownMnemonic
cause_of lex.BadOperand = BadOperand

-- the value of a line's label, and the address behind the line
abbrev pub laid : LabelValue → ℕ → Laid
laid value next = record { value = value; next = next }

-- what a name stands for whose label has this value
abbrev pub symbol_value : LabelValue → SymbolValue
symbol_value (Address address) = Number address
symbol_value (Given value) = value

-- EQU gives a number, or one of the registers
abbrev pub HasItsValue : LabelValue → Type 0
HasItsValue (Address address) = Unit {0}
HasItsValue (Given value) = IsValue value

-- the next multiple of 256, or the address itself where it is one
abbrev pub page_above : ℕ → ℕ
page_above at = (at + 255) / 256 * 256

-- a value that must not be below `least`
abbrev pub at_least : ℕ → Result ℕ ValueFault → Result ℕ ValueFault
at_least least (Err fault) = Err fault
at_least least (Ok found) = if nat_le least found then Ok found else Err value.Range

-- the address that ORG sets
abbrev pub org_address : Isa → Names → ℕ → List ℕ → Result ℕ ValueFault
org_address isa names at operand = at_least (origin_of isa) (operand_value isa names at (last_of isa) operand)

-- what a word does to the address at which its line begins; directives take the value of their one operand at once
unfoldable pub placed : Isa → Names → ℕ → Option Word → List (List ℕ) → Result Laid ValueFault
placed isa names at None operands = Ok (laid (Address at) at)
placed isa names at (Some (Code opcode)) operands = Ok (laid (Address at) (at + size_at opcode))
placed isa names at (Some (Instruction op)) operands = Ok (laid (Address at) (at + 2))
placed isa names at (Some Org) operands =
    result_map_both (λ address. laid (Address address) address) (λ fault. fault) (org_address isa names at (first_operand operands))
placed isa names at (Some Equ) operands =
    result_map_both (λ value. laid (Given (Number value)) at) (λ fault. fault) (operand_value isa names at 65535 (first_operand operands))
placed isa names at (Some (EquRegister register)) operands = Ok (laid (Given (Register register)) at)
placed isa names at (Some Db) operands = Ok (laid (Address at) (at + length operands))
placed isa names at (Some Dw) operands = Ok (laid (Address at) (at + 2 * length operands))
placed isa names at (Some Ds) operands =
    result_map_both (λ count. laid (Address at) (at + count)) (λ fault. fault) (operand_value isa names at 65535 (first_operand operands))
placed isa names at (Some Page) operands = Ok (laid (Address (page_above at)) (page_above at))

-- bytes that would pass the last address, or a label behind it; EQU gives its label no address
abbrev pub is_past : ℕ → LabelValue → Bool
is_past last (Address address) = nat_lt last address
is_past last (Given value) = false

abbrev pub is_too_large : Isa → Bool → Laid → Bool
is_too_large isa has_label laid = nat_lt (last_of isa + 1) laid.next || (has_label && is_past (last_of isa) laid.value)

-- the first cause of a line whose label is new
unfoldable pub judged : Isa → Bool → Bool → Result Laid ValueFault → Result Laid AsmCause
judged isa has_label large (Err fault) = Err (value_cause fault)
judged isa has_label large (Ok laid) = if large then Err Range else if is_too_large isa has_label laid then Err TooLarge else Ok laid

-- a label that an earlier line has
abbrev pub is_duplicate : Names → Option (List ℕ) → Bool
is_duplicate names label = option_map_or (λ name. is_some (names name)) label false

-- a line by its parts, where `names` are those of the earlier lines, and it begins at the address `at`
unfoldable pub laid_parts : Isa → Names → ℕ → Parsed → Result Laid AsmCause
laid_parts isa names at line =
    if is_duplicate names line.label then Err Duplicate
    else judged isa (is_some line.label) (list_any (has_large_number isa) line.operands) (placed isa names at line.word line.operands)

-- what follows for a line from its parts, or its fault
abbrev pub from_parts : {X : Type 0} → (Parsed → Result X AsmCause) → Result Parsed LexFault → Result X AsmCause
from_parts f (Ok line) = f line
from_parts f (Err fault) = Err (cause_of fault)

-- pass 1 over a line
unfoldable pub laid_out : Isa → Names → ℕ → List ℕ → Result Laid AsmCause
laid_out isa names at line = from_parts (laid_parts isa names at) (parsed isa names line)

-- the label of a line
abbrev pub label_from : Result Parsed LexFault → Option (List ℕ)
label_from (Ok line) = line.label
label_from (Err fault) = None

unfoldable pub label_in : Isa → Names → List ℕ → Option (List ℕ)
label_in isa names line = label_from (parsed isa names line)

-- how many bytes a line has: those up to the next address, unless it moves the address or gives its label another value
abbrev pub count_between : LabelValue → ℕ → ℕ → ℕ
count_between (Address address) at next = if address == at then next - at else 0
count_between (Given value) at next = 0

-- the bytes of a line by its parts, which stands at the address `at` and has `count` bytes: what has no data is so much room
unfoldable pub encoded_parts : Isa → Names → ℕ → ℕ → Option Word → List (List ℕ) → Result (List ℕ) AsmCause
encoded_parts isa names at count (Some (Code opcode)) operands = instruction names at opcode (first_operand operands)
encoded_parts isa names at count (Some (Instruction op)) operands = op_bytes names at op (last_operand operands)
encoded_parts isa names at count (Some Db) operands = result_map_both (λ bytes. bytes) value_cause (values_of isa names at 255 operands)
encoded_parts isa names at count (Some Dw) operands = result_map_both (flat_map word_bytes) value_cause (values_of isa names at 65535 operands)
encoded_parts isa names at count _ operands = Ok (replicate count 0)

-- pass 2 over a line, which is read with the names of the earlier lines, and has its values of those of all lines
unfoldable pub encoded : Isa → Names → Names → ℕ → ℕ → List ℕ → Result (List ℕ) AsmCause
encoded isa earlier names at count line = from_parts (λ line. encoded_parts isa names at count line.word line.operands) (parsed isa earlier line)
