-- What is told of the operands of a line one by one. It hangs on the line, whose operands are read with no names, on which names are given, and, for a
-- range and for the instruction that it is asked of, on the numbers of `fixed`, those names whose values hang on no address and stand in lines that are
-- right: so it stays whatever other lines are mended to, while they give the same names.
use Rattle.std.specs.Prelude.{◌==◌, ◌/◌, ◌&&◌, ◌||◌, ℕ, Bool, true, false, not, List, [], ◌∷◌, nat_le, if◌then◌else◌, codes, Option, None, Some, is_some, option_map, Result, Ok, Err}
use Rattle.std.specs.Option.{option_or}
use Rattle.asm_lex.specs.declared.culprit.Sought.TheVariants.{NotGiven}
use Rattle.asm_lex.specs.declared.shape.Isa.{Isa}
use Rattle.asm_lex.specs.declared.shape.Place.{Place}
use Rattle.asm_lex.specs.declared.shape.Span.{Span}
use Rattle.asm_lex.specs.declared.shape.ValueFault.{ValueFault}
use Rattle.asm_lex.specs.declared.shape.ValueFault.TheVariants as value
use Rattle.asm_lex.specs.declared.shape.Word.{Word}
use Rattle.asm_lex.specs.declared.shape.Word.TheVariants.{Db, Dw, Instruction, Org}
use Rattle.asm_lex.specs.declared.words.Entry.{Entry}
use Rattle.asm_lex.specs.declared.words.Entry.TheVariants.{Directive, Mnemonic, Words}
use Rattle.asm_lex.specs.Culprits.{is_sought, first_term}
use Rattle.asm_lex.specs.Forms.{most_of as form_most}
use Rattle.asm_lex.specs.Lines.{parsed}
use Rattle.asm_lex.specs.Names.{Names, register_named}
use Rattle.asm_lex.specs.Operands.{is_unread, is_number_at}
use Rattle.asm_lex.specs.Places.{place_of}
use Rattle.asm_lex.specs.Ranges.{origin_of, last_of}
use Rattle.asm_lex.specs.Spans.{text_at}
use Rattle.asm_lex.specs.Words.{size_at}
use Rattle.asm_core.specs.declared.fault.AsmCause.{AsmCause}
use Rattle.asm_core.specs.declared.fault.AsmCause.TheVariants.{BadText, BadOperand, Range, Undefined}
use Rattle.asm_core.specs.declared.findings.Finding.{Finding}
use Rattle.asm_core.specs.Encoding.{is_undefined}
use Rattle.asm_core.specs.Fixed.{has_address}
use Rattle.asm_core.specs.Layout.{at_least}
use Rattle.asm_core.specs.Names.{operand_value}
use Rattle.asm_core.specs.Told.{word_from}

-- An operand is read with no names: `fixed` has the registers that EQU gives on later lines too, and those hold behind their lines alone.
abbrev pub no_names : Names
no_names name = None

abbrev pub found_at : AsmCause → Place → Finding
found_at cause place = record { cause = cause; place = place }

-- the greatest number that any instruction with such an entry takes: a byte, but for a branch, and DB's; of CHIP-8 it is that of the line's instruction,
-- where the line is read
abbrev pub word_most : Option Word → ℕ
word_most (Some (Instruction op)) = form_most op.form
word_most _ = 65535

abbrev pub most_of : Isa → Names → List ℕ → Entry → ℕ
most_of isa fixed line (Mnemonic opcode) = if (size_at opcode == 2) && not (opcode / 16 == 3) then 255 else 65535
most_of isa fixed line (Words form) = word_most (word_from (parsed isa fixed line))
most_of isa fixed line (Directive Db) = 255
most_of isa fixed line (Directive Org) = last_of isa
most_of isa fixed line (Directive _) = 65535

-- and the least one
abbrev pub least_of : Isa → Entry → ℕ
least_of isa (Directive Org) = origin_of isa
least_of isa _ = 0

-- a number is out of its range that has no address in it, and no other names than those
abbrev pub is_range : Result ℕ ValueFault → Bool
is_range (Ok value) = false
is_range (Err value.Undefined) = false
is_range (Err value.Range) = true

unfoldable pub is_outside : Isa → Names → List ℕ → Entry → List ℕ → Bool
is_outside isa fixed line entry text =
    not (has_address text) && is_range (at_least (least_of isa entry) (operand_value isa fixed 0 (most_of isa fixed line entry) text))

-- what is told of a number: a name that is none of those that are given, or that it is out of its range
abbrev pub if_outside : Bool → Span → Option Finding
if_outside outside span = if outside then Some (found_at Range (place_of span)) else None

abbrev pub number_finding : Isa → Names → Names → List ℕ → Entry → Span → Option Finding
number_finding isa fixed given line entry span =
    option_or (option_map (found_at Undefined) (first_term (is_sought isa given NotGiven) line (span ∷ [])))
    (if_outside (is_outside isa fixed line entry (text_at line span)) span)

-- an operand that can't be read whatever names stand for, or a number
unfoldable pub operand_finding : Isa → Names → Names → List ℕ → Entry → ℕ → Span → Option Finding
operand_finding isa fixed given line entry k span =
    if is_unread isa no_names entry k (text_at line span) then Some (found_at BadOperand (place_of span))
    else if is_number_at isa no_names entry k (text_at line span) then number_finding isa fixed given line entry span
    else None

-- the rest of a line is judged beside a fault that is told of it, unless that is of its bytes or its names
abbrev pub is_judged : AsmCause → Bool
is_judged BadText = false
is_judged _ = true

-- a place isn't that of the fault that is told, and has no byte of it
abbrev pub is_apart : Option Finding → Place → Bool
is_apart None place = true
is_apart (Some told) place =
    is_judged told.cause && (not (place.from == told.place.from) && (nat_le place.to told.place.from || nat_le told.place.to place.from))

abbrev pub if_apart : Option Finding → Option Finding → Option Finding
if_apart told None = None
if_apart told (Some found) = if is_apart told found.place then Some found else None

-- what is told of an operand beside the fault of its line
unfoldable pub further_finding : Isa → Names → Names → List ℕ → Entry → ℕ → Span → Option Finding → Option Finding
further_finding isa fixed given line entry k span told = if_apart told (operand_finding isa fixed given line entry k span)

-- A number waits for the next run: `$` or another name stands in it, or it is the target of a short branch, whose page hangs on where the branch stands.
-- Before the first fault, where addresses are known, directives have taken their values; DB and DW take them in pass 2.
abbrev pub is_short_branch : Entry → Bool
is_short_branch (Mnemonic opcode) = (size_at opcode == 2) && (opcode / 16 == 3)
is_short_branch _ = false

abbrev pub is_taken_at_once : Entry → Bool
is_taken_at_once (Mnemonic opcode) = false
is_taken_at_once (Words form) = false
is_taken_at_once (Directive Db) = false
is_taken_at_once (Directive Dw) = false
is_taken_at_once (Directive _) = true

abbrev pub hangs_on_addresses : Isa → Names → Entry → List ℕ → Bool
hangs_on_addresses isa fixed entry text =
    is_short_branch entry || (has_address text || is_undefined (operand_value isa fixed 0 65535 text))

-- a name of a register, where one may stand
abbrev pub is_register_at : Isa → Names → Entry → ℕ → List ℕ → Bool
is_register_at isa fixed entry k text = is_some (register_named fixed text) && not (is_unread isa no_names entry k (codes "V0"))

unfoldable pub is_waiting : Isa → Names → Bool → Entry → ℕ → List ℕ → Bool
is_waiting isa fixed behind entry k text =
    (behind || not (is_taken_at_once entry)) && (is_number_at isa no_names entry k text
    && (not (is_register_at isa fixed entry k text) && hangs_on_addresses isa fixed entry text))
