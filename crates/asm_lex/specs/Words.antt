-- Words: the mnemonics of an instruction set and the directives, in letters of either case, and the operands that each one takes.
use Rattle.std.specs.Prelude.{◌≡◌, ◌≤◌, ◌-◌, ◌==◌, ◌&&◌, ℕ, Bool, true, false, not, List, [], ◌∷◌, length, find, nat_le, codes, if◌then◌else◌, Option, Some, None, IsTrue, is_some, option_and_then, option_map}
use Rattle.std.specs.Option.{option_or}
use Rattle.std.specs.List.{list_all, range_with_len}
use Rattle.machine.specs.declared.Kind.{Kind}
use Rattle.machine.specs.Opcodes.{kind_of}
use Rattle.vip_isa.specs.Rows.{operands_of, least_of, greatest_of, opcode_of, size_of, mnemonic_of}
use Rattle.vip_isa.specs.declared.rows.Operands.{Operands}
use Rattle.vip_isa.specs.declared.rows.Operands.TheVariants.{Register, Port, Nothing, Data}
use Rattle.asm_lex.specs.declared.shape.Word.{Word}
use Rattle.asm_lex.specs.declared.shape.Word.TheVariants.{Code, Instruction, Org, Equ, EquRegister, Db, Dw, Ds, Page}
use Rattle.asm_lex.specs.declared.words.Entry.{Entry}
use Rattle.asm_lex.specs.declared.words.Entry.TheVariants.{Directive, Mnemonic, Words}
use Rattle.asm_lex.specs.declared.shape.Isa.{Isa}
use Rattle.asm_lex.specs.declared.shape.Isa.TheVariants.{Cdp1802, Chip8}
use Rattle.asm_lex.specs.Bytes.{spells, register_of, register_letter}
use Rattle.asm_lex.specs.Expressions.{is_expression}
use Rattle.asm_lex.specs.Names.{Names, is_number}
use Rattle.asm_lex.specs.Forms.{register_in, form_named, op_meaning, HasItsNumber}

-- the directive of a word
unfoldable pub directive_of : List ℕ → Option Word
directive_of word =
    if spells word (codes "ORG") then Some Org
    else if spells word (codes "EQU") then Some Equ
    else if spells word (codes "DB") then Some Db
    else if spells word (codes "DW") then Some Dw
    else if spells word (codes "DS") then Some Ds
    else if spells word (codes "PAGE") then Some Page
    else None

-- the opcodes 00 to FF
unfoldable pub opcodes : List ℕ
opcodes = range_with_len 0 256

-- the mnemonic of an opcode
unfoldable pub mnemonic_at : ℕ → List ℕ
mnemonic_at opcode = mnemonic_of (kind_of opcode)

-- the first opcode whose mnemonic the word is
unfoldable pub opcode_named : List ℕ → Option ℕ
opcode_named word = find (λ opcode. spells word (mnemonic_at opcode)) opcodes

-- the number that one operand writes into an opcode: a register
abbrev pub one_register : List (List ℕ) → Option ℕ
one_register [] = None
one_register (operand ∷ []) = register_of (register_letter Cdp1802) operand
one_register (operand ∷ more ∷ rest) = None

-- a port, which is one digit from 1 to 7
abbrev pub port_of : List ℕ → Option ℕ
port_of [] = None
port_of (digit ∷ []) = if nat_le 49 digit && nat_le digit 55 then Some (digit - 48) else None
port_of (digit ∷ more ∷ rest) = None

abbrev pub one_port : List (List ℕ) → Option ℕ
one_port [] = None
one_port (operand ∷ []) = port_of operand
one_port (operand ∷ more ∷ rest) = None

-- one operand that passes
abbrev pub is_one : (List ℕ → Bool) → List (List ℕ) → Bool
is_one passes [] = false
is_one passes (operand ∷ []) = passes operand
is_one passes (operand ∷ more ∷ rest) = false

-- one operand, a number; it stands behind the opcode and writes nothing into it
abbrev pub is_one_number : Isa → Names → List (List ℕ) → Bool
is_one_number isa names operands = is_one (is_number isa names) operands

-- no operand
abbrev pub are_none : List (List ℕ) → Bool
are_none operands = length operands == 0

-- one or more operands, each of which passes
abbrev pub are_some : (List ℕ → Bool) → List (List ℕ) → Bool
are_some passes operands = not (length operands == 0) && list_all passes operands

-- one or more operands, each one a number
abbrev pub are_numbers : Isa → Names → List (List ℕ) → Bool
are_numbers isa names operands = are_some (is_number isa names) operands

-- how many numbers a directive takes
pub data Numbers : Type 0 where
  NoDirective : Numbers
  Zero : Numbers
  One : Numbers
  OneOrMore : Numbers

abbrev pub numbers_of : Word → Numbers
numbers_of Org = One
numbers_of Equ = One
numbers_of Db = OneOrMore
numbers_of Dw = OneOrMore
numbers_of Ds = One
numbers_of Page = Zero
numbers_of _ = NoDirective

-- operands are so many, and each passes
abbrev pub are_so_many : (List ℕ → Bool) → Numbers → List (List ℕ) → Bool
are_so_many passes NoDirective operands = false
are_so_many passes Zero operands = are_none operands
are_so_many passes One operands = is_one passes operands
are_so_many passes OneOrMore operands = are_some passes operands

-- the number that the operands write into the opcode; none where they are wrong
abbrev pub number_written : Names → Operands → List (List ℕ) → Option ℕ
number_written names Register operands = one_register operands
number_written names Port operands = one_port operands
number_written names Nothing operands = if are_none operands then Some 0 else None
number_written names Data operands = if are_none operands then Some 0 else None
number_written names _ operands = if is_one_number Cdp1802 names operands then Some 0 else None

-- the opcode of a kind with such a number, where the kind can have it: LDN has no R0
abbrev pub with_number : Kind → ℕ → Option ℕ
with_number kind number =
    if nat_le (least_of kind) number && nat_le number (greatest_of kind) then Some (opcode_of (record { kind = kind; n = number })) else None

-- the opcode that a mnemonic means with its operands
unfoldable pub coded : Names → Kind → List (List ℕ) → Option ℕ
coded names kind operands = option_and_then (with_number kind) (number_written names (operands_of kind) operands)

-- the register that EQU gives its label: V0 to VF, or that of an earlier name
abbrev pub one_register_in : Names → List (List ℕ) → Option ℕ
one_register_in names [] = None
one_register_in names (operand ∷ []) = register_in names operand
one_register_in names (operand ∷ more ∷ rest) = None

unfoldable pub register_given : Isa → Names → List (List ℕ) → Option ℕ
register_given Cdp1802 names operands = None
register_given Chip8 names operands = one_register_in names operands

-- EQU names its label
abbrev pub may_stand : Word → Bool → Bool
may_stand Equ has_label = has_label
may_stand _ has_label = true

-- a directive has its operands, and EQU a label too
abbrev pub takes : Isa → Names → Word → Bool → List (List ℕ) → Bool
takes isa names directive has_label operands = may_stand directive has_label && are_so_many (is_number isa names) (numbers_of directive) operands

-- EQU with a register
abbrev pub gives_register : Isa → Names → Word → Bool → List (List ℕ) → Option ℕ
gives_register isa names Equ has_label operands = if has_label then register_given isa names operands else None
gives_register isa names _ has_label operands = None

abbrev pub directive_meaning : Isa → Names → Word → Bool → List (List ℕ) → Option Word
directive_meaning isa names directive has_label operands =
    option_or (option_map EquRegister (gives_register isa names directive has_label operands))
    (if takes isa names directive has_label operands then Some directive else None)

-- a word of the table is a directive, or a mnemonic: for the CDP1802 the first opcode that has it, for CHIP-8 the first form
unfoldable pub mnemonic_entry : Isa → List ℕ → Option Entry
mnemonic_entry Cdp1802 word = option_map Mnemonic (opcode_named word)
mnemonic_entry Chip8 word = option_map Words (form_named word)

unfoldable pub entry_of : Isa → List ℕ → Option Entry
entry_of isa word = if is_some (directive_of word) then option_map Directive (directive_of word) else mnemonic_entry isa word

-- what a word of the table means with its operands; none where they are wrong
unfoldable pub meaning_of : Isa → Names → Entry → Bool → List (List ℕ) → Option Word
meaning_of isa names (Directive directive) has_label operands = directive_meaning isa names directive has_label operands
meaning_of isa names (Mnemonic opcode) has_label operands = option_map Code (coded names (kind_of opcode) operands)
meaning_of isa names (Words form) has_label operands = option_map Instruction (op_meaning names form operands)

-- the size in bytes of an instruction with this opcode
unfoldable pub size_at : ℕ → ℕ
size_at opcode = size_of (kind_of opcode)

-- The operands that a word has: where bytes stand behind an opcode, they are one expression.
abbrev pub HasItsOperands : Isa → Option Word → List (List ℕ) → Type 0
HasItsOperands isa None operands = operands ≡ []
HasItsOperands isa (Some (Code opcode)) operands = (size_at opcode ≡ 1 → ⊥) → IsTrue (is_one (is_expression Cdp1802) operands)
HasItsOperands isa (Some (Instruction op)) operands = HasItsNumber op operands
HasItsOperands isa (Some (EquRegister register)) operands = register ≤ 15
HasItsOperands isa (Some directive) operands = IsTrue (are_so_many (is_expression isa) (numbers_of directive) operands)
