-- The habits of other assemblers and languages, as rows of tables: what is sought, and what is said where it is found.
use Rattle.std.specs.Prelude.{ℕ, List, [], ◌∷◌, map, codes}
use Rattle.asm_lex.specs.declared.shape.Isa.{Isa}
use Rattle.asm_lex.specs.declared.shape.Isa.TheVariants.{Cdp1802, Chip8}
use Rattle.asm_core.specs.declared.fault.AsmCause.{AsmCause}
use Rattle.asm_core.specs.declared.fault.AsmCause.TheVariants.{BadText, UnknownMnemonic, BadOperand, Range, Undefined, OffPage}
use Rattle.asm_listing.specs.declared.habits.Row.{Row as Given}
use Rattle.asm_listing.specs.declared.habits.Shape.{Shape as GivenShape}
use Rattle.asm_listing.specs.declared.habits.Shape.TheVariants as given
use Rattle.asm_listing.specs.declared.habits.After.{After}
use Rattle.asm_listing.specs.declared.habits.After.TheVariants.{AnyWord, Bare, Registers, Ports, Bytes, Single, GameBytes, These}
use Rattle.asm_listing.specs.declared.habits.Class.{Class}
use Rattle.asm_listing.specs.declared.habits.Class.TheVariants.{Any, Hexadecimal, HexNumber, HexDigit, Digit, Port, Decimal, Binary, Character, Name, Number}

-- what a text has to be: one of these words, what begins and ends so with such a text between, or what has this in it
pub data Shape : Type 0 where
  Words : List (List ℕ) → Shape
  Between : List ℕ → Class → List ℕ → Shape
  Holds : List ℕ → Shape

-- a habit: the words of a line in which it is sought, or none for any, what the culprit has to be, what the first operand has to begin with, and what is said
pub record Row : Type 0 where
  pub after : List (List ℕ)
  pub shape : Shape
  pub behind : List ℕ
  pub says : List ℕ

-- the same of a row of the program
abbrev pub shape_of : GivenShape → Shape
shape_of (given.Words words) = Words (map (λ word. word.now) words.now)
shape_of (given.Between front class back) = Between front.now class back.now
shape_of (given.Holds piece) = Holds piece.now

-- the words of the CDP1802 that take no operand
abbrev bare : List (List ℕ)
bare = codes "IDL" ∷ codes "LDX" ∷ codes "LDXA" ∷ codes "STXD" ∷ codes "IRX" ∷ codes "RET" ∷ codes "DIS" ∷ codes "SAV" ∷ codes "MARK" ∷ codes "REQ" ∷ codes "SEQ" ∷ codes "NOP" ∷ codes "ADC" ∷ codes "ADD" ∷ codes "SDB" ∷ codes "SD" ∷ codes "SMB" ∷ codes "SM" ∷ codes "OR" ∷ codes "AND" ∷ codes "XOR" ∷ codes "SHR" ∷ codes "SHRC" ∷ codes "SHL" ∷ codes "SHLC" ∷ codes "SKP" ∷ codes "LSKP" ∷ codes "LSQ" ∷ codes "LSNQ" ∷ codes "LSZ" ∷ codes "LSNZ" ∷ codes "LSDF" ∷ codes "LSNF" ∷ codes "LSIE" ∷ []

-- those that take a register
abbrev pub registers : List (List ℕ)
registers = codes "LDN" ∷ codes "LDA" ∷ codes "STR" ∷ codes "INC" ∷ codes "DEC" ∷ codes "GLO" ∷ codes "GHI" ∷ codes "PLO" ∷ codes "PHI" ∷ codes "SEP" ∷ codes "SEX" ∷ []

-- those that take a port
abbrev ports : List (List ℕ)
ports = codes "OUT" ∷ codes "INP" ∷ []

-- those that take a byte
abbrev bytes : List (List ℕ)
bytes = codes "LDI" ∷ codes "ORI" ∷ codes "ANI" ∷ codes "XRI" ∷ codes "ADI" ∷ codes "SDI" ∷ codes "SMI" ∷ codes "ADCI" ∷ codes "SDBI" ∷ codes "SMBI" ∷ codes "DB" ∷ []

-- those that take one expression
abbrev single : List (List ℕ)
single = codes "LDI" ∷ codes "ORI" ∷ codes "ANI" ∷ codes "XRI" ∷ codes "ADI" ∷ codes "SDI" ∷ codes "SMI" ∷ codes "ADCI" ∷ codes "SDBI" ∷ codes "SMBI" ∷ codes "BR" ∷ codes "BQ" ∷ codes "BZ" ∷ codes "BDF" ∷ codes "BNQ" ∷ codes "BNZ" ∷ codes "BNF" ∷ codes "B1" ∷ codes "B2" ∷ codes "B3" ∷ codes "B4" ∷ codes "BN1" ∷ codes "BN2" ∷ codes "BN3" ∷ codes "BN4" ∷ codes "LBR" ∷ codes "LBQ" ∷ codes "LBZ" ∷ codes "LBDF" ∷ codes "LBNQ" ∷ codes "LBNZ" ∷ codes "LBNF" ∷ codes "ORG" ∷ codes "EQU" ∷ codes "DS" ∷ []

-- the words of CHIP-8 that take a byte
abbrev game_bytes : List (List ℕ)
game_bytes = codes "LD" ∷ codes "ADD" ∷ codes "SE" ∷ codes "SNE" ∷ codes "RND" ∷ codes "DB" ∷ []

-- the words of a line in which the program seeks a row's habit; none for any
abbrev pub words_of : After → List (List ℕ)
words_of AnyWord = []
words_of Bare = bare
words_of Registers = registers
words_of Ports = ports
words_of Bytes = bytes
words_of Single = single
words_of GameBytes = game_bytes
words_of (These words) = map (λ word. word.now) words.now

abbrev pub row_of : Given → Row
row_of row = record { after = words_of row.after; shape = shape_of row.shape; behind = row.behind.now; says = row.says.now }

abbrev row : List (List ℕ) → Shape → List ℕ → List ℕ → Row
row after shape behind says = record { after = after; shape = shape; behind = behind; says = says }

-- of the words of other assemblers and processors
unfoldable pub words : List Row
words =
    row [] (Words (codes "BGE" ∷ codes "BPZ" ∷ [])) [] (codes "use BDF") ∷
    row [] (Words (codes "BM" ∷ codes "BL" ∷ [])) [] (codes "use BNF") ∷
    row [] (Words (codes "NBR" ∷ [])) [] (codes "use SKP") ∷
    row [] (Words (codes "NLBR" ∷ [])) [] (codes "use LSKP") ∷
    row [] (Words (codes "RSHL" ∷ [])) [] (codes "use SHLC") ∷
    row [] (Words (codes "RSHR" ∷ [])) [] (codes "use SHRC") ∷
    row [] (Words (codes "HLT" ∷ codes "HALT" ∷ [])) [] (codes "use IDL") ∷
    row [] (Words (codes "SUB" ∷ [])) [] (codes "use SM, or SMI with a number") ∷
    row [] (Words (codes "BYTE" ∷ codes "FCB" ∷ codes "FCC" ∷ codes "DC" ∷ codes "TEXT" ∷ codes "ASCII" ∷ codes "DEFB" ∷ codes "DEFM" ∷ codes ".BYTE" ∷ codes ".DB" ∷ codes ".TEXT" ∷ codes ".ASCII" ∷ [])) [] (codes "use DB with numbers") ∷
    row [] (Words (codes "WORD" ∷ codes "FDB" ∷ codes "ADDR" ∷ codes "DEFW" ∷ codes ".WORD" ∷ codes ".DW" ∷ [])) [] (codes "use DW") ∷
    row [] (Words (codes "BLK" ∷ codes "RMB" ∷ codes "BSS" ∷ codes "DEFS" ∷ codes "RES" ∷ codes ".BLOCK" ∷ codes ".DS" ∷ [])) [] (codes "use DS") ∷
    row [] (Words (codes "=" ∷ codes "SET" ∷ codes ".EQU" ∷ codes ".SET" ∷ [])) [] (codes "use EQU") ∷
    row [] (Words (codes ".ORG" ∷ [])) [] (codes "use ORG") ∷
    row [] (Between [] Name []) (codes "= ") (codes "use EQU with a label: @: EQU ~") ∷
    row [] (Between [] Name []) (codes "SET ") (codes "use EQU with a label: @: EQU ~") ∷
    row [] (Between [] Name []) (codes ".EQU ") (codes "use EQU with a label: @: EQU ~") ∷
    row [] (Words (codes "CALL" ∷ codes "RETN" ∷ codes "SCAL" ∷ codes "SRET" ∷ codes "JSR" ∷ codes "BSR" ∷ codes "RTS" ∷ codes "GOSUB" ∷ [])) [] (codes "not an 1802 instruction: call by SEP or by a routine of your own, docs/FIRST_1802.md") ∷
    row [] (Words (codes "JMP" ∷ codes "JUMP" ∷ codes "BRA" ∷ codes "GOTO" ∷ [])) [] (codes "not an 1802 instruction: use BR, or LBR to another page") ∷
    row [] (Words (codes "MOV" ∷ codes "MVI" ∷ codes "LXI" ∷ codes "STA" ∷ codes "LDAA" ∷ codes "STAA" ∷ codes "PUSH" ∷ codes "POP" ∷ codes "CMP" ∷ codes "CPI" ∷ codes "CLR" ∷ codes "NOP2" ∷ [])) [] (codes "not an 1802 instruction") ∷
    row [] (Words (codes "RLDI" ∷ codes "RLXA" ∷ codes "RSXD" ∷ codes "RNX" ∷ codes "DBNZ" ∷ codes "LDC" ∷ codes "GEC" ∷ codes "STPC" ∷ codes "DTC" ∷ codes "STM" ∷ codes "ETQ" ∷ codes "XIE" ∷ codes "XID" ∷ codes "CIE" ∷ codes "CID" ∷ [])) [] (codes "an 1804 instruction, not an 1802 instruction") ∷
    row [] (Words (codes "CLS" ∷ codes "SYS" ∷ codes "JP" ∷ codes "SE" ∷ codes "SNE" ∷ codes "LD" ∷ codes "SUBN" ∷ codes "RND" ∷ codes "DRW" ∷ codes "SKNP" ∷ [])) [] (codes "a CHIP-8 mnemonic: add --chip8") ∷
    row [] (Words (codes "CPU" ∷ codes "TITLE" ∷ codes "END" ∷ codes "LIST" ∷ codes "NOLIST" ∷ codes "EJECT" ∷ codes "PRINT" ∷ [])) [] (codes "delete the line") ∷
    row [] (Words (codes "INCLUDE" ∷ codes "#INCLUDE" ∷ [])) [] (codes "insert the lines of that file here") ∷
    row [] (Words (codes "MACRO" ∷ codes "ENDM" ∷ codes "IF" ∷ codes "ELSE" ∷ codes "ENDIF" ∷ [])) [] (codes "macros and conditions are not supported") ∷
    row [] (Between (codes "..") Any []) [] (codes "a comment begins with ;") ∷
    row [] (Between (codes "//") Any []) [] (codes "a comment begins with ;") ∷
    row [] (Between (codes "*") Any []) [] (codes "a comment begins with ;") ∷
    row [] (Between (codes "#") Any []) [] (codes "a comment begins with ;") ∷
    row [] (Holds (codes "=")) [] (codes "use EQU with a label: SP: EQU 2") ∷ []

-- of the operands of the CDP1802
unfoldable pub operands : List Row
operands =
    row [] (Holds (codes " ..")) [] (codes "a comment begins with ;") ∷
    row [] (Holds (codes " //")) [] (codes "a comment begins with ;") ∷
    row [] (Holds (codes " *")) [] (codes "a comment begins with ;") ∷
    row [] (Holds (codes " #")) [] (codes "a comment begins with ;") ∷
    row [] (Between (codes "..") Any []) [] (codes "a comment begins with ;") ∷
    row [] (Between (codes "//") Any []) [] (codes "a comment begins with ;") ∷
    row bare (Between (codes "*") Any []) [] (codes "a comment begins with ;") ∷
    row bare (Between (codes "# ") Any []) [] (codes "a comment begins with ;") ∷
    row [] (Between (codes "V") HexDigit []) [] (codes "V@ is a CHIP-8 register: add --chip8") ∷
    row (codes "ADD" ∷ []) (Between [] Any []) [] (codes "with a number use ADI") ∷
    row (codes "ADC" ∷ []) (Between [] Any []) [] (codes "with a number use ADCI") ∷
    row (codes "SD" ∷ []) (Between [] Any []) [] (codes "with a number use SDI") ∷
    row (codes "SDB" ∷ []) (Between [] Any []) [] (codes "with a number use SDBI") ∷
    row (codes "SM" ∷ []) (Between [] Any []) [] (codes "with a number use SMI") ∷
    row (codes "SMB" ∷ []) (Between [] Any []) [] (codes "with a number use SMBI") ∷
    row (codes "AND" ∷ []) (Between [] Any []) [] (codes "with a number use ANI") ∷
    row (codes "OR" ∷ []) (Between [] Any []) [] (codes "with a number use ORI") ∷
    row (codes "XOR" ∷ []) (Between [] Any []) [] (codes "with a number use XRI") ∷
    row (codes "LDX" ∷ []) (Between [] Any []) [] (codes "with a number use LDI") ∷
    row bare (Between [] Any []) [] (codes "| takes no operand") ∷
    row ports (Between [] Port []) [] (codes "write the port as ^") ∷
    row ports (Between (codes "#") Port []) [] (codes "write the port as ^") ∷
    row ports (Between (codes "$") Port []) [] (codes "write the port as ^") ∷
    row ports (Between (codes "0x") Port []) [] (codes "write the port as ^") ∷
    row ports (Between [] Port (codes "H")) [] (codes "write the port as ^") ∷
    row ports (Between (codes "X'") Port (codes "'")) [] (codes "write the port as ^") ∷
    row ports (Between [] Any []) [] (codes "a port is a digit from 1 to 7") ∷
    row (codes "LDN" ∷ []) (Words (codes "0" ∷ codes "R0" ∷ [])) [] (codes "LDN doesn't take R0: opcode 00 is IDL") ∷
    row registers (Words (codes "D" ∷ [])) [] (codes "D is the accumulator, not a register") ∷
    row registers (Words (codes "10" ∷ codes "R10" ∷ [])) [] (codes "write the register as RA, one hexadecimal digit") ∷
    row registers (Words (codes "11" ∷ codes "R11" ∷ [])) [] (codes "write the register as RB, one hexadecimal digit") ∷
    row registers (Words (codes "12" ∷ codes "R12" ∷ [])) [] (codes "write the register as RC, one hexadecimal digit") ∷
    row registers (Words (codes "13" ∷ codes "R13" ∷ [])) [] (codes "write the register as RD, one hexadecimal digit") ∷
    row registers (Words (codes "14" ∷ codes "R14" ∷ [])) [] (codes "write the register as RE, one hexadecimal digit") ∷
    row registers (Words (codes "15" ∷ codes "R15" ∷ [])) [] (codes "write the register as RF, one hexadecimal digit") ∷
    row registers (Between [] Digit []) [] (codes "write the register as R^") ∷
    row registers (Between (codes "#") Digit []) [] (codes "write the register as R^") ∷
    row registers (Between (codes "$") Digit []) [] (codes "write the register as R^") ∷
    row registers (Between (codes "0x") Digit []) [] (codes "write the register as R^") ∷
    row registers (Between [] Digit (codes "H")) [] (codes "write the register as R^") ∷
    row registers (Between (codes "X'") Digit (codes "'")) [] (codes "write the register as R^") ∷
    row registers (Words registers) [] (codes "a register is missing: R0 to RF") ∷
    row registers (Between (codes "R") HexDigit []) [] (codes "| takes one register") ∷
    row registers (Between [] Name []) [] (codes "registers have no names: use R0 to RF") ∷
    row registers (Between [] Any []) [] (codes "use a register, R0 to RF") ∷
    row (codes "PAGE" ∷ []) (Between [] Any []) [] (codes "PAGE takes no operand; if it is for a listing, delete the line") ∷
    row (codes "EQU" ∷ []) (Words (codes "EQU" ∷ [])) [] (codes "use EQU with a label and a number: SP: EQU 2") ∷
    row single (Between [] Decimal []) [] (codes "| takes one number") ∷
    row [] (Between (codes "#") Hexadecimal []) [] (codes "write hexadecimal as 0x@") ∷
    row [] (Between (codes "$") Hexadecimal []) [] (codes "write hexadecimal as 0x@") ∷
    row [] (Between (codes "0X") Hexadecimal []) [] (codes "write hexadecimal as 0x@") ∷
    row [] (Between (codes "X'") Hexadecimal (codes "'")) [] (codes "write hexadecimal as 0x@") ∷
    row [] (Between (codes "%") Binary []) [] (codes "binary is not supported: use 0x%") ∷
    row [] (Between (codes "0b") Binary []) [] (codes "binary is not supported: use 0x%") ∷
    row [] (Between (codes "B'") Binary (codes "'")) [] (codes "binary is not supported: use 0x%") ∷
    row [] (Between [] Binary (codes "B")) [] (codes "binary is not supported: use 0x%") ∷
    row [] (Between [] HexNumber (codes "H")) [] (codes "write hexadecimal as 0x@") ∷
    row [] (Between [] HexNumber []) [] (codes "write hexadecimal as 0x@") ∷
    row [] (Between (codes "'") Character (codes "'")) [] (codes "write the character as 0x&") ∷
    row [] (Between (codes "\"") Character (codes "\"")) [] (codes "write the character as 0x&") ∷
    row [] (Between (codes "'") Any []) [] (codes "write a text as DB with numbers: 0x41 for A") ∷
    row [] (Between (codes "\"") Any []) [] (codes "write a text as DB with numbers: 0x41 for A") ∷
    row [] (Between (codes "T'") Any []) [] (codes "write a text as DB with numbers: 0x41 for A") ∷
    row [] (Between (codes "A.1(") Any (codes ")")) [] (codes "write the high byte as >@") ∷
    row [] (Between (codes "HIGH(") Any (codes ")")) [] (codes "write the high byte as >@") ∷
    row [] (Between (codes "HIGH ") Any []) [] (codes "write the high byte as >@") ∷
    row [] (Between [] Name (codes ".1")) [] (codes "write the high byte as >@") ∷
    row [] (Between (codes "A.0(") Any (codes ")")) [] (codes "write the low byte as <@") ∷
    row [] (Between (codes "LOW(") Any (codes ")")) [] (codes "write the low byte as <@") ∷
    row [] (Between (codes "LOW ") Any []) [] (codes "write the low byte as <@") ∷
    row [] (Between [] Name (codes ".0")) [] (codes "write the low byte as <@") ∷
    row [] (Between (codes "*") Any []) [] (codes "use $ for this address") ∷
    row bytes (Between (codes "-") Decimal []) [] (codes "write it without a sign: 256-@") ∷
    row [] (Between (codes "-") Any []) [] (codes "an expression can't begin with a sign") ∷
    row [] (Between (codes "+") Any []) [] (codes "an expression can't begin with a sign") ∷
    row [] (Between (codes "(") Any []) [] (codes "parentheses are not supported") ∷
    row [] (Between (codes "R") HexDigit []) [] (codes "R@ is a register, not a number") ∷
    row [] (Holds (codes " ")) [] (codes "an expression can't contain blanks") ∷ []

-- of the labels of the CDP1802
unfoldable pub labels : List Row
labels =
    row [] (Between (codes "..") Any []) [] (codes "a comment begins with ;") ∷
    row [] (Between (codes "//") Any []) [] (codes "a comment begins with ;") ∷
    row [] (Between (codes "*") Any []) [] (codes "a comment begins with ;") ∷
    row [] (Between (codes "#") Any []) [] (codes "a comment begins with ;") ∷
    row [] (Holds (codes " ..")) [] (codes "a comment begins with ;") ∷
    row [] (Holds (codes " //")) [] (codes "a comment begins with ;") ∷
    row [] (Holds (codes " *")) [] (codes "a comment begins with ;") ∷
    row [] (Holds (codes " #")) [] (codes "a comment begins with ;") ∷
    row [] (Between (codes "R") HexDigit []) [] (codes "R@ is a register") ∷
    row [] (Between [] Name (codes " ")) [] (codes "put the colon directly after the label: @:") ∷ []

-- of the values of the CDP1802 that are out of range
unfoldable pub ranges : List Row
ranges =
    row bytes (Between [] Number []) [] (codes "a byte is 0 to 255") ∷
    row [] (Between (codes "<") Any []) [] (codes "the sum is below 0 or above 65535") ∷
    row [] (Between (codes ">") Any []) [] (codes "the sum is below 0 or above 65535") ∷
    row bytes (Between [] Any []) [] (codes "a byte is 0 to 255: <@ is the low byte") ∷ []

-- of the names without a value of the CDP1802
unfoldable pub undefined : List Row
undefined =
    row [] (Between [] Hexadecimal (codes "H")) [] (codes "write hexadecimal as 0x@") ∷
    row [] (Between (codes "V") HexDigit []) [] (codes "V@ is a CHIP-8 register: add --chip8") ∷
    row [] (Between [] Hexadecimal []) [] (codes "write hexadecimal as 0x@, unless it is a name") ∷ []

-- of the targets on another page
unfoldable pub targets : List Row
targets =
    row (codes "BR" ∷ codes "BQ" ∷ codes "BZ" ∷ codes "BDF" ∷ codes "BNQ" ∷ codes "BNZ" ∷ codes "BNF" ∷ []) (Between [] Any []) [] (codes "use L|, which reaches every page") ∷
    row [] (Between [] Any []) [] (codes "put PAGE before both to put them on one page") ∷ []

-- of Octo's statements without a colon
unfoldable pub octo_words : List Row
octo_words =
    row [] (Between [] Any []) (codes "+= ") (codes "ADD @, ~") ∷
    row [] (Between [] Any []) (codes "-= ") (codes "SUB @, ~; with a number ADD @, 256-~") ∷
    row [] (Between [] Any []) (codes "=- ") (codes "SUBN @, ~") ∷
    row [] (Between [] Any []) (codes "|= ") (codes "OR @, ~") ∷
    row [] (Between [] Any []) (codes "&= ") (codes "AND @, ~") ∷
    row [] (Between [] Any []) (codes "^= ") (codes "XOR @, ~") ∷
    row [] (Between [] Any []) (codes ">>= ") (codes "SHR @, ~") ∷
    row [] (Between [] Any []) (codes "<<= ") (codes "SHL @, ~") ∷
    row [] (Words (codes "jump" ∷ [])) [] (codes "JP ~") ∷
    row [] (Words (codes "jump0" ∷ [])) [] (codes "JP V0, ~") ∷
    row [] (Words (codes "return" ∷ [])) [] (codes "RET") ∷
    row [] (Words (codes "clear" ∷ [])) [] (codes "CLS") ∷
    row [] (Words (codes "sprite" ∷ [])) [] (codes "use DRW with commas: DRW V0, V1, 5") ∷
    row [] (Words (codes "bcd" ∷ [])) [] (codes "LD B, ~") ∷
    row [] (Words (codes "save" ∷ [])) [] (codes "LD [I], ~") ∷
    row [] (Words (codes "load" ∷ [])) [] (codes "LD ~, [I]") ∷
    row [] (Words (codes "native" ∷ [])) [] (codes "SYS ~") ∷
    row [] (Words (codes "loop" ∷ [])) [] (codes "use a label, and JP to it in place of again") ∷
    row [] (Words (codes "again" ∷ [])) [] (codes "use JP to the label in place of loop") ∷
    row [] (Words (codes "if" ∷ [])) [] (codes "use SNE for == and SE for !=: each skips one instruction") ∷
    row [] (Words (codes "else" ∷ codes "begin" ∷ codes "while" ∷ [])) [] (codes "use SE or SNE, which skip one instruction, and JP") ∷ []

-- of the words of other assemblers of CHIP-8
unfoldable pub game_words : List Row
game_words =
    row [] (Words (codes "hires" ∷ codes "lores" ∷ codes "scroll-down" ∷ codes "scroll-left" ∷ codes "scroll-right" ∷ codes "plane" ∷ codes "audio" ∷ codes "bighex" ∷ [])) [] (codes "a SUPER-CHIP or XO-CHIP instruction, not supported here") ∷
    row [] (Words (codes "SCD" ∷ codes "SCR" ∷ codes "SCL" ∷ codes "EXIT" ∷ codes "LOW" ∷ codes "HIGH" ∷ [])) [] (codes "a SUPER-CHIP or XO-CHIP instruction, not supported here") ∷
    row [] (Words (codes "DA" ∷ codes "FCB" ∷ codes "BYTE" ∷ codes "TEXT" ∷ codes "ASCII" ∷ [])) [] (codes "use DB with numbers") ∷
    row [] (Words (codes "FDB" ∷ codes "WORD" ∷ [])) [] (codes "use DW") ∷
    row [] (Words (codes "=" ∷ codes "SET" ∷ codes ".EQU" ∷ [])) [] (codes "use EQU") ∷
    row [] (Between [] Name []) (codes "= ") (codes "use EQU with a label: @: EQU ~") ∷
    row [] (Words (codes "CPU" ∷ codes "TITLE" ∷ codes "END" ∷ codes "OPTION" ∷ codes "XREF" ∷ codes "LIST" ∷ [])) [] (codes "delete the line") ∷
    row [] (Words (codes "ALIGN" ∷ [])) [] (codes "an instruction can be at any address: delete the line") ∷
    row [] (Words (codes "INCLUDE" ∷ [])) [] (codes "insert the lines of that file here") ∷
    row [] (Words (codes "LDI" ∷ codes "LDA" ∷ codes "LDN" ∷ codes "STR" ∷ codes "INC" ∷ codes "DEC" ∷ codes "GLO" ∷ codes "GHI" ∷ codes "PLO" ∷ codes "PHI" ∷ codes "SEP" ∷ codes "SEX" ∷ codes "BR" ∷ codes "LBR" ∷ codes "BZ" ∷ codes "BNZ" ∷ codes "IDL" ∷ codes "OUT" ∷ codes "INP" ∷ [])) [] (codes "an 1802 mnemonic: leave out --chip8") ∷
    row [] (Between (codes "#") Any []) [] (codes "a comment begins with ;") ∷
    row [] (Between (codes "//") Any []) [] (codes "a comment begins with ;") ∷
    row [] (Between [] Number []) [] (codes "write bytes after DB, separated by commas") ∷ []

-- of Octo's statements with a colon
unfoldable pub octo_labels : List Row
octo_labels =
    row [] (Between (codes "if ") Any []) [] (codes "use SNE for == and SE for !=: each skips one instruction") ∷
    row (codes "=" ∷ []) (Words (codes "delay " ∷ [])) [] (codes "LD DT, ~") ∷
    row (codes "=" ∷ []) (Words (codes "buzzer " ∷ [])) [] (codes "LD ST, ~") ∷
    row (codes "=" ∷ []) (Between [] Any (codes " ")) (codes "random ") (codes "RND @, ~") ∷
    row (codes "=" ∷ []) (Between [] Any (codes " ")) (codes "key") (codes "LD @, K") ∷
    row (codes "=" ∷ []) (Between [] Any (codes " ")) (codes "delay") (codes "LD @, DT") ∷
    row (codes "=" ∷ []) (Between [] Any (codes " ")) (codes "hex ") (codes "LD F, ~") ∷
    row (codes "=" ∷ []) (Between [] Any (codes " ")) (codes "-") (codes "LD @, 256-~") ∷
    row (codes "=" ∷ []) (Between [] Any (codes " ")) [] (codes "LD @, ~") ∷
    row (codes "alias" ∷ []) (Words ([] ∷ [])) [] (codes "use EQU with a label: x: EQU V0") ∷
    row (codes "const" ∷ codes "calc" ∷ []) (Words ([] ∷ [])) [] (codes "use EQU with a label: x: EQU 5") ∷
    row (codes "macro" ∷ []) (Words ([] ∷ [])) [] (codes "macros are not supported") ∷
    row (codes "org" ∷ []) (Words ([] ∷ [])) [] (codes "ORG ~") ∷
    row (codes "byte" ∷ []) (Words ([] ∷ [])) [] (codes "DB ~") ∷
    row (codes "call" ∷ []) (Words ([] ∷ [])) [] (codes "CALL ~") ∷
    row [] (Words ([] ∷ [])) [] (codes "write a label as |:") ∷ []

-- of the labels of CHIP-8
unfoldable pub game_labels : List Row
game_labels =
    row [] (Between (codes "V") HexDigit []) [] (codes "V@ is a register") ∷
    row [] (Words (codes "I" ∷ codes "DT" ∷ codes "ST" ∷ codes "K" ∷ codes "F" ∷ codes "B" ∷ [])) [] (codes "@ is a reserved operand name") ∷
    row [] (Between [] Name (codes " ")) [] (codes "put the colon directly after the label: @:") ∷
    row [] (Between (codes "#") Any []) [] (codes "a comment begins with ;") ∷
    row [] (Between (codes "//") Any []) [] (codes "a comment begins with ;") ∷ []

-- of the operands of CHIP-8
unfoldable pub game_operands : List Row
game_operands =
    row [] (Words (codes "JP" ∷ codes "CALL" ∷ codes "SYS" ∷ codes "SE" ∷ codes "SNE" ∷ codes "LD" ∷ codes "ADD" ∷ codes "OR" ∷ codes "AND" ∷ codes "XOR" ∷ codes "SUB" ∷ codes "SUBN" ∷ codes "SHR" ∷ codes "SHL" ∷ codes "RND" ∷ codes "DRW" ∷ codes "SKP" ∷ codes "SKNP" ∷ codes "DB" ∷ codes "DW" ∷ codes "DS" ∷ codes "ORG" ∷ [])) [] (codes "an operand is missing") ∷
    row (codes "EQU" ∷ []) (Words (codes "EQU" ∷ [])) [] (codes "use EQU with a label and a number: x: EQU 2") ∷
    row [] (Holds (codes " //")) [] (codes "a comment begins with ;") ∷
    row [] (Holds (codes " #")) [] (codes "a comment begins with ;") ∷
    row (codes "SUB" ∷ []) (Between [] Decimal []) [] (codes "SUB takes two registers: use ADD with 256-@") ∷
    row (codes "SUB" ∷ codes "SUBN" ∷ codes "OR" ∷ codes "AND" ∷ codes "XOR" ∷ codes "SHR" ∷ codes "SHL" ∷ []) (Between [] Number []) [] (codes "| takes registers") ∷
    row [] (Between [] Decimal []) [] (codes "a number can't be used here") ∷
    row [] (Between (codes "$") Binary []) [] (codes "write binary as 0b@") ∷
    row [] (Between (codes "%") Binary []) [] (codes "write binary as 0b@") ∷
    row [] (Between (codes "0B") Binary []) [] (codes "write binary as 0b@") ∷
    row [] (Between (codes "B'") Binary (codes "'")) [] (codes "write binary as 0b@") ∷
    row [] (Between [] Binary (codes "B")) [] (codes "write binary as 0b@") ∷
    row [] (Between (codes "0b") Any []) [] (codes "a binary number has only the digits 0 and 1") ∷
    row [] (Between (codes "#") Hexadecimal []) [] (codes "write hexadecimal as 0x@") ∷
    row [] (Between (codes "$") Hexadecimal []) [] (codes "write hexadecimal as 0x@") ∷
    row [] (Between (codes "0X") Hexadecimal []) [] (codes "write hexadecimal as 0x@") ∷
    row [] (Between [] HexNumber (codes "H")) [] (codes "write hexadecimal as 0x@") ∷
    row [] (Between [] HexNumber []) [] (codes "write hexadecimal as 0x@") ∷
    row [] (Between (codes "'") Character (codes "'")) [] (codes "write the character as 0x&") ∷
    row [] (Between (codes "\"") Character (codes "\"")) [] (codes "write the character as 0x&") ∷
    row [] (Between (codes "'") Any []) [] (codes "write a text as DB with numbers: 0x41 for A") ∷
    row [] (Between (codes "\"") Any []) [] (codes "write a text as DB with numbers: 0x41 for A") ∷
    row [] (Between (codes "[ I") Any (codes "]")) [] (codes "write [I] without blanks") ∷
    row game_bytes (Between (codes "-") Decimal []) [] (codes "write it without a sign: 256-@") ∷
    row [] (Between (codes "-") Any []) [] (codes "an expression can't begin with a sign") ∷
    row [] (Between (codes "*") Any []) [] (codes "use $ for this address") ∷
    row [] (Words (codes "R" ∷ codes "HF" ∷ [])) [] (codes "a SUPER-CHIP operand, not supported here") ∷
    row [] (Words (codes "I" ∷ codes "[I]" ∷ codes "DT" ∷ codes "ST" ∷ codes "K" ∷ codes "F" ∷ codes "B" ∷ [])) [] (codes "a reserved operand name, which can't be used here") ∷
    row [] (Between (codes "V1") Decimal []) [] (codes "a register is one hexadecimal digit, V0 to VF") ∷
    row [] (Between (codes "R") HexDigit []) [] (codes "registers are V0 to VF") ∷
    row [] (Between (codes "HIGH(") Any (codes ")")) [] (codes "write the high byte as >@") ∷
    row [] (Between (codes "LOW(") Any (codes ")")) [] (codes "write the low byte as <@") ∷
    row [] (Holds (codes " ")) [] (codes "an expression can't contain blanks, and commas separate operands") ∷
    row [] (Between [] Name []) [] (codes "use a register, or a name that an earlier line gives a register") ∷ []

-- of the values of CHIP-8 that are out of range
unfoldable pub game_ranges : List Row
game_ranges =
    row (codes "LD" ∷ []) (Between [] Any []) (codes "I") (codes "an address is 0 to 4095") ∷
    row (codes "LD" ∷ []) (Between [] Name []) [] (codes "a byte is 0 to 255: load an address into I, LD I, @") ∷
    row game_bytes (Between [] Number []) [] (codes "a byte is 0 to 255") ∷
    row game_bytes (Between [] Any []) [] (codes "a byte is 0 to 255: <@ is the low byte") ∷
    row (codes "DRW" ∷ []) (Between [] Any []) [] (codes "a sprite has 0 to 15 rows") ∷
    row (codes "ORG" ∷ []) (Between [] Any []) [] (codes "a game is at 0x200 to 0xFFF") ∷
    row (codes "JP" ∷ codes "CALL" ∷ codes "SYS" ∷ []) (Between [] Any []) [] (codes "an address is 0 to 4095") ∷ []

-- of the names without a value of CHIP-8
unfoldable pub game_undefined : List Row
game_undefined =
    row [] (Between [] Hexadecimal (codes "H")) [] (codes "write hexadecimal as 0x@") ∷
    row [] (Between (codes "R") HexDigit []) [] (codes "registers are V0 to VF") ∷
    row [] (Between [] Hexadecimal []) [] (codes "write hexadecimal as 0x@, unless it is a name") ∷ []

abbrev pub octo_statements : AsmCause → List Row
octo_statements BadText = octo_labels
octo_statements UnknownMnemonic = octo_words
octo_statements _ = []

abbrev pub processor_rows : AsmCause → List Row
processor_rows BadText = labels
processor_rows UnknownMnemonic = words
processor_rows BadOperand = operands
processor_rows Range = ranges
processor_rows Undefined = undefined
processor_rows OffPage = targets
processor_rows _ = []

abbrev pub game_rows : AsmCause → List Row
game_rows BadText = game_labels
game_rows UnknownMnemonic = game_words
game_rows BadOperand = game_operands
game_rows Range = game_ranges
game_rows Undefined = game_undefined
game_rows _ = []

-- the habits that are sought where a source of an instruction set has a fault of this cause
unfoldable pub rows : Isa → AsmCause → List Row
rows Cdp1802 cause = processor_rows cause
rows Chip8 cause = game_rows cause

-- the statements of Octo among them, which are sought first
unfoldable pub octo_rows : Isa → AsmCause → List Row
octo_rows Cdp1802 cause = []
octo_rows Chip8 cause = octo_statements cause
