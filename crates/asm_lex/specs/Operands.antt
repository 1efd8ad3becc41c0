-- One operand of a line by itself, whatever the other operands are.
use Rattle.std.specs.Prelude.{◌&&◌, ◌||◌, ℕ, Bool, true, false, not, List, nat_lt, slice_get, Option}
use Rattle.std.specs.Option.{option_map_or}
use Rattle.std.specs.List.{list_any}
use Rattle.std.specs.Str.{bytes_eq}
use Rattle.chip8_words.specs.declared.table.Form.{Form}
use Rattle.chip8_words.specs.Table.{forms, mnemonic_of, operands_of}
use Rattle.asm_lex.specs.declared.shape.Isa.{Isa}
use Rattle.asm_lex.specs.declared.shape.Word.TheVariants.{Db, Dw}
use Rattle.asm_lex.specs.declared.words.Entry.{Entry}
use Rattle.asm_lex.specs.declared.words.Entry.TheVariants.{Directive, Mnemonic, Words}
use Rattle.asm_lex.specs.Bytes.{is_name}
use Rattle.asm_lex.specs.Forms.{is_operand}
use Rattle.asm_lex.specs.Names.{Names, is_number}
use Rattle.asm_lex.specs.Parts.{code_of, statement_of, word_of}
use Rattle.asm_lex.specs.Words.{entry_of, size_at}

-- a form with the mnemonic of another takes a text as its operand k, counted from 0
abbrev pub takes_at : Names → Form → ℕ → List ℕ → Form → Bool
takes_at names named k text form =
    bytes_eq (mnemonic_of form) (mnemonic_of named) && option_map_or (λ due. is_operand names due text) (slice_get (operands_of form) k) false

-- a word takes it there, in one of its forms
unfoldable pub is_taken : Isa → Names → Entry → ℕ → List ℕ → Bool
is_taken isa names (Words form) k text = list_any (takes_at names form k text) forms
is_taken isa names (Mnemonic opcode) k text = nat_lt 1 (size_at opcode) && is_number isa names text
is_taken isa names (Directive directive) k text = is_number isa names text

-- a word has operands that are judged one by one: those of CHIP-8, DB and DW
abbrev pub has_several : Entry → Bool
has_several (Words form) = true
has_several (Mnemonic opcode) = false
has_several (Directive Db) = true
has_several (Directive Dw) = true
has_several (Directive _) = false

-- it can't be read there; what a name stands for is for other lines to say
unfoldable pub is_unread : Isa → Names → Entry → ℕ → List ℕ → Bool
is_unread isa names entry k text = has_several entry && not (is_taken isa names entry k text || is_name isa text)

-- it stands there for a number
unfoldable pub is_number_at : Isa → Names → Entry → ℕ → List ℕ → Bool
is_number_at isa names entry k text = is_taken isa names entry k text && is_number isa names text

-- the entry of a line's word
abbrev pub line_entry : Isa → List ℕ → Option Entry
line_entry isa line = entry_of isa (word_of (statement_of (code_of line)))
