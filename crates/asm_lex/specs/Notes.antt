-- A comment that is itself an instruction, behind an instruction.
use Rattle.std.specs.Prelude.{◌+◌, ◌-◌, ◌&&◌, ℕ, Bool, true, false, List, length, nat_le, slice_get, if◌then◌else◌, Option, None, Some, is_none, option_and_then, Result, Ok, Err}
use Rattle.std.specs.Option.{option_map_or}
use Rattle.asm_lex.specs.declared.shape.Isa.{Isa}
use Rattle.asm_lex.specs.declared.shape.LexFault.{LexFault}
use Rattle.asm_lex.specs.declared.shape.Place.{Place}
use Rattle.asm_lex.specs.declared.shape.Span.{Span}
use Rattle.asm_lex.specs.declared.shape.Word.{Word}
use Rattle.asm_lex.specs.declared.shape.Word.TheVariants.{Code, Instruction}
use Rattle.asm_lex.specs.declared.words.Entry.{Entry}
use Rattle.asm_lex.specs.declared.words.Entry.TheVariants.{Directive}
use Rattle.asm_lex.specs.Bytes.{is_semicolon}
use Rattle.asm_lex.specs.Culprits.{lacks_colon}
use Rattle.asm_lex.specs.Cuts.{behind_first}
use Rattle.asm_lex.specs.Lines.{Parsed, parsed}
use Rattle.asm_lex.specs.Names.{Names}
use Rattle.asm_lex.specs.Parts.{code_of, statement_of, word_of, behind_word}
use Rattle.asm_lex.specs.Places.{word_span, operand_spans}
use Rattle.asm_lex.specs.Words.{entry_of}

-- an entry of the table that isn't a directive
abbrev pub is_mnemonic : Option Entry → Bool
is_mnemonic None = false
is_mnemonic (Some (Directive word)) = false
is_mnemonic (Some _) = true

-- a line's code begins an instruction, whatever is wrong in it: its word is a mnemonic, or the one behind a label that lacks its colon
abbrev pub begins_instruction : Isa → List ℕ → Bool
begins_instruction isa code =
    let statement = statement_of code in
    is_mnemonic (entry_of isa (if lacks_colon isa code then word_of (behind_word statement) else word_of statement))

abbrev pub is_instruction : Option Word → Bool
is_instruction None = false
is_instruction (Some (Code opcode)) = true
is_instruction (Some (Instruction op)) = true
is_instruction (Some _) = false

-- a line that is read as an instruction without a label
abbrev pub is_bare_instruction : Result Parsed LexFault → Bool
is_bare_instruction (Ok line) = is_instruction line.word && is_none line.label
is_bare_instruction (Err fault) = false

-- an instruction from its word to its last operand, where its line begins at the place `start`
abbrev pub instruction_end : List ℕ → ℕ
instruction_end code =
    let spans = operand_spans code in
    option_map_or (λ (span : Span). span.to) (slice_get spans (length spans - 1)) (word_span code).to

abbrev pub instruction_place : ℕ → List ℕ → Place
instruction_place start code = record { from = start + (word_span code).from; to = start + instruction_end code }

-- a comment, read as a line with these names
abbrev pub note_from : Isa → Names → ℕ → List ℕ → Option Place
note_from isa names start comment =
    if is_bare_instruction (parsed isa names comment) then Some (instruction_place start (code_of comment)) else None

abbrev pub comment_of : List ℕ → Option (List ℕ)
comment_of line = behind_first is_semicolon line

-- of a line of at most 255 bytes
unfoldable pub note_in : Isa → Names → List ℕ → Option Place
note_in isa names line =
    option_and_then
    (λ comment. if nat_le (length line) 255 && begins_instruction isa (code_of line) then note_from isa names (length (code_of line) + 1) comment else None)
    (comment_of line)
