-- A source line: its parts, or its first fault.
use Rattle.std.specs.Prelude.{◌≡◌, ◌≤◌, ◌==◌, ◌||◌, ℕ, Bool, false, not, List, ◌++◌, length, map, nat_lt, if◌then◌else◌, Option, Some, None, is_some, option_map, Result, Ok, Err}
use Rattle.std.specs.List.{list_all}
use Rattle.std.specs.Option.{option_map_or, ok_or, option_to_list}
use Rattle.asm_lex.specs.declared.shape.Isa.{Isa}
use Rattle.asm_lex.specs.declared.shape.Word.{Word}
use Rattle.asm_lex.specs.declared.shape.Line.{Line}
use Rattle.asm_lex.specs.declared.shape.Span.{Span}
use Rattle.asm_lex.specs.declared.shape.LexFault.{LexFault}
use Rattle.asm_lex.specs.declared.shape.LexFault.TheVariants.{BadText, UnknownMnemonic, BadOperand}
use Rattle.asm_lex.specs.Bytes.{is_allowed, is_name, has_long_name}
use Rattle.asm_lex.specs.Parts.{code_of, label_of, statement_of, word_of, behind_word, operands_in}
use Rattle.asm_lex.specs.declared.words.Entry.{Entry}
use Rattle.asm_lex.specs.Names.{Names}
use Rattle.asm_lex.specs.Spans.{text_at}
use Rattle.asm_lex.specs.Words.{entry_of, meaning_of, HasItsOperands}
use Rattle.std.specs.Result.{result_map_both}

-- what a line says: the name that it defines, if any, its word, if any, and the texts of its operands
pub record Parsed : Type 0 where
  pub label : Option (List ℕ)
  pub word : Option Word
  pub operands : List (List ℕ)

-- a byte that isn't allowed, also in the comment, or more than 255 bytes
unfoldable pub has_bad_bytes : List ℕ → Bool
has_bad_bytes line = nat_lt 255 (length line) || not (list_all is_allowed line)

-- a label that isn't a name, or a name that is too long behind the word
unfoldable pub has_bad_name : Isa → List ℕ → Bool
has_bad_name isa code =
    option_map_or (λ label. not (is_name isa label)) (label_of code) false || has_long_name (behind_word (statement_of code))

-- Below, `names` are those of the earlier lines.
-- the meaning of a word's entry in the table, or why there is none
unfoldable pub entry_meaning : Isa → Names → Bool → List (List ℕ) → Option Entry → Result (Option Word) LexFault
entry_meaning isa names has_label operands None = Err UnknownMnemonic
entry_meaning isa names has_label operands (Some entry) = ok_or (option_map Some (meaning_of isa names entry has_label operands)) BadOperand

-- the meaning of a word, which may be absent
unfoldable pub word_meaning : Isa → Names → Bool → List (List ℕ) → List ℕ → Result (Option Word) LexFault
word_meaning isa names has_label operands word =
    if length word == 0 then Ok None else entry_meaning isa names has_label operands (entry_of isa word)

-- the operands in the code of a line
abbrev pub operands_of : List ℕ → List (List ℕ)
operands_of code = operands_in (behind_word (statement_of code))

-- what the code of a line says, whose bytes are allowed
unfoldable pub parsed_code : Isa → Names → List ℕ → Result Parsed LexFault
parsed_code isa names code =
    if has_bad_name isa code then Err BadText
    else result_map_both
    (λ word. record { label = label_of code; word = word; operands = operands_of code })
    (λ fault. fault)
    (word_meaning isa names (is_some (label_of code)) (operands_of code) (word_of (statement_of code)))

-- what a line says, or its first fault
unfoldable pub parsed : Isa → Names → List ℕ → Result Parsed LexFault
parsed isa names line = if has_bad_bytes line then Err BadText else parsed_code isa names (code_of line)

-- what the spans of a line show
abbrev pub shown : List ℕ → Line → Parsed
shown bytes line = record { label = option_map (text_at bytes) line.label; word = line.word; operands = map (text_at bytes) line.operands.items }

-- the spans of a line: its label, then its operands
abbrev pub spans_of : Line → List Span
spans_of line = option_to_list line.label ++ line.operands.items

-- what a line without a fault says: it is short, and its operands are those of its word
pub record Reads (isa : Isa) (names : Names) (line : List ℕ) (word : Option Word) : Type 0 where
  pub is : parsed isa names line ≡ Ok (record { label = label_of (code_of line); word = word; operands = operands_of (code_of line) })
  pub short : length line ≤ 255
  pub few : length (operands_of (code_of line)) ≤ 128
  pub operands : HasItsOperands isa word (operands_of (code_of line))
