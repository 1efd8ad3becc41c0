-- Notes on comments that look like an instruction, behind an instruction or a directive.
use Rattle.std.specs.Prelude.{◌+◌, ◌&&◌, ◌||◌, ℕ, Bool, true, false, not, List, [], ◌∷◌, length, drop, find, nat_le, nat_lt, if◌then◌else◌, Option, None, is_some, Result, Ok, Err}
use Rattle.std.specs.List.{list_all, position_or_len}
use Rattle.std.specs.Char.{is_ascii_digit, is_ascii_uppercase}
use Rattle.asm_lex.specs.declared.shape.Isa.{Isa}
use Rattle.asm_lex.specs.declared.shape.LexFault.{LexFault}
use Rattle.asm_lex.specs.declared.shape.LexFault.TheVariants.{BadOperand}
use Rattle.asm_lex.specs.declared.shape.Place.{Place}
use Rattle.asm_lex.specs.Bytes.{is_semicolon}
use Rattle.asm_lex.specs.Culprits.{missing_colon}
use Rattle.asm_lex.specs.Lines.{Parsed, parsed}
use Rattle.asm_lex.specs.Parts.{code_of, without_trailing_blanks}
use Rattle.asm_lex.specs.Places.{label_span, word_span}
use Rattle.asm_core.specs.declared.fault.AsmCause.TheVariants.{UnknownMnemonic}
use Rattle.asm_listing.specs.Habits.{rows}
use Rattle.asm_listing.specs.Remedies.{fits, word_in, first_operand}

-- a word in capitals, with digits behind the first letter
abbrev pub is_capital : ℕ → Bool
is_capital byte = is_ascii_uppercase byte || is_ascii_digit byte

abbrev pub are_capitals : List ℕ → Bool
are_capitals [] = false
are_capitals (first ∷ rest) = is_ascii_uppercase first && list_all is_capital (first ∷ rest)

-- a word, as a line of its own, is a mnemonic or a directive, whatever operands it lacks
abbrev pub is_known : Result Parsed LexFault → Bool
is_known (Ok line) = true
is_known (Err BadOperand) = true
is_known (Err fault) = false

-- a word, as a line of its own, is a habit for which there is a remedy
abbrev pub is_foreign : Isa → List ℕ → Bool
is_foreign isa word = is_some (find (fits isa [] [] word) (rows isa UnknownMnemonic))

unfoldable pub is_instruction_word : Isa → List ℕ → Bool
is_instruction_word isa word = are_capitals word && (is_known (parsed isa (λ name. None) word) || is_foreign isa word)

-- the word of a line, which stands behind a label that lacks its colon
abbrev pub own_word : Isa → List ℕ → List ℕ
own_word isa line = if is_some (missing_colon isa line) then word_in (first_operand line) else word_in line

-- where a line's code ends
abbrev pub code_end : List ℕ → ℕ
code_end line = position_or_len is_semicolon line

-- a line of at most 255 bytes has a comment behind an instruction or a directive in capitals
unfoldable pub has_comment : Isa → List ℕ → Bool
has_comment isa line = nat_le (length line) 255 && (nat_lt (code_end line) (length line) && is_instruction_word isa (own_word isa line))

-- What stands behind a `;` begins with such a word; it ends before the next `;`.
abbrev pub is_noted : Isa → List ℕ → Bool
is_noted isa behind = not (is_some (label_span (code_of behind))) && is_instruction_word isa (word_in behind)

abbrev pub noted_words : List ℕ → List ℕ
noted_words behind = without_trailing_blanks (drop (word_span (code_of behind)).from (code_of behind))

-- the first comment of a line is told so
abbrev pub is_first_noted : Isa → List ℕ → Bool
is_first_noted isa line = has_comment isa line && is_noted isa (drop (code_end line + 1) line)

-- the note of an instruction in the first comment, unless that is told already
abbrev pub other_note : Isa → List ℕ → Option Place → Option Place
other_note isa line note = if is_first_noted isa line then None else note
