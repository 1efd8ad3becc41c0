-- What is wrong in a line, as a place in it: its culprit.
use Rattle.std.specs.Prelude.{◌+◌, ◌-◌, ◌==◌, ◌||◌, ◌&&◌, ℕ, Bool, true, false, not, List, [], ◌∷◌, length, take, map, find, nat_lt, slice_get, option_and_then, if◌then◌else◌, Option, Some, None, is_some, is_none, option_map, unwrap_or}
use Rattle.std.specs.Option.{option_map_or, option_or}
use Rattle.std.specs.Str.{bytes_eq}
use Rattle.std.specs.List.{list_any, slice_split, position_or_len, range_with_len}
use Rattle.chip8_words.specs.declared.table.Form.{Form}
use Rattle.chip8_words.specs.declared.table.Operand.{Operand}
use Rattle.chip8_words.specs.Table.{forms, mnemonic_of, operands_of}
use Rattle.asm_lex.specs.declared.shape.Isa.{Isa}
use Rattle.asm_lex.specs.declared.shape.Span.{Span}
use Rattle.asm_lex.specs.declared.shape.Place.{Place}
use Rattle.asm_lex.specs.declared.words.Entry.{Entry}
use Rattle.asm_lex.specs.declared.words.Entry.TheVariants.{Words}
use Rattle.asm_lex.specs.declared.culprit.Sought.{Sought}
use Rattle.asm_lex.specs.declared.culprit.Sought.TheVariants.{LongName, LargeNumber, Undefined, NotGiven}
use Rattle.asm_lex.specs.Bytes.{is_colon, is_forbidden, is_name, is_long_name, ends_name}
use Rattle.asm_lex.specs.Parts.{code_of, label_of, statement_of, word_of, behind_word}
use Rattle.asm_lex.specs.Expressions.{is_sign, is_large, sum_in}
use Rattle.asm_lex.specs.Forms.{is_operand}
use Rattle.asm_lex.specs.Lines.{has_bad_bytes}
use Rattle.asm_lex.specs.Names.{Names, number_named}
use Rattle.asm_lex.specs.Places.{label_span, word_span, behind_span, operand_spans, place_of}
use Rattle.asm_lex.specs.Spans.{text_at}
use Rattle.asm_lex.specs.Words.{meaning_of, entry_of}

-- what is sought among the parts of a text: a name that is too long, a number above 65535, a name that stands for no number, or for
-- nothing
abbrev pub is_sought : Isa → Names → Sought → List ℕ → Bool
is_sought isa names LongName text = is_long_name text
is_sought isa names LargeNumber text = is_large isa text
is_sought isa names Undefined text = is_name isa text && is_none (number_named names text)
is_sought isa names NotGiven text = is_name isa text && is_none (names text)

-- the first of some parts that passes, where one byte stands between two of them: how many bytes stand before it, and the part
abbrev pub first_part : (List ℕ → Bool) → List (List ℕ) → Option (ℕ × List ℕ)
first_part passes [] = None
first_part passes (part ∷ parts) =
    if passes part then Some (0, part) else option_map (λ found. (length part + 1 + found.0, found.1)) (first_part passes parts)

-- the same as a place, where the first part begins at the place `from`
abbrev pub part_place : ℕ → Option (ℕ × List ℕ) → Option Place
part_place from found = option_map (λ found. record { from = from + found.0; to = from + found.0 + length found.1 }) found

-- the first term of an operand of a line that passes
unfoldable pub term_in : (List ℕ → Bool) → List ℕ → Span → Option Place
term_in passes line span =
    let text = text_at line span in
    part_place (span.from + (length text - length (sum_in text))) (first_part passes (slice_split is_sign (sum_in text)))

-- the first one of several operands
abbrev pub first_term : (List ℕ → Bool) → List ℕ → List Span → Option Place
first_term passes line [] = None
first_term passes line (span ∷ spans) = option_or (term_in passes line span) (first_term passes line spans)

-- texts are the first operands that are due
abbrev pub begin_due : Names → List Operand → List (List ℕ) → Bool
begin_due names due [] = true
begin_due names [] (text ∷ texts) = false
begin_due names (operand ∷ due) (text ∷ texts) = is_operand names operand text && begin_due names due texts

abbrev pub begin_form : Names → Form → List (List ℕ) → Form → Bool
begin_form names named texts form = bytes_eq (mnemonic_of form) (mnemonic_of named) && begin_due names (operands_of form) texts

-- Texts may stand as the first operands of a word: of one that takes one operand, or as many as it pleases, where they are right as they stand.
unfoldable pub begin_operands : Isa → Names → Entry → List (List ℕ) → Bool
begin_operands isa names (Words form) texts = list_any (begin_form names form texts) forms
begin_operands isa names entry texts = length texts == 0 || is_some (meaning_of isa names entry true texts)

-- the number of the first operand that fits no form of the word
unfoldable pub first_wrong : Isa → Names → Entry → List (List ℕ) → Option ℕ
first_wrong isa names entry texts = find (λ k. not (begin_operands isa names entry (take (k + 1) texts))) (range_with_len 0 (length texts))

-- this operand, or the word, where one is missing
abbrev pub wrong_operand : Isa → Names → List ℕ → List ℕ → Option Entry → Place
wrong_operand isa names line code None = place_of (word_span code)
wrong_operand isa names line code (Some entry) =
    option_map_or place_of
    (option_and_then (slice_get (operand_spans code)) (first_wrong isa names entry (map (text_at line) (operand_spans code)))) (place_of (word_span code))

-- the first byte that isn't allowed, or the 256th
abbrev pub bad_byte : List ℕ → Place
bad_byte line =
    let first = position_or_len is_forbidden line in
    if nat_lt first (length line) then record { from = first; to = first + 1 } else record { from = 255; to = 256 }

-- a label that isn't a name, or a name that is too long
abbrev pub bad_label : Isa → List ℕ → Option Place
bad_label isa code =
    if option_map_or (λ label. not (is_name isa label)) (label_of code) false then option_map place_of (label_span code) else None

abbrev pub long_name : List ℕ → Option Place
long_name code = part_place (behind_span code).from (first_part is_long_name (slice_split ends_name (behind_word (statement_of code))))

-- The culprit of a line that isn't read: of its bytes, of its names, of its word or of an operand, in this order.
abbrev pub code_culprit : Isa → Names → List ℕ → List ℕ → Place
code_culprit isa names line code =
    unwrap_or (option_or (bad_label isa code) (long_name code)) (wrong_operand isa names line code (entry_of isa (word_of (statement_of code))))

unfoldable pub lex_culprit : Isa → Names → List ℕ → Place
lex_culprit isa names line = if has_bad_bytes line then bad_byte line else code_culprit isa names line (code_of line)

-- Where the colon is missing behind a label: the line has no colon, its word is a name that isn't in the table, and what stands behind the word begins
-- with a word of the table.
abbrev pub lacks_colon : Isa → List ℕ → Bool
lacks_colon isa code =
    let word = word_of (statement_of code) in
    not (list_any is_colon code)
    && (is_name isa word && (is_none (entry_of isa word) && is_some (entry_of isa (word_of (behind_word (statement_of code))))))

abbrev pub colon_in : Isa → List ℕ → Option ℕ
colon_in isa code = if lacks_colon isa code then Some (word_span code).to else None

unfoldable pub missing_colon : Isa → List ℕ → Option ℕ
missing_colon isa line = if has_bad_bytes line then None else colon_in isa (code_of line)
