-- The text of every fault of a source.
use Rattle.std.specs.Prelude.{◌+◌, ◌==◌, ◌&&◌, ℕ, Bool, false, not, List, [], ◌∷◌, ◌++◌, length, drop, flat_map, codes, decimal, min, nat_le, slice_index, slice_index_or, slice_range, if◌then◌else◌, Option, None, Some, is_some}
use Rattle.std.specs.List.{count_by, list_any, range_with_len}
use Rattle.std.specs.Option.{option_map_or, option_or}
use Rattle.vip_byte.specs.HexText.{hex2}
use Rattle.asm_lex.specs.declared.shape.Isa.{Isa}
use Rattle.asm_lex.specs.declared.shape.Place.{Place}
use Rattle.asm_lex.specs.declared.shape.Span.{Span}
use Rattle.asm_core.specs.declared.findings.Finding.{Finding}
use Rattle.asm_core.specs.FaultNames.{asm_cause_name}
use Rattle.asm_core.specs.Sources.{line_at}
use Rattle.asm_core.specs.Culprits.{spans_of}
use Rattle.asm_core.specs.Fixed.{fixed_names}
use Rattle.asm_core.specs.Operands.{further_finding, is_waiting}
use Rattle.asm_core.specs.Told.{given_names, told, note_at, has_fault_1}
use Rattle.asm_lex.specs.declared.words.Entry.{Entry}
use Rattle.asm_lex.specs.Names.{Names}
use Rattle.asm_lex.specs.Operands.{line_entry}
use Rattle.asm_listing.specs.declared.report_text.Part.{Part}
use Rattle.asm_listing.specs.declared.report_text.Part.TheVariants.{Faults, Rest}
use Rattle.vip_byte.specs.Text.{newline}
use Rattle.asm_lex.specs.Bytes.{is_semicolon}
use Rattle.asm_lex.specs.Parts.{code_of}
use Rattle.asm_lex.specs.Places.{word_span}
use Rattle.asm_lex.specs.Spans.{text_at}
use Rattle.asm_listing.specs.Comments.{has_comment, is_noted, noted_words, other_note}
use Rattle.asm_listing.specs.Remedies.{named_remedy, remedy, is_octo}

-- bytes as they stand, those outside 20 to 7E as \xC3
abbrev pub shown_byte : ℕ → List ℕ
shown_byte byte = if nat_le 32 byte && nat_le byte 126 then byte ∷ [] else codes "\\x" ++ hex2 byte

abbrev pub shown : List ℕ → List ℕ
shown bytes = flat_map shown_byte bytes

-- a remark in parentheses
abbrev pub remark_text : Option (List ℕ) → List ℕ
remark_text remark = option_map_or (λ text. codes " (" ++ (shown text ++ codes ")")) remark []

-- a line of the text: the file's name, the line and the column, both counted from 1, what it says, and a remark
abbrev pub line_text : List ℕ → ℕ → ℕ → List ℕ → List ℕ → Option (List ℕ) → List ℕ
line_text name number column says culprit remark =
    name ++ (codes ":" ++ (decimal number ++ (codes ":" ++ (decimal column ++ (codes ": " ++ (says ++ (codes ": "
    ++ (shown culprit ++ (remark_text remark ++ newline)))))))))

-- where a place of a line begins, and its bytes
abbrev pub start_at : List ℕ → Place → ℕ
start_at line place = min place.from (min place.to (length line))

abbrev pub bytes_at : List ℕ → Place → List ℕ
bytes_at line place = slice_range line (start_at line place) (min place.to (length line))

-- Below, `given` are the names that the lines of the source give.
abbrev pub finding_text : Isa → Names → List ℕ → ℕ → List ℕ → Finding → List ℕ
finding_text isa given name number line finding =
    let culprit = bytes_at line finding.place in
    let from = start_at line finding.place in
    line_text name number (from + 1) (asm_cause_name finding.cause) culprit
    (option_or (named_remedy isa given finding.cause line culprit) (remedy isa finding.cause line culprit))

-- what is told of the operands of a line, one by one, beside its fault; `fixed` are the names whose values hang on no address
abbrev pub no_span : Span
no_span = record { from = 0; to = 0 }

abbrev pub operand_found : Isa → Names → Names → List ℕ → Option Finding → List Span → Entry → ℕ → Option Finding
operand_found isa given fixed line told spans entry k = further_finding isa fixed given line entry k (slice_index_or spans k no_span) told

abbrev pub operand_text : Isa → Names → Names → List ℕ → ℕ → List ℕ → Option Finding → List Span → Entry → ℕ → List ℕ
operand_text isa given fixed name number line told spans entry k =
    option_map_or (finding_text isa given name number line) (operand_found isa given fixed line told spans entry k) []

abbrev pub entry_text : Isa → Names → Names → List ℕ → ℕ → List ℕ → Option Finding → List Span → Entry → List ℕ
entry_text isa given fixed name number line told spans entry =
    flat_map (operand_text isa given fixed name number line told spans entry) (range_with_len 0 (length spans))

unfoldable pub operands_text : Isa → Names → Names → List ℕ → ℕ → List ℕ → Option Finding → List ℕ
operands_text isa given fixed name number line told =
    if nat_le (length line) 255 then option_map_or (entry_text isa given fixed name number line told (spans_of line)) (line_entry isa line) [] else []

-- an instruction in a comment
abbrev pub note_text : List ℕ → ℕ → List ℕ → Place → List ℕ
note_text name number line place =
    line_text name number (start_at line place + 1) (codes "note") (bytes_at line place)
    (Some (codes "a comment: an instruction needs a line of its own"))

-- the note on a comment that is no line of its own
abbrev pub note_line : List ℕ → ℕ → ℕ → List ℕ → List ℕ
note_line name number column words =
    line_text name number column (codes "note") words (Some (codes "a comment: an instruction needs a line of its own"))

-- the note of what stands behind the byte at a place of a line, where that is a `;`
abbrev pub note_behind : Isa → List ℕ → ℕ → ℕ → List ℕ → List ℕ
note_behind isa name number place behind =
    if is_noted isa behind then note_line name number (place + (word_span (code_of behind)).from + 1) (noted_words behind) else []

unfoldable pub note_at_byte : Isa → List ℕ → ℕ → List ℕ → ℕ → List ℕ
note_at_byte isa name number line place =
    if is_semicolon (slice_index line place) then note_behind isa name number (place + 1) (drop (place + 1) line) else []

-- of all comments of a line
unfoldable pub comment_notes : Isa → List ℕ → ℕ → List ℕ → List ℕ
comment_notes isa name number line =
    if has_comment isa line then flat_map (note_at_byte isa name number line) (range_with_len 0 (length line)) else []

-- the notes of a line
abbrev pub notes_text : Isa → List ℕ → ℕ → List ℕ → Option Place → List ℕ
notes_text isa name number line note =
    option_map_or (note_text name number line) (other_note isa line note) [] ++ comment_notes isa name number line

-- What is told of one line: its fault, behind it those of its other operands, and behind them its notes.
abbrev pub fault_text : Isa → Names → Names → List ℕ → ℕ → List ℕ → Option Finding → List ℕ
fault_text isa given fixed name number line None = []
fault_text isa given fixed name number line (Some finding) =
    finding_text isa given name number line finding ++ operands_text isa given fixed name number line (Some finding)

-- The rest is what is told of the operands of a line without such a fault.
abbrev pub rest_text : Isa → Names → Names → List ℕ → ℕ → List ℕ → Option Finding → List ℕ
rest_text isa given fixed name number line None = operands_text isa given fixed name number line None
rest_text isa given fixed name number line (Some finding) = []

unfoldable pub told_text : Isa → Names → Names → Part → List ℕ → ℕ → List ℕ → Option Finding → Option Place → List ℕ
told_text isa given fixed Faults name number line finding note =
    fault_text isa given fixed name number line finding ++ notes_text isa name number line note
told_text isa given fixed Rest name number line finding _ = rest_text isa given fixed name number line finding

-- of all lines, in their order
unfoldable pub told_lines : Isa → Part → List ℕ → List (List ℕ) → List ℕ
told_lines isa part name source =
    flat_map
    (λ i. told_text isa (given_names isa source) (fixed_names isa source) part name (i + 1) (line_at source i) (told isa source i) (note_at isa source i))
    (range_with_len 0 (length source))

-- how many of the first lines have a fault that is a statement of Octo
abbrev pub is_octo_told : Isa → List ℕ → Option Finding → Bool
is_octo_told isa line finding = option_map_or (λ (found : Finding). is_octo isa found.cause line (bytes_at line found.place)) finding false

unfoldable pub octo_count : Isa → List (List ℕ) → ℕ → ℕ
octo_count isa source count = count_by (λ i. is_octo_told isa (line_at source i) (told isa source i)) (range_with_len 0 count)

-- behind the last line, where ten or more are Octo's
abbrev pub octo_text : List ℕ → ℕ → List ℕ
octo_text name count =
    if nat_le 10 count then name ++ (codes ": this looks like Octo: see docs/FIRST_GAME.md" ++ newline) else []

-- a fault is told of some line, of the first ones and of all
abbrev pub has_told_before : Isa → List (List ℕ) → ℕ → Bool
has_told_before isa source count = list_any (λ i. is_some (told isa source i)) (range_with_len 0 count)

abbrev pub has_told : Isa → List (List ℕ) → Bool
has_told isa source = has_told_before isa source (length source)

-- So the first fault that is told is the first one of `told`, and where that has none no fault is told.
abbrev pub rest_lines : Isa → Bool → List ℕ → List (List ℕ) → List ℕ
rest_lines isa faulty name source = if faulty then told_lines isa Rest name source else []

-- A line waits for the next run: nothing is told of it, and the value of an operand hangs on addresses. `behind` says that a fault is told before it.
abbrev pub some_are_told : Isa → Names → Names → List ℕ → List Span → Entry → Bool
some_are_told isa given fixed line spans entry =
    list_any (λ k. is_some (operand_found isa given fixed line None spans entry k)) (range_with_len 0 (length spans))

abbrev pub some_wait : Isa → Names → Bool → List ℕ → List Span → Entry → Bool
some_wait isa fixed behind line spans entry =
    list_any (λ k. is_waiting isa fixed behind entry k (text_at line (slice_index_or spans k no_span))) (range_with_len 0 (length spans))

abbrev pub entry_waits : Isa → Names → Names → Bool → List ℕ → List Span → Entry → Bool
entry_waits isa given fixed behind line spans entry = some_wait isa fixed behind line spans entry && not (some_are_told isa given fixed line spans entry)

unfoldable pub line_waits : Isa → Names → Names → Bool → List ℕ → Bool
line_waits isa given fixed behind line =
    if nat_le (length line) 255 then option_map_or (entry_waits isa given fixed behind line (spans_of line)) (line_entry isa line) false else false

abbrev pub waits : Isa → Names → Names → Bool → List ℕ → Option Finding → Bool
waits isa given fixed behind line None = line_waits isa given fixed behind line
waits isa given fixed behind line (Some finding) = false

-- how many of the first lines wait
unfoldable pub waiting_count : Isa → List (List ℕ) → ℕ → ℕ
waiting_count isa source count =
    count_by (λ i. waits isa (given_names isa source) (fixed_names isa source) (has_told_before isa source i) (line_at source i) (told isa source i))
    (range_with_len 0 count)

-- the last line, where pass 2 didn't run and lines wait for it
abbrev pub more_lines : ℕ → List ℕ
more_lines count =
    if count == 1 then codes " more line is checked after these errors are fixed"
    else codes " more lines are checked after these errors are fixed"

abbrev pub waiting_text : List ℕ → ℕ → List ℕ
waiting_text name count =
    if count == 0 then [] else name ++ (codes ": " ++ (decimal count ++ (more_lines count ++ newline)))

abbrev pub waiting_line : Isa → Bool → List ℕ → List (List ℕ) → List ℕ
waiting_line isa faulty name source = if faulty then waiting_text name (waiting_count isa source (length source)) else []

unfoldable pub report_of : Isa → List ℕ → List (List ℕ) → List ℕ
report_of isa name source =
    told_lines isa Faults name source
    ++ (rest_lines isa (has_told isa source) name source
    ++ (octo_text name (octo_count isa source (length source)) ++ waiting_line isa (has_fault_1 isa source) name source))
