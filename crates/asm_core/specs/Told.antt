-- Every fault of a source. Each faulty line is told once, by its first cause.
use Rattle.std.specs.Prelude.{◌≡◌, ◌+◌, ◌<◌, ℕ, zero, suc, Bool, true, false, List, ◌∷◌, ◌++◌, length, take, drop, fold, slice_index_or, if◌then◌else◌, Option, None, Some, is_some, option_map, Result, Ok, Err}
use Rattle.std.specs.List.{list_any, range_with_len}
use Rattle.std.specs.Option.{option_or, option_map_or}
use Rattle.asm_lex.specs.declared.shape.Isa.{Isa}
use Rattle.asm_lex.specs.declared.shape.Place.{Place}
use Rattle.asm_lex.specs.declared.shape.SymbolValue.TheVariants.{Number}
use Rattle.asm_lex.specs.declared.shape.Word.{Word}
use Rattle.asm_lex.specs.declared.shape.LexFault.{LexFault}
use Rattle.asm_lex.specs.Bytes.{is_name}
use Rattle.asm_lex.specs.Culprits.{missing_colon}
use Rattle.asm_lex.specs.Lines.{Parsed, parsed}
use Rattle.asm_lex.specs.Names.{Names}
use Rattle.asm_lex.specs.Notes.{note_in}
use Rattle.asm_lex.specs.Parts.{code_of}
use Rattle.asm_lex.specs.Places.{label_span}
use Rattle.asm_lex.specs.Spans.{text_at}
use Rattle.asm_core.specs.declared.findings.Finding.{Finding}
use Rattle.asm_core.specs.declared.fault.AsmCause.{AsmCause}
use Rattle.asm_core.specs.declared.fault.AsmCause.TheVariants.{Range, TooLarge}
use Rattle.asm_core.specs.declared.layout.Laid.{Laid}
use Rattle.asm_core.specs.declared.table.Cell.{Cell}
use Rattle.asm_core.specs.Culprits.{large_number, culprit_1, culprit_2}
use Rattle.asm_core.specs.Layout.{laid_out, label_in, is_duplicate}
use Rattle.asm_core.specs.Names.{with_label}
use Rattle.asm_core.specs.Sources.{Known, known_first, known_after, line_at, names_before, address_of, all_names, fault_1, fault_2, fault_with, bytes_of, cell_of, NoFault, HasFirstFault}

-- ---- pass 1

-- A faulty line's label counts as defined, as a number that is no register's; it leaves the address. A line that is too long is read up to its 255th byte.
abbrev pub label_if_name : Isa → Option (List ℕ) → Option (List ℕ)
label_if_name isa None = None
label_if_name isa (Some label) = if is_name isa label then Some label else None

unfoldable pub guessed_label : Isa → List ℕ → Option (List ℕ)
guessed_label isa line =
    let front = take 255 line in
    label_if_name isa (option_map (text_at front) (label_span (code_of front)))

abbrev pub with_guess : Names → Option (List ℕ) → Names
with_guess names label = if is_duplicate names label then names else with_label names label (Number 32768)

abbrev pub guessed_from : Isa → Known → List ℕ → Result Laid AsmCause → Known
guessed_from isa known line (Ok laid) = known_after known (label_in isa known.names line) (Ok laid)
guessed_from isa known line (Err cause) = record { at = known.at; names = with_guess known.names (guessed_label isa line) }

abbrev pub guessed : Isa → Known → List ℕ → Known
guessed isa known line = guessed_from isa known line (laid_out isa known.names known.at line)

-- behind a label without its colon the rest is looked at as though it stood there
unfoldable pub with_colon : Isa → List ℕ → List ℕ
with_colon isa line = option_map_or (λ place. take place line ++ 58 ∷ drop place line) (missing_colon isa line) line

-- what stands before a line, and whether a line before it is faulty
pub record Seen : Type 0 where
  pub known : Known
  pub faulty : Bool

abbrev pub seen_first : Isa → Seen
seen_first isa = record { known = known_first isa; faulty = false }

abbrev pub seen_after : Isa → Seen → List ℕ → Result Laid AsmCause → Seen
seen_after isa seen line (Ok laid) = record { known = known_after seen.known (label_in isa seen.known.names line) (Ok laid); faulty = seen.faulty }
seen_after isa seen line (Err cause) = record { known = guessed isa seen.known (with_colon isa line); faulty = true }

abbrev pub laid_by : Isa → Seen → List ℕ → Result Laid AsmCause
laid_by isa seen line = laid_out isa seen.known.names seen.known.at line

abbrev pub seen_next : Isa → Seen → List ℕ → Seen
seen_next isa seen line = seen_after isa seen line (laid_by isa seen line)

unfoldable pub seen_at : Isa → List (List ℕ) → ℕ → Seen
seen_at isa source i = fold (seen_next isa) (seen_first isa) (take i source)

-- the names that the lines of a source give, be they faulty or not
abbrev pub given_names : Isa → List (List ℕ) → Names
given_names isa source = (seen_at isa source (length source)).known.names

-- Behind the first fault addresses are unknown: a value that is out of its range is told only where a number above 65535 is written, and bytes
-- past the last address aren't told.
abbrev pub is_sure : Isa → Names → List ℕ → AsmCause → Bool
is_sure isa names line Range = is_some (large_number isa names line)
is_sure isa names line TooLarge = false
is_sure isa names line _ = true

-- a fault with its culprit
abbrev pub finding : Isa → Names → List ℕ → AsmCause → Finding
finding isa names line cause = record { cause = cause; place = culprit_1 isa names line cause }

abbrev pub sure_finding : Isa → Names → Bool → List ℕ → AsmCause → Option Finding
sure_finding isa names true line cause = if is_sure isa names line cause then Some (finding isa names line cause) else None
sure_finding isa names false line cause = Some (finding isa names line cause)

abbrev pub finding_from : Isa → Names → Bool → List ℕ → Result Laid AsmCause → Option Finding
finding_from isa names faulty line (Ok laid) = None
finding_from isa names faulty line (Err cause) = sure_finding isa names faulty line cause

abbrev pub finding_1 : Isa → Seen → List ℕ → Option Finding
finding_1 isa seen line = finding_from isa seen.known.names seen.faulty line (laid_by isa seen line)

unfoldable pub told_1 : Isa → List (List ℕ) → ℕ → Option Finding
told_1 isa source i = finding_1 isa (seen_at isa source i) (line_at source i)

-- ---- pass 2, where pass 1 has no fault: a faulty line gives no bytes

unfoldable pub kept_before : Isa → List (List ℕ) → ℕ → ℕ → Option Cell
kept_before isa source zero address = None
kept_before isa source (suc i) address =
    option_or (kept_before isa source i address)
    (if is_some (fault_with (kept_before isa source i) (address_of isa source i) (bytes_of isa source i)) then None else cell_of isa source i address)

unfoldable pub cause_2 : Isa → List (List ℕ) → ℕ → Option AsmCause
cause_2 isa source i = fault_with (kept_before isa source i) (address_of isa source i) (bytes_of isa source i)

abbrev pub finding_2 : Isa → Names → ℕ → Option Word → List ℕ → AsmCause → Finding
finding_2 isa names at word line cause = record { cause = cause; place = culprit_2 isa names at word line cause }

abbrev pub word_from : Result Parsed LexFault → Option Word
word_from (Ok line) = line.word
word_from (Err fault) = None

abbrev pub word_in : Isa → List (List ℕ) → ℕ → Option Word
word_in isa source i = word_from (parsed isa (names_before isa source i) (line_at source i))

unfoldable pub told_2 : Isa → List (List ℕ) → ℕ → Option Finding
told_2 isa source i =
    option_map (finding_2 isa (all_names isa source) (address_of isa source i) (word_in isa source i) (line_at source i)) (cause_2 isa source i)

-- ---- both

abbrev pub has_fault_1 : Isa → List (List ℕ) → Bool
has_fault_1 isa source = list_any (λ i. is_some (fault_1 isa source i)) (range_with_len 0 (length source))

-- what is told of line i, counted from 0
unfoldable pub told : Isa → List (List ℕ) → ℕ → Option Finding
told isa source i = if has_fault_1 isa source then told_1 isa source i else told_2 isa source i

-- an instruction in the comment of line i, read with the names that are known before it
unfoldable pub note_at : Isa → List (List ℕ) → ℕ → Option Place
note_at isa source i = note_in isa (seen_at isa source i).known.names (line_at source i)

-- a list has a function's values
pub record IsEachOf {X : Type 0} (f : ℕ → Option X) (n : ℕ) (xs : List (Option X)) : Type 0 where
  pub count : length xs ≡ n
  pub each : (i : ℕ) → i < n → slice_index_or xs i None ≡ f i

-- what is told of each line
abbrev pub AreTold : Isa → List (List ℕ) → List (Option Finding) → Type 0
AreTold isa source findings = IsEachOf (told isa source) (length source) findings

abbrev pub AreNoted : Isa → List (List ℕ) → List (Option Place) → Type 0
AreNoted isa source notes = IsEachOf (note_at isa source) (length source) notes

abbrev pub NothingTold : Isa → List (List ℕ) → Type 0
NothingTold isa source = (i : ℕ) → i < length source → told isa source i ≡ None

-- line i is the first of which a fault is told
pub record IsFirstTold (isa : Isa) (source : List (List ℕ)) (i : ℕ) (finding : Finding) : Type 0 where
  pub inside : i < length source
  pub here : told isa source i ≡ Some finding
  pub earlier : (k : ℕ) → k < i → told isa source k ≡ None

-- No fault is told exactly where the source is assembled, and the first one told has the line and the cause of the source's first fault.
pub record AgreesWithFaults (isa : Isa) (source : List (List ℕ)) : Type 0 where
  pub none : NothingTold isa source → NoFault (fault_1 isa source) (length source) × NoFault (fault_2 isa source) (length source)
  pub told_none : NoFault (fault_1 isa source) (length source) → NoFault (fault_2 isa source) (length source) → NothingTold isa source
  pub first : (i : ℕ) (finding : Finding) → IsFirstTold isa source i finding → HasFirstFault isa source (i + 1) finding.cause
