-- The culprit of a faulty line: the place in it of what is wrong.
use Rattle.std.specs.Prelude.{◌-◌, ◌==◌, ℕ, List, length, drop, find, nat_lt, slice_get, if◌then◌else◌, Option, None, Some, unwrap_or, is_err}
use Rattle.std.specs.Option.{option_map_or}
use Rattle.asm_lex.specs.declared.shape.Isa.{Isa}
use Rattle.asm_lex.specs.declared.shape.Span.{Span}
use Rattle.asm_lex.specs.declared.shape.Place.{Place}
use Rattle.asm_lex.specs.declared.shape.Word.{Word}
use Rattle.asm_lex.specs.declared.shape.Word.TheVariants.{Instruction, Db, Dw}
use Rattle.asm_lex.specs.declared.culprit.Sought.TheVariants.{LargeNumber, Undefined as unnamed}
use Rattle.asm_lex.specs.Culprits.{is_sought, first_term, lex_culprit}
use Rattle.asm_lex.specs.Names.{Names}
use Rattle.asm_lex.specs.Parts.{code_of, statement_of, word_of}
use Rattle.asm_lex.specs.Places.{label_span, word_span, operand_spans, place_of}
use Rattle.asm_lex.specs.Spans.{text_at}
use Rattle.asm_core.specs.declared.fault.AsmCause.{AsmCause}
use Rattle.asm_core.specs.declared.fault.AsmCause.TheVariants.{BadText, UnknownMnemonic, BadOperand, Range, Duplicate, Undefined, OffPage}
use Rattle.asm_core.specs.Names.{operand_value}

abbrev pub word_place : List ℕ → Place
word_place line = place_of (word_span (code_of line))

abbrev pub label_place : List ℕ → Place
label_place line = option_map_or place_of (label_span (code_of line)) (word_place line)

-- the word, or the label where there is none
abbrev pub word_or_label : List ℕ → Place
word_or_label line = if length (word_of (statement_of (code_of line))) == 0 then label_place line else word_place line

abbrev pub spans_of : List ℕ → List Span
spans_of line = operand_spans (code_of line)

-- an operand, or the word
abbrev pub span_or_word : List ℕ → Option Span → Place
span_or_word line span = option_map_or place_of span (word_place line)

-- In pass 1 `names` are those of the earlier lines. A line of more than 255 bytes is bad text.
abbrev pub short_culprit : Isa → Names → List ℕ → AsmCause → Place
short_culprit isa names line BadText = lex_culprit isa names line
short_culprit isa names line UnknownMnemonic = lex_culprit isa names line
short_culprit isa names line BadOperand = lex_culprit isa names line
short_culprit isa names line Duplicate = label_place line
short_culprit isa names line Undefined = unwrap_or (first_term (is_sought isa names unnamed) line (spans_of line)) (word_place line)
short_culprit isa names line Range =
    unwrap_or (first_term (is_sought isa names LargeNumber) line (spans_of line)) (span_or_word line (slice_get (spans_of line) 0))
short_culprit isa names line _ = word_or_label line

-- a number above 65535 that is written in the line
abbrev pub large_number : Isa → Names → List ℕ → Option Place
large_number isa names line = if nat_lt 255 (length line) then None else first_term (is_sought isa names LargeNumber) line (spans_of line)

unfoldable pub culprit_1 : Isa → Names → List ℕ → AsmCause → Place
culprit_1 isa names line cause = if nat_lt 255 (length line) then lex_culprit isa names line else short_culprit isa names line cause

-- the operands that stand for numbers: in an instruction of CHIP-8 the last one
abbrev pub number_spans : Option Word → List Span → List Span
number_spans (Some (Instruction op)) spans = drop (length spans - 1) spans
number_spans _ spans = spans

-- the first operand whose value is out of its range
abbrev pub first_outside : Isa → Names → ℕ → ℕ → List ℕ → List Span → Option Span
first_outside isa names at most line spans = find (λ span. is_err (operand_value isa names at most (text_at line span))) spans

abbrev pub outside_span : Isa → Names → ℕ → Option Word → List ℕ → List Span → Option Span
outside_span isa names at (Some Db) line spans = first_outside isa names at 255 line spans
outside_span isa names at (Some Dw) line spans = first_outside isa names at 65535 line spans
outside_span isa names at word line spans = slice_get (number_spans word spans) 0

-- In pass 2 they are those of all lines, and the line begins at the address `at` and has this word.
unfoldable pub culprit_2 : Isa → Names → ℕ → Option Word → List ℕ → AsmCause → Place
culprit_2 isa names at word line Undefined =
    unwrap_or (first_term (is_sought isa names unnamed) line (number_spans word (spans_of line))) (word_place line)
culprit_2 isa names at word line Range = span_or_word line (outside_span isa names at word line (spans_of line))
culprit_2 isa names at word line OffPage = span_or_word line (slice_get (spans_of line) 0)
culprit_2 isa names at word line _ = word_place line
