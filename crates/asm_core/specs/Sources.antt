-- Assembly of a source: pass 1 and pass 2 over its lines, each line judged by itself, and the first fault.
use Rattle.std.specs.Prelude.{◌≡◌, ◌+◌, ◌-◌, ◌<◌, ◌⊎◌, ℕ, zero, suc, Bool, List, [], length, take, fold, nat_le, slice_get, slice_index_or, if◌then◌else◌, Option, None, Some, is_some, option_map, Result, Ok, Err}
use Rattle.std.specs.List.{list_any, range_with_len}
use Rattle.std.specs.Option.{option_or}
use Rattle.std.specs.Result.{result_err, result_unwrap_or}
use Rattle.std.specs.Str.Lines.{lines}
use Rattle.asm_core.specs.declared.fault.AsmCause.{AsmCause}
use Rattle.asm_core.specs.declared.fault.AsmCause.TheVariants.{Overlap}
use Rattle.asm_lex.specs.declared.shape.Isa.{Isa}
use Rattle.asm_lex.specs.Names.{Names}
use Rattle.asm_core.specs.declared.layout.LabelValue.{LabelValue}
use Rattle.asm_core.specs.declared.layout.LabelValue.TheVariants.{Address}
use Rattle.asm_lex.specs.Ranges.{origin_of}
use Rattle.asm_core.specs.Names.{with_label}
use Rattle.asm_core.specs.declared.layout.Laid.{Laid}
use Rattle.asm_core.specs.declared.table.Cell.{Cell}
use Rattle.asm_core.specs.Layout.{laid_out, label_in, symbol_value, count_between, encoded}

-- The lines of a source: each ends with a newline byte, and a carriage return directly before it is dropped. A last line without a
-- newline counts where it isn't empty.
unfoldable pub source_lines : List ℕ → List (List ℕ)
source_lines text = lines text

-- line i, counted from 0
abbrev pub line_at : List (List ℕ) → ℕ → List ℕ
line_at source i = slice_index_or source i []

-- what stands before a line: the address at which it begins, and the values of the names that earlier lines define
pub record Known : Type 0 where
  pub at : ℕ
  pub names : Names

abbrev pub known_first : Isa → Known
known_first isa = record { at = origin_of isa; names = λ name. None }

-- a faulty line defines no name, and the address stays
abbrev pub known_after : Known → Option (List ℕ) → Result Laid AsmCause → Known
known_after known label (Ok laid) = record { at = laid.next; names = with_label known.names label (symbol_value laid.value) }
known_after known label (Err cause) = known

-- Below, a source is one of an instruction set.
abbrev pub known_next : Isa → Known → List ℕ → Known
known_next isa known line = known_after known (label_in isa known.names line) (laid_out isa known.names known.at line)

-- what stands before line i follows from the lines before it, one after another
unfoldable pub known_at : Isa → List (List ℕ) → ℕ → Known
known_at isa source i = fold (known_next isa) (known_first isa) (take i source)

abbrev pub address_of : Isa → List (List ℕ) → ℕ → ℕ
address_of isa source i = (known_at isa source i).at

abbrev pub names_before : Isa → List (List ℕ) → ℕ → Names
names_before isa source i = (known_at isa source i).names

-- the values of the names that any line defines
abbrev pub all_names : Isa → List (List ℕ) → Names
all_names isa source = names_before isa source (length source)

-- the first cause of line i in pass 1
unfoldable pub fault_1 : Isa → List (List ℕ) → ℕ → Option AsmCause
fault_1 isa source i = result_err (laid_out isa (names_before isa source i) (address_of isa source i) (line_at source i))

-- the value that a label of line i has, or would have: that of EQU, the new address where the line moves it, else the line's own address
abbrev pub value_from : Result Laid AsmCause → LabelValue
value_from (Ok laid) = laid.value
value_from (Err cause) = Address 0

unfoldable pub label_value : Isa → List (List ℕ) → ℕ → LabelValue
label_value isa source i = value_from (laid_out isa (names_before isa source i) (address_of isa source i) (line_at source i))

-- how many bytes line i has
abbrev pub count_of : Isa → List (List ℕ) → ℕ → ℕ
count_of isa source i = count_between (label_value isa source i) (address_of isa source i) (address_of isa source (suc i))

-- the bytes of line i; byte j of it has the address of the line, and j
unfoldable pub bytes_of : Isa → List (List ℕ) → ℕ → Result (List ℕ) AsmCause
bytes_of isa source i =
    encoded isa (names_before isa source i) (all_names isa source) (address_of isa source i) (count_of isa source i) (line_at source i)

-- the byte at an address among those of one line
abbrev pub cell_in : ℕ → ℕ → List ℕ → ℕ → Option Cell
cell_in line at bytes address = if nat_le at address then option_map (λ byte. record { byte = byte; line = line }) (slice_get bytes (address - at)) else None

-- the byte that line i gives an address
abbrev pub cell_of : Isa → List (List ℕ) → ℕ → ℕ → Option Cell
cell_of isa source i address = cell_in (i + 1) (address_of isa source i) (result_unwrap_or (bytes_of isa source i) []) address

-- the byte that some line before line i gives an address
unfoldable pub cell_before : Isa → List (List ℕ) → ℕ → ℕ → Option Cell
cell_before isa source zero address = None
cell_before isa source (suc i) address = option_or (cell_before isa source i address) (cell_of isa source i address)

-- some byte stands at an address that `given` has
abbrev pub overlaps : (ℕ → Option Cell) → ℕ → ℕ → Bool
overlaps given at count = list_any (λ offset. is_some (given (at + offset))) (range_with_len 0 count)

abbrev pub fault_with : (ℕ → Option Cell) → ℕ → Result (List ℕ) AsmCause → Option AsmCause
fault_with given at (Err cause) = Some cause
fault_with given at (Ok bytes) = if overlaps given at (length bytes) then Some Overlap else None

-- the first cause of line i in pass 2
unfoldable pub fault_2 : Isa → List (List ℕ) → ℕ → Option AsmCause
fault_2 isa source i = fault_with (cell_before isa source i) (address_of isa source i) (bytes_of isa source i)

-- no line has a fault
abbrev pub NoFault : (ℕ → Option AsmCause) → ℕ → Type 0
NoFault fault count = (i : ℕ) → i < count → fault i ≡ None

-- line i is the first one with a fault
pub record IsFirstFault (fault : ℕ → Option AsmCause) (count i : ℕ) (cause : AsmCause) : Type 0 where
  pub inside : i < count
  pub here : fault i ≡ Some cause
  pub earlier : NoFault fault i

-- The first fault of a source is the first of pass 1, or, where pass 1 has none, the first of pass 2. Lines are numbered from 1.
abbrev pub HasFirstFault : Isa → List (List ℕ) → ℕ → AsmCause → Type 0
HasFirstFault isa source line cause =
    (i : ℕ) × (line ≡ i + 1)
    × (IsFirstFault (fault_1 isa source) (length source) i cause
    ⊎ (NoFault (fault_1 isa source) (length source) × IsFirstFault (fault_2 isa source) (length source) i cause))
