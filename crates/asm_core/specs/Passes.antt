-- What the passes have found of the lines before a line.
use Rattle.std.specs.Prelude.{◌≡◌, ◌+◌, ◌<◌, ◌≤◌, ℕ, List, length, slice_index, slice_index_or, Option, None, Some, Ok}
use Rattle.asm_core.specs.declared.findings.Finding.{Finding}
use Rattle.asm_core.specs.declared.findings.LinePlan.{LinePlan}
use Rattle.asm_core.specs.declared.layout.Laid.{Laid}
use Rattle.asm_core.specs.declared.passes.Plan.{Plan}
use Rattle.asm_core.specs.declared.table.Cell.{Cell}
use Rattle.asm_core.specs.declared.fault.AsmFault.{AsmFault}
use Rattle.asm_core.specs.declared.fault.AsmFault.TheVariants.{Fault}
use Rattle.asm_lex.specs.declared.shape.Isa.{Isa}
use Rattle.asm_lex.specs.declared.shape.SymbolValue.{SymbolValue}
use Rattle.asm_lex.specs.declared.shape.Word.{Word}
use Rattle.asm_lex.specs.Names.{value_in}
use Rattle.asm_lex.specs.Lines.{Reads}
use Rattle.asm_core.specs.declared.layout.LabelValue.{LabelValue}
use Rattle.asm_core.specs.declared.layout.LabelValue.TheVariants.{Address}
use Rattle.asm_core.specs.Names.{with_label}
use Rattle.asm_core.specs.Layout.{laid_out, label_in, symbol_value, count_between}
use Rattle.asm_core.specs.Made.{IsAssembly}
use Rattle.asm_core.specs.Sources.{NoFault, fault_1, line_at, names_before, address_of, label_value}

-- a line in pass 1 leads from the names before it to those behind it, and to the next address
pub record AddsLine (isa : Isa) (old : List (List ℕ × SymbolValue)) (at : ℕ) (line : List ℕ) (new : List (List ℕ × SymbolValue))
    (word : Option Word) (laid : Laid) : Type 0 where
  pub reads : Reads isa (value_in old) line word
  pub is : laid_out isa (value_in old) at line ≡ Ok laid
  pub names : (name : List ℕ) → value_in new name ≡ with_label (value_in old) (label_in isa (value_in old) line) (symbol_value laid.value) name
  pub low : laid.next ≤ 65536

-- what pass 1 keeps of the first lines: the names, the address of each line, and of the one behind them, the words and the labels' values
pub record Planned : Type 0 where
  pub names : List (List ℕ × SymbolValue)
  pub addresses : List ℕ
  pub words : List (Option Word)
  pub values : List LabelValue

abbrev pub plan_with : List (List ℕ × SymbolValue) → List ℕ → List (Option Word) → List LabelValue → Planned
plan_with names addresses words values = record { names = names; addresses = addresses; words = words; values = values }

abbrev pub planned : Plan → Planned
planned plan = plan_with plan.names plan.addresses.items plan.words.items plan.values.items

abbrev pub word_at : List (Option Word) → ℕ → Option Word
word_at words i = slice_index_or words i None

-- pass 1 over the first lines found no fault, and this
pub record LaysOut (isa : Isa) (source : List (List ℕ)) (count : ℕ) (plan : Planned) : Type 0 where
  pub inside : count ≤ length source
  pub faultless : NoFault (fault_1 isa source) count
  pub named : (name : List ℕ) → value_in plan.names name ≡ names_before isa source count name
  pub count_is : length plan.addresses ≡ count + 1
  pub placed : (i : ℕ) → i ≤ count → slice_index plan.addresses i ≡ address_of isa source i
  pub low : (i : ℕ) → i ≤ count → address_of isa source i ≤ 65536
  pub words_count : length plan.words ≡ count
  pub read : (i : ℕ) → i < count → Reads isa (names_before isa source i) (line_at source i) (word_at plan.words i)
  pub values_count : length plan.values ≡ count
  pub valued : (i : ℕ) → i < count → slice_index_or plan.values i (Address 0) ≡ label_value isa source i

-- where pass 1 placed a line
abbrev pub line_plan : Planned → ℕ → LinePlan
line_plan plan i =
    let at = slice_index plan.addresses i in
    record {
      at = at;
      count = count_between (slice_index_or plan.values i (Address 0)) at (slice_index plan.addresses (i + 1));
      word = word_at plan.words i;
    }

-- what both passes found of a source without a fault
pub record IsFound (isa : Isa) (source : List (List ℕ)) (plan : Planned) (cells : List (Option Cell)) : Type 0 where
  pub cells_count : length cells ≡ 65536
  pub lines_count : length plan.addresses ≡ length plan.values + 1
  pub is : IsAssembly isa source (record { cells = cells; names = plan.names; addresses = plan.addresses; values = plan.values })

-- nothing is found in any line
abbrev pub NoneIn : List (Option Finding) → Type 0
NoneIn found = (i : ℕ) → i < length found → slice_index_or found i None ≡ None

-- line i is the first with a finding, which is this one
pub record IsFirstFinding (found : List (Option Finding)) (i : ℕ) (finding : Finding) : Type 0 where
  pub inside : i < length found
  pub here : slice_index_or found i None ≡ Some finding
  pub earlier : (k : ℕ) → k < i → slice_index_or found k None ≡ None

-- a fault is that finding's
abbrev pub IsFirstOfFindings : List (Option Finding) → AsmFault → Type 0
IsFirstOfFindings found fault = (i : ℕ) × (finding : Finding) × (IsFirstFinding found i finding × (fault ≡ Fault (i + 1) finding.cause))
