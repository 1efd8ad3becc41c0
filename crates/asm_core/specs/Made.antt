-- What an assembled source shows.
use Rattle.std.specs.Prelude.{◌≡◌, ◌==◌, ◌+◌, ◌<◌, ◌≤◌, ℕ, List, length, slice_index, slice_index_or, if◌then◌else◌, Option, None, option_map, refl}
use Rattle.std.specs.Coded.{Coded, code_by, coded×, coded_ℕ, coded_list, coded_option}
use Rattle.asm_core.specs.declared.assembly.LinePlace.{LinePlace}
use Rattle.asm_core.specs.declared.table.Cell.{Cell}
use Rattle.asm_lex.specs.declared.shape.Isa.{Isa}
use Rattle.asm_lex.specs.declared.shape.SymbolValue.{SymbolValue}
use Rattle.asm_lex.specs.declared.shape.SymbolValue.TheVariants.{Number, Register}
use Rattle.asm_lex.specs.Names.{value_in}
use Rattle.asm_core.specs.declared.layout.LabelValue.{LabelValue}
use Rattle.asm_core.specs.declared.layout.LabelValue.TheVariants.{Address, Given}
use Rattle.asm_core.specs.declared.fault.AsmFault.{AsmFault}
use Rattle.asm_core.specs.declared.fault.AsmFault.TheVariants.{Fault, NoMemory}
use Rattle.asm_core.specs.Sources.{NoFault, HasFirstFault, fault_1, fault_2, cell_before, all_names, address_of, label_value}

-- the byte of each address with the number of its line, the names in the order of their bytes with their values, the address at
-- which each line begins, with the address behind the last one, and the value of each line's label
pub record Made : Type 0 where
  pub cells : List (Option Cell)
  pub names : List (List ℕ × SymbolValue)
  pub addresses : List ℕ
  pub values : List LabelValue

abbrev pub cell_code : Coded Cell
cell_code = code_by (ℕ × ℕ) (coded× coded_ℕ coded_ℕ) (λ cell. (cell.byte, cell.line)) (λ parts. record { byte = parts.0; line = parts.1 }) (λ _. refl)

-- a value as a kind and a number
abbrev pub symbol_parts : SymbolValue → ℕ × ℕ
symbol_parts (Number number) = (0, number)
symbol_parts (Register register) = (1, register)

abbrev pub symbol_from : ℕ × ℕ → SymbolValue
symbol_from parts = if parts.0 == 0 then Number parts.1 else Register parts.1

pub symbol_same : (value : SymbolValue) → symbol_from (symbol_parts value) ≡ value
symbol_same (Number number) = refl
symbol_same (Register register) = refl

abbrev pub symbol_code : Coded SymbolValue
symbol_code = code_by (ℕ × ℕ) (coded× coded_ℕ coded_ℕ) symbol_parts symbol_from symbol_same

abbrev pub label_parts : LabelValue → ℕ × (ℕ × ℕ)
label_parts (Address address) = (0, (0, address))
label_parts (Given value) = (1, symbol_parts value)

abbrev pub label_from_parts : ℕ × (ℕ × ℕ) → LabelValue
label_from_parts parts = if parts.0 == 0 then Address parts.1.1 else Given (symbol_from parts.1)

pub label_same : (value : LabelValue) → label_from_parts (label_parts value) ≡ value
label_same (Address address) = refl
label_same (Given (Number number)) = refl
label_same (Given (Register register)) = refl

abbrev pub label_code : Coded LabelValue
label_code = code_by (ℕ × (ℕ × ℕ)) (coded× coded_ℕ (coded× coded_ℕ coded_ℕ)) label_parts label_from_parts label_same

abbrev pub made_code : Coded Made
made_code =
    code_by (List (Option Cell) × (List (List ℕ × SymbolValue) × (List ℕ × List LabelValue)))
    (coded× (coded_list (coded_option cell_code))
    (coded× (coded_list (coded× (coded_list coded_ℕ) symbol_code)) (coded× (coded_list coded_ℕ) (coded_list label_code))))
    (λ made. (made.cells, (made.names, (made.addresses, made.values))))
    (λ parts. record { cells = parts.0; names = parts.1.0; addresses = parts.1.1.0; values = parts.1.1.1 })
    (λ _. refl)

-- the byte at an address, with its line
abbrev pub cell_at : Made → ℕ → Option Cell
cell_at made address = slice_index_or made.cells address None

-- the byte at an address, where some line gives it one
abbrev pub made_byte : Made → ℕ → Option ℕ
made_byte made address = option_map (λ cell. cell.byte) (cell_at made address)

-- where line i stands: the value of its label, the address at which it begins, and the one behind it
abbrev pub value_at : Made → ℕ → LabelValue
value_at made i = slice_index_or made.values i (Address 0)

abbrev pub line_place : Made → ℕ → LinePlace
line_place made i = record { value = value_at made i; at = slice_index made.addresses i; next = slice_index made.addresses (i + 1) }

-- a source of an instruction set without a fault is assembled to this
pub record IsAssembly (isa : Isa) (source : List (List ℕ)) (made : Made) : Type 0 where
  pub no_fault_1 : NoFault (fault_1 isa source) (length source)
  pub no_fault_2 : NoFault (fault_2 isa source) (length source)
  pub cells : (address : ℕ) → address < 65536 → cell_at made address ≡ cell_before isa source (length source) address
  pub names : (name : List ℕ) → value_in made.names name ≡ all_names isa source name
  pub addresses : (i : ℕ) → i ≤ length source → slice_index made.addresses i ≡ address_of isa source i
  pub low : (i : ℕ) → i ≤ length source → address_of isa source i ≤ 65536
  pub count : length made.values ≡ length source
  pub values : (i : ℕ) → i < length source → value_at made i ≡ label_value isa source i

-- a fault is the first one of the source, or want of memory
abbrev pub IsFirstOf : Isa → List (List ℕ) → AsmFault → Type 0
IsFirstOf isa source (Fault line cause) = HasFirstFault isa source line cause
IsFirstOf isa source NoMemory = Unit {0}
