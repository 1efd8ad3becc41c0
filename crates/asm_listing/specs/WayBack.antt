-- The way back: assembling a disassembly gives the same bytes at the same addresses, and no others.
use Rattle.std.specs.Prelude.{◌≡◌, ◌-◌, ℕ, List, length, nat_le, slice_get, if◌then◌else◌, Option, None, option_map}
use Rattle.asm_lex.specs.declared.shape.Isa.{Isa}
use Rattle.asm_core.specs.Sources.{NoFault, fault_1, fault_2, cell_before}

-- the byte at an address among those that stand from `at` on
abbrev pub byte_in : ℕ → List ℕ → ℕ → Option ℕ
byte_in at bytes address = if nat_le at address then slice_get bytes (address - at) else None

-- a source has no fault, and gives each address the byte that stands there, where one does
pub record AssemblesTo (isa : Isa) (source : List (List ℕ)) (at : ℕ) (bytes : List ℕ) : Type 0 where
  pub no_fault_1 : NoFault (fault_1 isa source) (length source)
  pub no_fault_2 : NoFault (fault_2 isa source) (length source)
  pub bytes_are : (address : ℕ) → option_map (λ cell. cell.byte) (cell_before isa source (length source) address) ≡ byte_in at bytes address
