-- What is found of the lines before a line while every fault of a source is looked for.
use Rattle.std.specs.Prelude.{◌≡◌, ◌≤◌, ℕ, Bool, false, List, [], ◌∷◌, ◌++◌, true, slice_index_or, if◌then◌else◌, Option, None, is_some, option_map, Result, Ok, Err}
use Rattle.std.specs.Option.{option_or}
use Rattle.std.specs.Result.{result_unwrap_or}
use Rattle.asm_lex.specs.declared.shape.Isa.{Isa}
use Rattle.asm_lex.specs.declared.shape.SymbolValue.{SymbolValue}
use Rattle.asm_lex.specs.declared.shape.Word.{Word}
use Rattle.asm_lex.specs.Names.{value_in}
use Rattle.asm_lex.specs.Notes.{note_in}
use Rattle.asm_core.specs.declared.findings.Finding.{Finding}
use Rattle.asm_core.specs.declared.findings.First.{First}
use Rattle.asm_core.specs.declared.findings.Looked.{Looked}
use Rattle.asm_core.specs.declared.fault.AsmCause.{AsmCause}
use Rattle.asm_core.specs.declared.layout.Laid.{Laid}
use Rattle.asm_core.specs.declared.table.Cell.{Cell}
use Rattle.asm_core.specs.Layout.{laid_out}
use Rattle.asm_core.specs.Passes.{AddsLine}
use Rattle.asm_core.specs.Sources.{Known, cell_in, fault_with}
use Rattle.asm_core.specs.Told.{Seen, guessed, seen_next, finding_1}

-- names with their values, as the program has them
abbrev pub Table : Type 0
Table = List (List ℕ × SymbolValue)

-- a line in pass 1 leads on, and a faulty one changes no names
abbrev pub Learns : Isa → Table → ℕ → List ℕ → Table → Result (Option Word × Laid) AsmCause → Type 0
Learns isa old at line new (Ok found) = AddsLine isa old at line new found.0 found.1
Learns isa old at line new (Err cause) = (laid_out isa (value_in old) at line ≡ Err cause) × (new ≡ old)

abbrev pub known : Table → ℕ → Known
known names at = record { at = at; names = value_in names }

abbrev pub seen : Table → ℕ → Bool → Seen
seen names at faulty = record { known = known names at; faulty = faulty }

-- what a line leaves that counts for its label alone
pub record Guesses (isa : Isa) (old : Table) (at : ℕ) (line : List ℕ) (new : Table) (next : ℕ) : Type 0 where
  pub next_is : next ≡ (guessed isa (known old at) line).at
  pub names : (name : List ℕ) → value_in new name ≡ (guessed isa (known old at) line).names name
  pub low : next ≤ 65536

-- what a line leaves, what is told of it, and, where it and the lines before it have no fault, where it stands
pub record Looks (isa : Isa) (old : Table) (at : ℕ) (faulty : Bool) (line : List ℕ) (new : Table) (looked : Looked) : Type 0 where
  pub next_is : looked.laid.next ≡ (seen_next isa (seen old at faulty) line).known.at
  pub names : (name : List ℕ) → value_in new name ≡ (seen_next isa (seen old at faulty) line).known.names name
  pub faulty_is : looked.faulty ≡ (seen_next isa (seen old at faulty) line).faulty
  pub told : looked.finding ≡ finding_1 isa (seen old at faulty) line
  pub low : looked.laid.next ≤ 65536
  pub clean : looked.faulty ≡ false → (faulty ≡ false) × AddsLine isa old at line new looked.word looked.laid

-- what pass 1 finds before the first line, which begins at an address
pub record HasNoLines (first : First) (at : ℕ) : Type 0 where
  pub names : first.plan.names ≡ []
  pub addresses : first.plan.addresses.items ≡ at ∷ []
  pub words : first.plan.words.items ≡ []
  pub values : first.plan.values.items ≡ []
  pub findings : first.told.findings.items ≡ []
  pub notes : first.told.notes.items ≡ []
  pub faultless : first.faulty ≡ false

-- what is found of one more line, behind which the next one begins
pub record AddsFound (isa : Isa) (old : First) (at : ℕ) (with_note : Bool) (line : List ℕ) (new : First) (next : ℕ) : Type 0 where
  pub looked : Looked
  pub looks : Looks isa old.plan.names at old.faulty line new.plan.names looked
  pub next_is : next ≡ looked.laid.next
  pub faulty_is : new.faulty ≡ looked.faulty
  pub addresses : new.plan.addresses.items ≡ old.plan.addresses.items ++ looked.laid.next ∷ []
  pub words : new.plan.words.items ≡ old.plan.words.items ++ looked.word ∷ []
  pub values : new.plan.values.items ≡ old.plan.values.items ++ looked.laid.value ∷ []
  pub findings : new.told.findings.items ≡ old.told.findings.items ++ looked.finding ∷ []
  pub notes : with_note ≡ true → new.told.notes.items ≡ old.told.notes.items ++ note_in isa (value_in old.plan.names) line ∷ []

-- in pass 2 the bytes of a line without a fault are put, and a faulty one is told
pub record PutsLine (finding : AsmCause → Finding) (old new : List (Option Cell)) (number at : ℕ) (made : Result (List ℕ) AsmCause) (told : Option Finding)
    : Type 0 where
  pub told_is : told ≡ option_map finding (fault_with (λ address. slice_index_or old address None) at made)
  pub put : (address : ℕ) → slice_index_or new address None
      ≡ option_or (slice_index_or old address None)
      (if is_some (fault_with (λ address. slice_index_or old address None) at made) then None else cell_in number at (result_unwrap_or made []) address)
