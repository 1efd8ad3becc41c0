-- What the verbs of a source and of bytes come to.
use Rattle.std.specs.Prelude.{◌≡◌, ℕ, List, [], ◌∷◌, Bool, true, false}
use Rattle.asm_lex.specs.declared.shape.Isa.{Isa}
use Rattle.asm_core.specs.Made.{Made}
use Rattle.asm_core.specs.Sources.{source_lines}
use Rattle.asm_listing.specs.Dump.{dump_text}
use Rattle.asm_listing.specs.Raw.{IsRaw}
use Rattle.asm_listing.specs.Listing.{IsListing}
use Rattle.asm_listing.specs.Disassembly.{disassembly}
use Rattle.asm_listing.specs.Told.{has_told, report_of}
use Rattle.vip_tools.specs.Judged.{Judged, bind, each}
use Rattle.vip_tools.specs.Opening.{SourceComes}
use Rattle.vip_tools.specs.Outcome.{Ends, Output, Shown, Writes}
use Rattle.vip_tools.specs.Status.{checked_status}

-- a text of what was assembled
abbrev pub TextOf : Isa → List ℕ → (Made → List ℕ → Type 0) → Judged Output
TextOf isa source IsText = bind (SourceComes isa source) (λ made. bind (each (IsText made)) Writes)

-- its bytes themselves, or their dump
abbrev pub IsBytes : Isa → Bool → Made → List ℕ → Type 0
IsBytes isa true made text = IsRaw isa made text
IsBytes isa false made text = text ≡ dump_text made

abbrev pub AsmComes : Isa → Bool → List ℕ → Judged Output
AsmComes isa raw source = TextOf isa source (IsBytes isa raw)

abbrev pub ListComes : Isa → List ℕ → Judged Output
ListComes isa source = TextOf isa source (λ made text. IsListing isa (source_lines source) text)

-- every fault that is told of it, by the name of its file: the status says whether there is one
abbrev pub CheckComes : Isa → List ℕ → List ℕ → Judged Output
CheckComes isa name source =
    Ends (Shown (report_of isa name (source_lines source) ∷ []) (checked_status (has_told isa (source_lines source))) [])

-- bytes, whose first one lies at this address
abbrev pub DisComes : Isa → ℕ → List ℕ → Judged Output
DisComes isa address bytes = Writes (disassembly isa address bytes)
