-- What the checks of certificates answer.
use Rattle.std.specs.Prelude.{◌≡◌, ℕ, List, Bool, Result, Ok, Err, Vec}
use Rattle.asm_core.specs.Origins.{origins_of}
use Rattle.asm_core.specs.Sources.{source_lines}
use Rattle.asm_lex.specs.declared.shape.Isa.TheVariants.{Cdp1802}
use Rattle.cycle_check.specs.declared.Within.{Within}
use Rattle.cycle_check.specs.declared.exits.Exit.{Exit}
use Rattle.vip_tools.specs.declared.certificates.Routine.{Routine}
use Rattle.vip_tools.specs.declared.refusal.Refusal.{Refusal}
use Rattle.vip_tools.specs.Certificates.{Assembled, EntryComes, SourceRom, RoutineComes, exits_asked, rom_in}
use Rattle.vip_tools.specs.Judged.{Judged, RefusedBy, bind}
use Rattle.vip_tools.specs.Judged.Verdict.{Given}
use Rattle.vip_words.specs.declared.request.Entry.{Entry}

-- a source is assembled into a ROM
abbrev pub RomAnswers : List ℕ → Result (List ℕ) Refusal → Type 0
RomAnswers source (Ok rom) = Assembled source × (rom ≡ rom_in source)
RomAnswers source (Err refusal) = RefusedBy (SourceRom source) refusal

-- and a routine of it is entered at an address
abbrev pub EntersComes : List ℕ → Entry → Judged ℕ
EntersComes source entry = bind (SourceRom source) (λ made. EntryComes made.made entry)

abbrev pub EnteredAnswers : List ℕ → Entry → Result Routine Refusal → Type 0
EnteredAnswers source entry (Ok found) =
    EntersComes source entry (Given found.address) × (found.rom ≡ rom_in source) × (found.origins ≡ origins_of Cdp1802 (source_lines source))
EnteredAnswers source entry (Err refusal) = RefusedBy (EntersComes source entry) refusal

-- a certificate of cycles is checked for a ROM, and its exits are there where they are asked for
module _ {Z : Type 0} where
  abbrev pub CertificateAnswers : List ℕ → List ℕ → Bool → Result (Within × Vec Exit Z) Refusal → Type 0
  CertificateAnswers rom text exits (Ok found) = RoutineComes rom text (Given found.0) × (found.1.items ≡ exits_asked exits rom text)
  CertificateAnswers rom text exits (Err refusal) = RefusedBy (RoutineComes rom text) refusal
