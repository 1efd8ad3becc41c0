-- What the verbs of certificates come to, by the contents of their files.
use Rattle.std.specs.Prelude.{◌≡◌, ◌+◌, ◌≤◌, ℕ, List, [], ◌++◌, length, map, codes, decimal, Bool, true, false, Option, Some, None, option_map, unwrap_or, Ok, Err}
use Rattle.std.specs.List.{range_with_len}
use Rattle.std.specs.Option.{option_or}
use Rattle.machine.specs.Ranges.{FitsRom}
use Rattle.chip8_lang.specs.declared.view.Edition.{Edition}
use Rattle.vip_byte.specs.HexText.{hex4}
use Rattle.vip_byte.specs.Text.{newline}
use Rattle.asm_lex.specs.Names.{number_named, value_in}
use Rattle.asm_lex.specs.declared.shape.Isa.TheVariants.{Cdp1802, Chip8}
use Rattle.asm_core.specs.Made.{Made, IsAssembly, IsFirstOf}
use Rattle.asm_core.specs.Origins.{origins_of}
use Rattle.asm_core.specs.Sources.{source_lines, cell_before}
use Rattle.chip8_source.specs.Compared.{Bytes}
use Rattle.cycle_check.specs.Closed.{checked}
use Rattle.cycle_check.specs.Exits.{exits_in, exits_text}
use Rattle.cycle_check.specs.Found.{IsFound, IsTimingFault}
use Rattle.cycle_check.specs.declared.Within.{Within}
use Rattle.cycle_check.specs.declared.exits.Exit.{Exit}
use Rattle.cycle_check.specs.declared.fault.CertFault.{CertFault}
use Rattle.cycle_check.specs.declared.fault.CertFault.TheVariants as cert
use Rattle.cycle_check.specs.declared.fault.TimingFault.{TimingFault}
use Rattle.cycle_check.specs.declared.fault.TimingFault.TheVariants as timing
use Rattle.cycle_check.specs.declared.fault.TimingFault.TheVariants.{NotFound}
use Rattle.game_check.specs.Least.{IsFound as IsGameFound, IsWhy}
use Rattle.game_check.specs.Proof.{proof_of}
use Rattle.game_check.specs.declared.fault.FindFault.{FindFault}
use Rattle.game_check.specs.declared.fault.FindFault.TheVariants as find
use Rattle.game_check.specs.declared.fault.ProofFault.{ProofFault}
use Rattle.game_check.specs.declared.fault.ProofFault.TheVariants as proof
use Rattle.vip_tools.specs.declared.refusal.NoTiming.TheVariants.{Undefined, Obstacle as Ended_at}
use Rattle.vip_tools.specs.declared.refusal.Refusal.{Refusal}
use Rattle.vip_tools.specs.declared.refusal.Refusal.TheVariants.{Certificate, NoCertificate, NoMemory, NoTiming, Proof}
use Rattle.vip_tools.specs.Files.{most_text, rom_size}
use Rattle.vip_tools.specs.Remarks.{proof_shown, routine_shown}
use Rattle.vip_words.specs.declared.request.Code.{Code}
use Rattle.vip_words.specs.declared.request.Code.TheVariants as given
use Rattle.vip_words.specs.declared.request.Entry.{Entry}
use Rattle.vip_tools.specs.Judged.{Judged, bind, judged}
use Rattle.vip_tools.specs.Opening.{source_refusal}
use Rattle.vip_tools.specs.Outcome.{Output, Writes}

-- ---- a certificate of cycles

-- so many bytes from an address on, and 00 where there is none
unfoldable pub bytes_at : Bytes → ℕ → ℕ → List ℕ
bytes_at bytes start size = map (λ offset. unwrap_or (bytes (start + offset)) 0x00) (range_with_len 0 size)

-- the byte that some line of a source gives an address, and the ROM of a source
abbrev pub source_byte : List ℕ → Bytes
source_byte source address = option_map (λ cell. cell.byte) (cell_before Cdp1802 (source_lines source) (length (source_lines source)) address)

abbrev pub rom_in : List ℕ → List ℕ
rom_in source = bytes_at (source_byte source) 0x8000 rom_size

-- a source is assembled, and its ROM is one of bytes
pub record Assembled (source : List ℕ) : Type 0 where
  pub made : Made
  pub is : IsAssembly Cdp1802 (source_lines source) made
  pub fits : FitsRom (rom_in source)

abbrev pub SourceRom : (source : List ℕ) → Judged (Assembled source)
SourceRom source = judged (λ made. Unit {0}) (IsFirstOf Cdp1802 (source_lines source)) source_refusal

unfoldable pub within_line : Within → List ℕ
within_line within = codes "yes " ++ hex4 within.entry ++ codes " within " ++ decimal within.limit ++ newline

-- the exits of a certificate, where they are asked for
abbrev pub exits_asked : Bool → List ℕ → List ℕ → List Exit
exits_asked true rom text = exits_in rom text
exits_asked false rom text = []

-- the entry and the limit, and a line for each exit
abbrev pub routine_text : Within → List Exit → List ℕ
routine_text within exits = within_line within ++ exits_text exits

abbrev pub cert_refusal : CertFault → Refusal
cert_refusal (cert.Fault line cause) = Certificate line cause
cert_refusal cert.NoMemory = NoMemory

-- a certificate for a ROM
abbrev pub RoutineComes : List ℕ → List ℕ → Judged Within
RoutineComes rom text = judged (λ within. checked rom text ≡ Ok within) (λ fault. checked rom text ≡ Err fault) cert_refusal

-- The first fault of the source, the first fault of the certificate for its ROM, or the entry and the limit, and the exits where they are asked for.
abbrev pub CyclesComes : List ℕ → List ℕ → Bool → Judged Output
CyclesComes source text exits =
    bind (SourceRom source) (λ _. bind (RoutineComes (rom_in source) text) (λ within. Writes (routine_text within (exits_asked exits (rom_in source) text))))

-- ---- a certificate of cycles that is searched for

-- the address at which a routine of an assembled source is entered: what the name stands for, and else what the digits say
abbrev pub entry_in : Made → Entry → Option ℕ
entry_in made entry = option_or (number_named (value_in made.names) entry.name.items) entry.digits

abbrev pub EntryComes : Made → Entry → Judged ℕ
EntryComes made entry =
    judged (λ address. entry_in made entry ≡ Some address) (λ name. (entry.name ≡ name) × (entry_in made entry ≡ None)) (λ name. NoTiming (Undefined name))

abbrev pub timing_refusal : TimingFault → Refusal
timing_refusal (NotFound obstacle) = NoTiming (Ended_at obstacle)
timing_refusal timing.NoMemory = NoMemory

-- Some certificate of a routine, which is small enough for `cycles`; or where the search for one gave up. What `Opcode` says there is true of the ROM.
abbrev pub RoutineFound : List ℕ → ℕ → ℕ → ℕ → Judged (List ℕ)
RoutineFound rom address p k =
    judged (λ text. IsFound rom address p k text × (length text ≤ most_text)) (IsTimingFault rom (record { entry = address; p = p; k = k; limit = 0 })) timing_refusal

-- it is written with the names of the source's labels
abbrev pub timing_shown : List ℕ → List ℕ → List ℕ
timing_shown source text = routine_shown (rom_in source) (origins_of Cdp1802 (source_lines source)) text

-- The first fault of the source; that the entry's name has no number; some certificate; or where the search gave up. For which routines a certificate is found
-- nothing is said, nor which of several causes is named.
abbrev pub TimingComes : List ℕ → Entry → ℕ → ℕ → Judged Output
TimingComes source entry p k =
    bind (SourceRom source) (λ made. bind (EntryComes made.made entry) (λ address. bind (RoutineFound (rom_in source) address p k)
    (λ text. Writes (timing_shown source text))))

-- ---- a game's certificate

unfoldable pub count_line : ℕ → List ℕ
count_line count = codes "yes " ++ decimal count ++ newline

abbrev pub proof_refusal : ProofFault → Refusal
proof_refusal (proof.Fault line cause) = Proof line cause
proof_refusal proof.NoMemory = NoMemory

abbrev pub ProofComes : Edition → List ℕ → List ℕ → Judged ℕ
ProofComes e game text = judged (λ count. proof_of e game text ≡ Ok count) (λ fault. proof_of e game text ≡ Err fault) proof_refusal

-- the first fault of the certificate, or how many lines of it say something
abbrev pub SafeComes : Edition → List ℕ → List ℕ → Judged Output
SafeComes e game text = bind (ProofComes e game text) (λ count. Writes (count_line count))

abbrev pub find_refusal : FindFault → Refusal
find_refusal (find.NotFound obstacle) = NoCertificate obstacle
find_refusal find.NoMemory = NoMemory

abbrev pub ProofFound : Edition → List ℕ → Judged (List ℕ)
ProofFound e game = judged (IsGameFound e game) (IsWhy e game) find_refusal

-- a certificate is written as it is, and that of a source with the names of its labels
abbrev pub certify_shown : Edition → Code (List ℕ) → List ℕ → List ℕ → List ℕ
certify_shown e (given.Bytes bytes) game text = text
certify_shown e (given.Source source told) game text = proof_shown e game (origins_of Chip8 (source_lines source)) text

-- The least certificate that `safe` accepts, exactly where there is one that is small enough for it; or why there is none.
abbrev pub CertifyComes : Edition → Code (List ℕ) → List ℕ → Judged Output
CertifyComes e code game = bind (ProofFound e game) (λ text. Writes (certify_shown e code game text))
