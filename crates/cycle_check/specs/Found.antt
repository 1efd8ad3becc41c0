-- A certificate that is found for a routine.
use Rattle.std.specs.Prelude.{◌≡◌, ℕ, ◌<◌, ◌≤◌, ◌⊎◌, List, length, [], ◌∷◌, ◌++◌, codes, decimal, drop, flat_map, Option, Some, None, Ok, false}
use Rattle.std.specs.List.{All}
use Rattle.vip_byte.specs.HexText.{hex2, hex4}
use Rattle.vip_byte.specs.Reading.{read}
use Rattle.cycle_check.specs.declared.fault.TimingCause.{TimingCause}
use Rattle.cycle_check.specs.declared.fault.TimingCause.TheVariants.{Opcode}
use Rattle.cycle_check.specs.declared.fault.TimingFault.{TimingFault}
use Rattle.cycle_check.specs.declared.fault.TimingFault.TheVariants.{NotFound, NoMemory}
use Rattle.cycle_check.specs.declared.grammar.Bound.{Bound}
use Rattle.cycle_check.specs.declared.grammar.Fact.{Fact}
use Rattle.cycle_check.specs.declared.grammar.Fact.TheVariants.{Any, Copy, NonZero, Is}
use Rattle.cycle_check.specs.declared.grammar.Line.{Line}
use Rattle.cycle_check.specs.Certificate.{certificate_format, certificate_of}
use Rattle.cycle_check.specs.Closed.{bytes_at, checked, instruction_at, is_allowed, left, line_at}
use Rattle.cycle_check.specs.Exits.{exits, remarks_text}

-- ---- the text of a certificate: single blanks, upper-case digits, no leading zeros

-- the last digit of a byte
abbrev pub digit_text : ℕ → List ℕ
digit_text digit = drop 1 (hex2 digit)

abbrev pub registers_text : Bound → List ℕ
registers_text bound = (codes " " ++ digit_text bound.p) ++ (codes " " ++ digit_text bound.k)

abbrev pub limit_text : ℕ → List ℕ
limit_text limit = codes " " ++ (decimal limit ++ 10 ∷ [])

unfoldable pub bound_text : Bound → List ℕ
bound_text bound = (codes "within " ++ hex4 bound.entry) ++ (registers_text bound ++ limit_text bound.limit)

abbrev pub x_text : Option ℕ → List ℕ
x_text None = codes "-"
x_text (Some x) = digit_text x

abbrev pub fact_text : Fact → List ℕ
fact_text Any = codes "any"
fact_text Copy = codes "copy"
fact_text NonZero = codes "some"
fact_text (Is byte) = codes "is " ++ hex2 byte

unfoldable pub line_text : Line → List ℕ
line_text line =
    ((hex4 line.address ++ codes " ") ++ (x_text line.x ++ codes " "))
    ++ ((decimal line.base ++ codes " ") ++ ((decimal line.step ++ codes " ") ++ (fact_text line.fact ++ 10 ∷ [])))

abbrev pub certificate_text : Bound → List Line → List ℕ
certificate_text bound lines = bound_text bound ++ flat_map line_text lines

-- a certificate, and behind it a remark for each exit
abbrev pub timing_text : List ℕ → Bound → List Line → List ℕ
timing_text rom bound lines = certificate_text bound lines ++ remarks_text (exits rom bound lines)

-- ---- what is found

-- an exit that doesn't lead to an address of the ROM
abbrev pub leaves_rom : Option ℕ → Type 0
leaves_rom None = Unit {0}
leaves_rom (Some to) = (to < 0x8000) ⊎ (0x8800 ≤ to)

-- the limit is what is left at the entry where the counter is greatest
abbrev pub HasLimit : Bound → List Line → Type 0
HasLimit bound lines = (line : Line) × (line_at lines bound.entry ≡ Some line) × (bound.limit ≡ left line 255)

-- A certificate of a routine that is entered at an address, with this program counter and this counter: it reads as its lines, is accepted, and has behind
-- them a remark for each exit. So the routine is left only by SEP of another register or out of the ROM, and its limit is what is left at the entry where
-- the counter is greatest.
pub record IsCertificate (rom : List ℕ) (entry p k : ℕ) (text : List ℕ) : Type 0 where
  pub bound : Bound
  pub entered : bound.entry ≡ entry
  pub counter : bound.p ≡ p
  pub counts : bound.k ≡ k
  pub lines : List Line
  pub is : text ≡ timing_text rom bound lines
  pub fits : length text ≤ 1_048_576
  pub statements : List (List (List ℕ))
  pub says : read certificate_format text ≡ Ok statements
  pub reads : certificate_of statements ≡ record { bound = Some bound; lines = lines }
  pub accepted : checked rom text ≡ Ok (record { entry = entry; limit = bound.limit })
  pub leaves : All (λ exit. leaves_rom exit.to) (exits rom bound lines)
  pub limit : HasLimit bound lines

-- for this entry, this program counter and this counter
abbrev pub IsFound : List ℕ → ℕ → ℕ → ℕ → List ℕ → Type 0
IsFound = IsCertificate

-- ---- why none is found

module _ (rom : List ℕ) (bound : Bound) where
  -- no line of the address is allowed that knows no X
  abbrev pub IsRefused : ℕ → Type 0
  IsRefused address = (line : Line) → line.address ≡ address → line.x ≡ None → is_allowed bound line (instruction_at rom address) ≡ false

  -- What `Opcode` says of an address is true of the source. The other causes promise nothing.
  abbrev pub IsTrueAt : TimingCause → ℕ → Type 0
  IsTrueAt Opcode address = IsRefused address
  IsTrueAt cause address = Unit {0}

abbrev pub IsTimingFault : List ℕ → Bound → TimingFault → Type 0
IsTimingFault rom bound (NotFound obstacle) = IsTrueAt rom bound obstacle.cause obstacle.address × (obstacle.bytes ≡ bytes_at rom obstacle.address)
IsTimingFault rom bound NoMemory = Unit {0}
