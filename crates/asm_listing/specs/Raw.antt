-- The bytes of an assembly, one behind another: from the lowest address that has a byte, or CHIP-8's first address, to the highest that has
-- one, with 00 at those between that have none (this project's profile).
use Rattle.std.specs.Prelude.{◌≡◌, ◌+◌, ◌-◌, ◌<◌, ◌≤◌, ℕ, List, [], true, Option, None, Some, is_some, map, unwrap_or}
use Rattle.std.specs.List.{range_with_len}
use Rattle.asm_lex.specs.declared.shape.Isa.{Isa}
use Rattle.asm_lex.specs.declared.shape.Isa.TheVariants.{Cdp1802, Chip8}
use Rattle.asm_lex.specs.Ranges.{origin_of}
use Rattle.asm_core.specs.Made.{Made, made_byte}

-- the lowest and the highest of the addresses before an end that have a byte
pub record Spans (made : Made) (end low high : ℕ) : Type 0 where
  pub order : low ≤ high
  pub within : high < end
  pub first : is_some (made_byte made low) ≡ true
  pub last : is_some (made_byte made high) ≡ true
  pub before : (address : ℕ) → address < low → made_byte made address ≡ None
  pub behind : (address : ℕ) → high < address → address < end → made_byte made address ≡ None

-- these two, or none where no address has a byte
abbrev pub IsSpan : Made → ℕ → Option (ℕ × ℕ) → Type 0
IsSpan made end None = (address : ℕ) → address < end → made_byte made address ≡ None
IsSpan made end (Some span) = Spans made end span.0 span.1

-- so many bytes from an address on
unfoldable pub bytes_from : Made → ℕ → ℕ → List ℕ
bytes_from made low count = map (λ address. unwrap_or (made_byte made address) 0x00) (range_with_len low count)

-- A file of the CDP1802 begins with the lowest address that has a byte, a game with its first address.
abbrev pub first_shown : Isa → ℕ → ℕ
first_shown Cdp1802 low = low
first_shown Chip8 low = origin_of Chip8

-- the bytes up to the highest address, or none
abbrev pub span_bytes : Isa → Made → Option (ℕ × ℕ) → List ℕ
span_bytes isa made None = []
span_bytes isa made (Some span) = bytes_from made (first_shown isa span.0) (span.1 + 1 - first_shown isa span.0)

-- these are the bytes of the assembly
pub record IsRaw (isa : Isa) (made : Made) (bytes : List ℕ) : Type 0 where
  pub span : Option (ℕ × ℕ)
  pub is_span : IsSpan made 65536 span
  pub are : bytes ≡ span_bytes isa made span
