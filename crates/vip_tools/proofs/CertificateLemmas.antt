-- The bytes of a memory are those of what was assembled.
use Rattle.std.proofs.Common.{◌≡◌, ℕ, ◌+◌, ◌<◌, ◌≤◌, List, length, get_or, slice_index, subst, ap, ◌∙◌, arith}
use Rattle.std.specs.Prelude.{option_map, unwrap_or}
use Rattle.std.proofs.lemmas.List.FromFn.{fill_by_all, get_or-map-range_with_len, length-map-range_with_len}
use Rattle.machine.specs.Ranges.{FitsRom}
use Rattle.asm_lex.specs.declared.shape.Isa.TheVariants.{Cdp1802}
use Rattle.asm_core.specs.Made.{Made, IsAssembly, made_byte}
use Rattle.asm_core.specs.Sources.{source_lines}
use Rattle.chip8_source.specs.Compared.{Bytes}
use Rattle.vip_tools.specs.Certificates.{Assembled, bytes_at, source_byte}
use Rattle.vip_tools.specs.Files.{rom_size}

-- the byte of a memory at this offset
abbrev pub byte_by : Bytes → ℕ → ℕ → ℕ
byte_by bytes start offset = unwrap_or (bytes (start + offset)) 0x00

module _ (bytes : Bytes) (start size : ℕ) where
  pub length-bytes : length (bytes_at bytes start size) ≡ size
  unfolding bytes_at
  length-bytes = length-map-range_with_len (byte_by bytes start) 0 size

  byte-at : (k : ℕ) → k < size → get_or (bytes_at bytes start size) k 0 ≡ byte_by bytes start k
  unfolding bytes_at
  byte-at k low = get_or-map-range_with_len (byte_by bytes start) 0 size k k 0 low (omega arith)

  -- as many bytes of which each is that of the memory are those of the memory
  pub whole : (memory : List ℕ) → length memory ≡ size → ((k : ℕ) → k < size → get_or memory k 0 ≡ byte_by bytes start k) → memory ≡ bytes_at bytes start size
  unfolding bytes_at
  whole memory count is = fill_by_all (byte_by bytes start) memory size 0 count is

-- those of what was assembled are those of its source
pub same_bytes : (source : List ℕ) (made : Made) (start size : ℕ) → start + size ≤ 65536 → IsAssembly Cdp1802 (source_lines source) made
    → bytes_at (made_byte made) start size ≡ bytes_at (source_byte source) start size
same_bytes source made start size within is =
    whole (source_byte source) start size (bytes_at (made_byte made) start size) (length-bytes (made_byte made) start size)
    (λ k low. byte-at (made_byte made) start size k low
    ∙ ap (λ cell. unwrap_or (option_map (λ cell. cell.byte) cell) 0x00) (is.cells (start + k) (omega (arith, low, within))))

-- a source is assembled, and its ROM is one of bytes
abbrev pub assembled : (source : List ℕ) (made : Made) → IsAssembly Cdp1802 (source_lines source) made → (rom : List ℕ)
    → rom ≡ bytes_at (made_byte made) 0x8000 rom_size → ((i : ℕ) → slice_index rom i < 256) → Assembled source
assembled source made is rom laid bytes = record {
  made = made;
  is = is;
  fits = subst FitsRom (laid ∙ same_bytes source made 0x8000 rom_size (omega arith) is)
      (record { size = rw laid (length-bytes (made_byte made) 0x8000 rom_size); bytes = bytes });
}
