-- The comparison of a source's assembly with the bytes of a ROM.
use Rattle.std.specs.Prelude.{◌≡◌, ◌≢◌, ◌-◌, ◌<◌, ◌||◌, ◌⊎◌, ℕ, List, length, nat_le, slice_get, if◌then◌else◌, Option, None, is_some, true, Bool, option_map, unwrap_or, Result, Ok, Err}
use Rattle.asm_lex.specs.declared.shape.Isa.TheVariants.{Cdp1802}
use Rattle.asm_core.specs.Sources.{cell_before, source_lines, NoFault, HasFirstFault, fault_1, fault_2}
use Rattle.chip8_image.specs.declared.image.TheConstants.{IMAGE, TALL}
use Rattle.chip8_source.specs.Texts.{usual_text, tall_text}
use Rattle.chip8_source.specs.declared.fault.ImageFault.{ImageFault}
use Rattle.chip8_source.specs.declared.fault.ImageFault.TheVariants.{BadRomSource, RomDiffers, NoMemory}

-- a byte, or none, at each address
abbrev pub Bytes : Type 0
Bytes = ℕ → Option ℕ

-- the byte that some line of a source gives an address
abbrev pub source_bytes : List (List ℕ) → Bytes
source_bytes source address = option_map (λ cell. cell.byte) (cell_before Cdp1802 source (length source) address)

-- the byte of a ROM at an address; its 2,048 bytes stand from 8000 to 87FF
abbrev pub rom_bytes : List ℕ → Bytes
rom_bytes image address = if nat_le 0x8000 address then slice_get image (address - 0x8000) else None

-- neither pass finds a fault in a source
pub record Assembles (source : List (List ℕ)) : Type 0 where
  pub pass_1 : NoFault (fault_1 Cdp1802 source) (length source)
  pub pass_2 : NoFault (fault_2 Cdp1802 source) (length source)

-- an address without a byte counts as 00 in the source, and as FF in the ROM, since no memory reads as FF
abbrev pub counted_assembled : Bytes → ℕ → ℕ
counted_assembled given address = unwrap_or (given address) 0x00

abbrev pub counted_image : List ℕ → ℕ → ℕ
counted_image image address = unwrap_or (rom_bytes image address) 0xFF

-- compared are the addresses of the ROM, and those to which the source gives a byte
abbrev pub is_compared : Bytes → List ℕ → ℕ → Bool
is_compared given image address = is_some (rom_bytes image address) || is_some (given address)

pub record Differs (given : Bytes) (image : List ℕ) (address : ℕ) : Type 0 where
  pub compared : is_compared given image address ≡ true
  pub unequal : counted_assembled given address ≢ counted_image image address

-- no address below `end` differs
abbrev pub AgreesBelow : ℕ → Bytes → List ℕ → Type 0
AgreesBelow end given image = (address : ℕ) → address < end → Differs given image address → ⊥

-- the least address that differs, with both bytes
pub record IsLeastDifference (given : Bytes) (image : List ℕ) (address assembled here : ℕ) : Type 0 where
  pub differs : Differs given image address
  pub least : AgreesBelow address given image
  pub low : address < 65536
  pub assembled_is : assembled ≡ counted_assembled given address
  pub image_is : here ≡ counted_image image address

-- The answer of a comparison: the first fault of the assembly; else the least address that differs; else fine. Want of memory comes
-- in place of any of them.
abbrev pub Compares : List (List ℕ) → List ℕ → Result Unit ImageFault → Type 0
Compares source image (Err (BadRomSource line cause)) = HasFirstFault Cdp1802 source line cause
Compares source image (Err (RomDiffers address assembled here)) = Assembles source × IsLeastDifference (source_bytes source) image address assembled here
Compares source image (Ok _) = Assembles source × AgreesBelow 65536 (source_bytes source) image
Compares source image (Err NoMemory) = Unit {0}

-- Two answers to one comparison are the same, but for want of memory.
abbrev pub OneAnswer : Type 0
OneAnswer =
    (source : List (List ℕ)) (image : List ℕ) (a b : Result Unit ImageFault)
    → Compares source image a → Compares source image b → (a ≡ b) ⊎ (a ≡ Err NoMemory) ⊎ (b ≡ Err NoMemory)

-- The text of each edition assembles, and to its ROM.
abbrev pub SourceGivesRom : Type 0
SourceGivesRom = Compares (source_lines usual_text) IMAGE (Ok tt) × Compares (source_lines tall_text) TALL (Ok tt)
