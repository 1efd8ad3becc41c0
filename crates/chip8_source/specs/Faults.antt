-- The faults of a comparison: the assembler's, and the difference at an address.
use Rattle.std.specs.Prelude.{◌≡◌, ◌<◌, ℕ, List}
use Rattle.asm_core.specs.declared.fault.AsmFault.{AsmFault}
use Rattle.asm_core.specs.declared.fault.AsmFault.TheVariants as asm
use Rattle.chip8_source.specs.declared.fault.ImageFault.{ImageFault}
use Rattle.chip8_source.specs.declared.fault.ImageFault.TheVariants.{BadRomSource, RomDiffers, NoMemory}
use Rattle.chip8_source.specs.Compared.{Bytes, Differs, AgreesBelow, counted_assembled, counted_image}

abbrev pub fault_of : AsmFault → ImageFault
fault_of (asm.Fault line cause) = BadRomSource line cause
fault_of asm.NoMemory = NoMemory

abbrev pub IsSameFault : AsmFault → ImageFault → Type 0
IsSameFault fault same = same ≡ fault_of fault

-- the difference at an address
pub record IsDifferenceAt (given : Bytes) (image : List ℕ) (address : ℕ) (fault : ImageFault) : Type 0 where
  pub differs : Differs given image address
  pub is : fault ≡ RomDiffers address (counted_assembled given address) (counted_image image address)

-- the difference at the least address
pub record IsFirstDifference (given : Bytes) (image : List ℕ) (fault : ImageFault) : Type 0 where
  pub address : ℕ
  pub low : address < 65536
  pub here : IsDifferenceAt given image address fault
  pub earlier : AgreesBelow address given image
