-- At which addresses the instructions of blocks begin, and that those of a part of the ROM all do in some block.
use Rattle.std.specs.Prelude.{◌≡◌, ℕ, zero, suc, ◌+◌, ◌-◌, ◌<◌, not, if◌then◌else◌, nat_eq, nat_le, List, [], ◌∷◌, ◌++◌, length, slice_index, true}
use Rattle.std.specs.List.{filter, list_any}
use Rattle.machine.specs.Instruction.{at}
use Rattle.machine.specs.Board.{Machine}
use Rattle.machine.specs.Opcodes.{kind_of}
use Rattle.vip_isa.specs.Rows.{size_of}
use Rattle.chip8_image.specs.declared.image.TheConstants.{IMAGE}
use Rattle.chip8_image.specs.declared.map.Area.{Area}
use Rattle.chip8_image.specs.declared.parts.Part.{Part}
use Rattle.chip8_image.specs.declared.image.labels.TheConstants.{AT_BOOT, AT_HALT, AT_RESUME}
use Rattle.chip8_image.specs.Parts.{areas_of, is_part}
use Rattle.rom_law.specs.Program.{Program}
use Rattle.rom_law.specs.Rows.{Since, InBlock}
use Rattle.rom_rows.specs.Blocks.{addresses}
use Rattle.rom_rows.specs.Table.{Block, Place, data_of, place_data_of, part_of_block, part_of_place, pieces}

-- in the rows of a block the program counter is in turn at its addresses
abbrev pub RunsAt : Program → Block → Type 0
RunsAt x l =
    (b : Machine) (h : Since)
    → (r : InBlock x (pieces x) l b h)
    → at b.regs b.regs.p ≡ slice_index (addresses (data_of l)) r.k

-- The addresses of a straight piece of code at which an instruction begins: the first one, and each that lies past the instruction
-- before. The editions have the same instructions at the same addresses.
abbrev pub begins_from : ℕ → ℕ → ℕ → List ℕ
begins_from zero a last = []
begins_from (suc n) a last = if nat_le a last then a ∷ begins_from n (a + size_of (kind_of (slice_index IMAGE (a - 0x8000)))) last else []

abbrev pub begins : List Area → List ℕ
begins [] = []
begins (a ∷ areas) = begins_from (a.last + 1 - a.first) a.first a.last ++ begins areas

-- The code that has no blocks, by its first address: boot, the loop of a stopped interpreter, and the interrupt routine. Laws of their own
-- say what it does.
abbrev pub without_blocks : List ℕ
without_blocks = AT_BOOT ∷ AT_HALT ∷ AT_RESUME ∷ []

-- the areas of a part whose code has blocks
abbrev pub areas_with_blocks : Part → List Area
areas_with_blocks p = filter (λ a. not (list_any (nat_eq a.first) without_blocks)) (areas_of p)

-- a block or a place, its part, and where its instructions begin
pub data Piece : Type 0 where
  OfBlock : (l : Block) → Piece
  OfPlace : (l : Place) → Piece

abbrev pub part_of_piece : Piece → Part
part_of_piece (OfBlock l) = part_of_block l
part_of_piece (OfPlace l) = part_of_place l

abbrev pub addresses_of : Piece → List ℕ
addresses_of (OfBlock l) = addresses (data_of l)
addresses_of (OfPlace l) = (place_data_of l).address ∷ []

-- an address is that of some instruction of some block or place of the part
pub record IsIn (p : Part) (a : ℕ) : Type 0 where
  pub piece : Piece
  pub own : is_part p (part_of_piece piece) ≡ true
  pub k : ℕ
  pub inside : k < length (addresses_of piece)
  pub is : slice_index (addresses_of piece) k ≡ a

-- every instruction of the part's code that has blocks is
abbrev pub AllInBlocks : Part → Type 0
AllInBlocks p = (i : ℕ) → i < length (begins (areas_with_blocks p)) → IsIn p (slice_index (begins (areas_with_blocks p)) i)
