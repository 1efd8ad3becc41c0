-- What is proved of a part of the ROM, over any ROM of each edition: of the rows of its blocks and places, and what it does beyond them.
use Rattle.std.specs.Prelude.{◌≡◌, ℕ, List}
use Rattle.machine.specs.Instruction.{at}
use Rattle.machine.specs.Board.{Machine}
use Rattle.chip8_lang.specs.declared.view.Edition.{Edition}
use Rattle.chip8_image.specs.declared.parts.Part.{Part}
use Rattle.chip8_image.specs.declared.parts.Part.TheVariants.{Fetch, Arith, Memory, Sprite, Timer, Keys, Other}
use Rattle.rom_law.specs.Program.{Program}
use Rattle.rom_law.specs.Rows.{Since}
use Rattle.rom_rows.specs.Rom.{Stretch, laid, image, program_of}
use Rattle.rom_rows.specs.FetchBlocks.{FetchBlock}
use Rattle.rom_rows.specs.ArithBlocks.{ArithBlock}
use Rattle.rom_rows.specs.MemoryBlocks.{MemoryBlock}
use Rattle.rom_rows.specs.SpriteBlocks.{SpriteBlock, SpritePlace}
use Rattle.rom_rows.specs.TimerBlocks.{TimerBlock, TimerPlace}
use Rattle.rom_rows.specs.KeyBlocks.{KeyBlock, KeyPlace}
use Rattle.rom_rows.specs.Table.{Block, Place, At, BlockRows, PlaceRows, AwakeRows, TickRows, place_data_of}
use Rattle.rom_rows.specs.Table.Block.{OfFetch, OfArith, OfMemory, OfSprite, OfTimer, OfKey}
use Rattle.rom_rows.specs.Table.Place.{AtTimer, AtKey, AtSprite}
use Rattle.rom_rows.specs.Addresses.{RunsAt}
use Rattle.rom_parts.specs.fetch.Laws.{FetchLaws}
use Rattle.rom_parts.specs.timer.Laws.{TimerLaws}
use Rattle.rom_parts.specs.keys.Laws.{KeyLaws}

-- the image of an edition with a part's bytes laid into it
abbrev pub rom_of : (Edition → List Stretch) → Edition → List ℕ
rom_of code e = laid (code e) (image e)

-- the blocks and the places of a part, in the row table
abbrev pub BlockOf : Part → Type 0
BlockOf Fetch = FetchBlock
BlockOf Arith = ArithBlock
BlockOf Memory = MemoryBlock
BlockOf Sprite = SpriteBlock
BlockOf Timer = TimerBlock
BlockOf Keys = KeyBlock
BlockOf Other = ⊥

abbrev pub block : (p : Part) → BlockOf p → Block
block Fetch l = OfFetch l
block Arith l = OfArith l
block Memory l = OfMemory l
block Sprite l = OfSprite l
block Timer l = OfTimer l
block Keys l = OfKey l
block Other l = absurd l

abbrev pub PlaceOf : Part → Type 0
PlaceOf Sprite = SpritePlace
PlaceOf Timer = TimerPlace
PlaceOf Keys = KeyPlace
PlaceOf _ = ⊥

abbrev pub place : (p : Part) → PlaceOf p → Place
place Fetch l = absurd l
place Arith l = absurd l
place Memory l = absurd l
place Sprite l = AtSprite l
place Timer l = AtTimer l
place Keys l = AtKey l
place Other l = absurd l

-- From each state at a place a main move comes to a row: at the waits of 00E0 and DXYN, where main code may wait, from each in which it runs.
abbrev pub MainRows : Program → Place → Type 0
MainRows x (AtSprite l) = AwakeRows x (AtSprite l)
MainRows x (AtTimer l) = PlaceRows x (AtTimer l)
MainRows x (AtKey l) = PlaceRows x (AtKey l)

-- what a part does beyond the rows
abbrev pub OwnLaws : Part → (Edition → List ℕ) → Type 0
OwnLaws Fetch rom = FetchLaws rom
OwnLaws Timer rom = TimerLaws rom
OwnLaws Keys rom = KeyLaws rom
OwnLaws _ rom = Unit {0}

pub record PartLaws (p : Part) (rom : Edition → List ℕ) : Type 0 where
  -- every main move keeps the rows of the blocks, and of the places, and a tick those of the places
  pub rows : (e : Edition) (l : BlockOf p) → BlockRows (program_of e (rom e)) (block p l)
  pub place_rows : (e : Edition) (l : PlaceOf p) → MainRows (program_of e (rom e)) (place p l)
  pub ticks : (e : Edition) (l : PlaceOf p) → TickRows (program_of e (rom e)) (place p l)
  -- in the rows of a block the program counter is at the block's addresses in turn, and at a place at its address
  pub addresses : (e : Edition) (l : BlockOf p) → RunsAt (program_of e (rom e)) (block p l)
  pub place_addresses :
      (e : Edition) (l : PlaceOf p) (b : Machine) (h : Since)
      → At (program_of e (rom e)) (place p l) b h
      → at b.regs b.regs.p ≡ (place_data_of (place p l)).address
  pub own : OwnLaws p rom
