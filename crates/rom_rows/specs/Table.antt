-- The row table: the blocks and places of main code of all groups, and what a group's law says.
use Rattle.std.specs.Prelude.{◌≡◌, ℕ, ◌+◌, ◌*◌, false, Option, Some, None, length}
use Rattle.machine.specs.Board.{Machine}
use Rattle.machine.specs.Ranges.{FitsMachine}
use Rattle.chip8_image.specs.declared.parts.Part.{Part}
use Rattle.chip8_image.specs.declared.parts.Part.TheVariants.{Fetch, Arith, Memory, Sprite, Timer, Keys}
use Rattle.chip8_lang.specs.declared.view.Edition.{Edition}
use Rattle.machine.specs.Schedule.{Tick}
use Rattle.chip8_lang.specs.State.{instr_at}
use Rattle.rom_law.specs.Code.{Input, moved}
use Rattle.rom_law.specs.Moments.{is_waiting}
use Rattle.rom_law.specs.Program.{Program, code}
use Rattle.rom_law.specs.Rows.{Since, Pieces, InBlock, Row, Outcome, now, after_main, after_tick}
use Rattle.rom_rows.specs.Blocks.{BlockData, PlaceData, addresses}
use Rattle.rom_rows.specs.Heads.{Within, page_of}
use Rattle.rom_rows.specs.FetchBlocks.{FetchBlock, fetch_data}
use Rattle.rom_rows.specs.ArithBlocks.{ArithBlock, arith_data}
use Rattle.rom_rows.specs.MemoryBlocks.{MemoryBlock, memory_data}
use Rattle.rom_rows.specs.SpriteBlocks.{SpriteBlock, SpritePlace, IsWaited, IsEarly, sprite_data, sprite_place_data}
use Rattle.rom_rows.specs.TimerBlocks.{TimerBlock, TimerPlace, timer_data, timer_place_data}
use Rattle.rom_rows.specs.KeyBlocks.{KeyBlock, KeyPlace, key_data, key_place_data}

pub data Block : Type 0 where
  OfFetch : (l : FetchBlock) → Block
  OfArith : (l : ArithBlock) → Block
  OfMemory : (l : MemoryBlock) → Block
  OfSprite : (l : SpriteBlock) → Block
  OfTimer : (l : TimerBlock) → Block
  OfKey : (l : KeyBlock) → Block

pub data Place : Type 0 where
  AtTimer : (l : TimerPlace) → Place
  AtKey : (l : KeyPlace) → Place
  AtSprite : (l : SpritePlace) → Place

-- what the table says of each of them
abbrev pub data_of : Block → BlockData
data_of (OfFetch l) = fetch_data l
data_of (OfArith l) = arith_data l
data_of (OfMemory l) = memory_data l
data_of (OfSprite l) = sprite_data l
data_of (OfTimer l) = timer_data l
data_of (OfKey l) = key_data l

abbrev pub place_data_of : Place → PlaceData
place_data_of (AtTimer l) = timer_place_data l
place_data_of (AtKey l) = key_place_data l
place_data_of (AtSprite l) = sprite_place_data l

-- the part of the ROM in which each has its code
abbrev pub part_of_block : Block → Part
part_of_block (OfFetch l) = Fetch
part_of_block (OfArith l) = Arith
part_of_block (OfMemory l) = Memory
part_of_block (OfSprite l) = Sprite
part_of_block (OfTimer l) = Timer
part_of_block (OfKey l) = Keys

abbrev pub part_of_place : Place → Part
part_of_place (AtTimer l) = Timer
part_of_place (AtKey l) = Keys
part_of_place (AtSprite l) = Sprite

-- what is known at the first instruction of a block
abbrev pub Head : Program → Block → Machine → Since → Type 0
Head x l b h = (data_of l).at x b (now h) h.keys × Within ((data_of l).time x (now h)) h

-- the instructions of a block
abbrev pub moves : Block → ℕ
moves l = length (addresses (data_of l))

-- what is known at a place
abbrev pub At : Program → Place → Machine → Since → Type 0
At x l b h = (place_data_of l).at x b (now h) h.keys × Within ((place_data_of l).time x (now h)) h

abbrev pub pieces : Program → Pieces
pieces x = record { Block = Block; Head = Head x; moves = λ l h. moves l; top = None; Place = Place; At = At x; Makes = λ s. Unit {0} }

-- The blocks but those behind the waits of 00E0 and DXYN. Main code stays in them until it waits, and they write nothing of the screen, which
-- begins behind the page of V0 to VF. The steps of 00E0 and DXYN aren't made in them.
abbrev pub IsBefore : Block → Type 0
IsBefore (OfSprite l) = IsEarly l
IsBefore _ = Unit {0}

abbrev pub calm_top : Edition → Option ℕ
calm_top e = Some ((page_of e + 1) * 256)

abbrev pub calm_pieces : Program → Pieces
calm_pieces x =
    record {
      Block = Block;
      Head = λ l b h. Head x l b h × IsBefore l;
      moves = λ l h. moves l;
      top = calm_top x.edition;
      Place = Place;
      At = At x;
      Makes = λ s. is_waiting (instr_at s) ≡ false;
    }

-- The blocks behind the waits of 00E0 and DXYN as pieces of their own: main code stays in them up to the dispatch.
abbrev pub waited_pieces : Program → Pieces
waited_pieces x =
    record {
      Block = (l : SpriteBlock) × IsWaited l;
      Head = λ l. Head x (OfSprite l.0);
      moves = λ l h. moves (OfSprite l.0);
      top = None;
      Place = ⊥;
      At = λ l b h. ⊥;
      Makes = λ s. Unit {0};
    }

-- From each state in the row of a block a main move comes to a row without an event, to a dispatch or to a stop.
abbrev pub BlockRows : Program → Block → Type 0
BlockRows x l =
    (u : Input) (b : Machine) (h : Since)
    → InBlock x (pieces x) l b h
    → Outcome x (pieces x) (moved (code x) u b) (after_main u h)

-- the same from each state at a place
abbrev pub PlaceRows : Program → Place → Type 0
PlaceRows x l =
    (u : Input) (b : Machine) (h : Since)
    → FitsMachine b
    → At x l b h
    → Outcome x (pieces x) (moved (code x) u b) (after_main u h)

-- the same from each state at a place where main code runs
abbrev pub AwakeRows : Program → Place → Type 0
AwakeRows x l =
    (u : Input) (b : Machine) (h : Since)
    → FitsMachine b
    → b.regs.idle ≡ false
    → At x l b h
    → Outcome x (pieces x) (moved (code x) u b) (after_main u h)

-- From each state at a place, also where main code waits there, a tick comes to a row.
abbrev pub TickRows : Program → Place → Type 0
TickRows x l =
    (b c : Machine) (h : Since)
    → FitsMachine b
    → Tick (code x).low b c
    → At x l b h
    → Row x (pieces x) c (after_tick h)
