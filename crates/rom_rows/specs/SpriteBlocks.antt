-- The blocks and places of 00E0 and DXYN.
use Rattle.std.specs.Prelude.{◌≡◌, ℕ, ◌+◌, ◌-◌, ◌*◌, ◌/◌, ◌%◌, ◌^◌, ◌<◌, ◌≤◌, true, false, not, ◌==◌, ◌&&◌, ◌||◌, nat_lt, List, [], ◌∷◌, slice_index}
use Rattle.machine.specs.Bank.{word, value, word_of}
use Rattle.machine.specs.Board.{Machine}
use Rattle.chip8_lang.specs.Editions.{screen_start, rows_of, sprite_work}
use Rattle.chip8_lang.specs.declared.view.Edition.{Edition}
use Rattle.chip8_lang.specs.Screen.{Pixels, difference, either, meets, dots}
use Rattle.chip8_lang.specs.State.{Lang, variable, is_fetchable}
use Rattle.chip8_lang.specs.Step.{next, is_readable, sprite_row}
use Rattle.chip8_lang.specs.Timed.{asked_cycles, edge_cycles, row_cycles}
use Rattle.chip8_image.specs.declared.image.labels.TheConstants.{AT_FETCH, AT_CLEAR, AT_CLEAR_WAIT, AT_WIPE, AT_WIPE3, AT_WIPE6, AT_WIPED, AT_CLEARED, AT_DRAW, AT_DRAW_CHECK, AT_DRAW_FOUND, AT_DRAW_OUTSIDE, AT_PLACE, AT_EDGE, AT_FITS, AT_ANGLE, AT_BEGIN, AT_ROW, AT_ROW_BYTE, AT_SHIFT7, AT_SHIFTED, AT_ROW_RIGHT, AT_ROW_STORE, AT_READY, AT_DRAW_WAIT, AT_LINE, AT_LINE_LEFT, AT_LINE_RIGHT, AT_DRAWN}
use Rattle.rom_law.specs.Program.{Program}
use Rattle.rom_law.specs.Holding.{places, Holding}
use Rattle.rom_rows.specs.Blocks.{BlockData, PlaceData, block, block_over, place}
use Rattle.rom_rows.specs.Heads.{from, high_byte, low_byte, page_of, Entered, Enters, Done}
use Rattle.rom_rows.specs.Heads.Time.{Exactly, Waited}
use Rattle.rom_rows.specs.Checks.{Answer, answer_time, Checked}
use Rattle.rom_rows.specs.Checks.Caller.{ForDraw}
use Rattle.rom_rows.specs.Checks.Answer.{Nowhere}
use Rattle.rom_rows.specs.Dots.{left, right, rows_drawn, dots_of_byte}

pub data SpriteBlock : Type 0 where
  -- 00E0 up to its wait
  Clear : SpriteBlock
  -- behind it: the rows from k + 1 on are empty, two bytes more are, five more are, and all eight of row k are
  Wipe : (k : ℕ) → SpriteBlock
  Wipe3 : (k : ℕ) → SpriteBlock
  Wipe6 : (k : ℕ) → SpriteBlock
  Wiped : (k : ℕ) → SpriteBlock
  -- the screen is empty
  Cleared : SpriteBlock
  -- DXYN up to the test of N, and up to the range check
  Draw : SpriteBlock
  DrawCheck : SpriteBlock
  -- behind the check: on to the place, or to the stop
  DrawFound : (answer : Answer) → SpriteBlock
  -- the rows above the bottom edge are counted, and taken where N is more; the place on the screen; the entry of the shifts; the pointers
  Place : SpriteBlock
  Edge : SpriteBlock
  Fits : SpriteBlock
  Angle : SpriteBlock
  Begin : SpriteBlock
  -- r rows are prepared: the test whether all are, and the byte of row r
  Row : (r : ℕ) → SpriteBlock
  RowByte : (r : ℕ) → SpriteBlock
  -- j shifts of it are left, and none is
  Shift : (r j : ℕ) → SpriteBlock
  Shifted : (r : ℕ) → SpriteBlock
  -- its second byte is taken, and stored
  RowRight : (r : ℕ) → SpriteBlock
  RowStore : (r : ℕ) → SpriteBlock
  -- all rows are prepared
  Ready : SpriteBlock
  -- behind the wait r rows are drawn: the test whether all are, row r's first byte, and its second one
  Line : (r : ℕ) → SpriteBlock
  LineLeft : (r : ℕ) → SpriteBlock
  LineRight : (r : ℕ) → SpriteBlock
  -- all rows are drawn
  Drawn : SpriteBlock

pub data SpritePlace : Type 0 where
  -- the waits of 00E0: at IDL, and idling behind it
  ClearWait : SpritePlace
  ClearIdle : SpritePlace
  -- those of DXYN: at IDL, and idling behind it
  DrawWait : SpritePlace
  DrawIdle : SpritePlace

-- ---- 00E0

abbrev pub Clears : Lang → Type 0
Clears s = (high_byte s ≡ 0) × (low_byte s ≡ 0xe0)

-- the pixels in the first m bytes of the screen
abbrev pub first_bytes : ℕ → Pixels → Pixels
first_bytes m pixels x y = nat_lt (8 * y + x / 8) m && pixels x y

-- pc has gone past the opcode, and the screen has its first m bytes left
abbrev pub cleared_to : ℕ → Lang → Lang
cleared_to m s = record (next s) { screen = first_bytes m s.screen }

-- In 00E0, at a: s is in its places but for pc and the screen, which is cleared down to its first m bytes. RD is at the last of them,
-- and X is RD.
pub record Clearing (x : Program) (a m : ℕ) (b : Machine) (s : Lang) : Type 0 where
  pub holds : Holding x (places b) (cleared_to m s)
  pub inside : is_fetchable x.edition s ≡ true
  pub clears : Clears s
  pub p : b.regs.p ≡ 3
  pub r3 : b.regs.r.r3 ≡ word_of a
  pub r4 : b.regs.r.r4 ≡ word_of AT_FETCH
  pub pointer : b.regs.x ≡ 13
  pub rd : value b.regs.r.rd + 1 ≡ screen_start x.edition + m

-- ---- DXYN

-- where the sprite starts, how many rows it has, and how many of them lie above the bottom edge
abbrev pub column : Lang → ℕ
column s = variable s (high_byte s % 16) % 64

abbrev pub top : Edition → Lang → ℕ
top e s = variable s (low_byte s / 16) % rows_of e

abbrev pub asked : Lang → ℕ
asked s = low_byte s % 16

abbrev pub height : Edition → Lang → ℕ
height e s = rows_drawn (rows_of e) (top e s) (asked s)

-- the byte of the screen at its first row's first dot
abbrev pub corner : Edition → Lang → ℕ
corner e s = screen_start e + 8 * top e s + column s / 8

-- the low byte of the shift at which column mod 8 of them are left
abbrev pub entry_of : Lang → ℕ
entry_of s = AT_SHIFT7 % 256 + 6 * (7 - column s % 8)

-- the dots of its first r rows
abbrev pub lit : Edition → ℕ → Lang → Pixels
lit e r s = dots (rows_of e) (sprite_row s) (column s) (top e s) r

-- those of them and of the first byte of row r
abbrev pub half_lit : Edition → ℕ → Lang → Pixels
half_lit e r s = either (lit e r s) (dots_of_byte (rows_of e) (8 * (top e s + r) + column s / 8) (left (column s) (sprite_row s r)))

-- s is at DXYN and doesn't stop
pub record Draws (x : Program) (s : Lang) : Type 0 where
  pub inside : is_fetchable x.edition s ≡ true
  pub digit : high_byte s / 16 ≡ 13
  pub readable : (asked s == 0 || is_readable x.edition s.i (asked s)) ≡ true

-- in DXYN, at a, before the rows are prepared: RE.0 is n
pub record Aiming (x : Program) (a n : ℕ) (b : Machine) (s : Lang) : Type 0 where
  pub draws : Draws x s
  pub holds : Holding x (places b) (next s)
  pub p : b.regs.p ≡ 3
  pub r3 : b.regs.r.r3 ≡ word_of a
  pub r4 : b.regs.r.r4 ≡ word_of AT_FETCH
  pub r6 : b.regs.r.r6 ≡ word (page_of x.edition) (0xf0 + high_byte s % 16)
  pub r7 : b.regs.r.r7 ≡ word (page_of x.edition) (0xf0 + low_byte s / 16)
  pub count : b.regs.r.re.lo ≡ n

-- RD is at the first byte of the sprite work, and X is RD
pub record Summing (x : Program) (b : Machine) : Type 0 where
  pub rd : b.regs.r.rd ≡ word (page_of x.edition) 0xd0
  pub pointer : b.regs.x ≡ 13

-- RE.1 counts the rows above the bottom edge, and RC.1 and RB.0 are the two bytes of the corner
pub record Aimed (x : Program) (b : Machine) (s : Lang) : Type 0 where
  pub rows : b.regs.r.re.hi ≡ height x.edition s
  pub place : b.regs.r.rc.hi * 256 + b.regs.r.rb.lo ≡ corner x.edition s

-- of the sprite's rows the first l have their first byte in the work, and the first r their second one
pub record Prepared (x : Program) (l r : ℕ) (b : Machine) (s : Lang) : Type 0 where
  pub lefts : (j : ℕ) → j < l → slice_index b.ram (sprite_work x.edition + 2 * j) ≡ left (column s) (sprite_row s j)
  pub rights : (j : ℕ) → j < r → slice_index b.ram (sprite_work x.edition + 2 * j + 1) ≡ right (column s) (sprite_row s j)

-- In DXYN, at a, while the rows are prepared: n bytes of the sprite were read.
pub record Preparing (x : Program) (a l r n : ℕ) (b : Machine) (s : Lang) : Type 0 where
  pub draws : Draws x s
  pub holds : Holding x (places b) (next s)
  pub prepared : Prepared x l r b s
  pub p : b.regs.p ≡ 3
  pub r3 : b.regs.r.r3 ≡ word_of a
  pub r4 : b.regs.r.r4 ≡ word_of AT_FETCH
  pub entry : b.regs.r.r6.lo ≡ entry_of s
  pub place : b.regs.r.r6.hi * 256 + b.regs.r.rb.lo ≡ corner x.edition s
  pub rows : b.regs.r.re.hi ≡ height x.edition s
  pub count : b.regs.r.re.lo ≡ height x.edition s - n
  pub r7 : b.regs.r.r7 ≡ word (page_of x.edition) (0xd0 + l + r)
  pub rd : value b.regs.r.rd ≡ s.i + n

-- row r's byte, shifted with j shifts left
abbrev pub Shifting : ℕ → ℕ → Machine → Lang → Type 0
Shifting r j b s = value b.regs.r.rc ≡ sprite_row s r * 256 / 2 ^ (column s % 8 - j)

-- pc has gone past the opcode, and these dots are drawn
abbrev pub painted : Pixels → Lang → Lang
painted drawn s = record (next s) { screen = difference s.screen drawn }

-- In DXYN, at a, when all rows are prepared: w bytes of them are drawn, RD is m bytes past the corner, and RE.0 is n. RC.0 counts the bytes
-- in which a dot was put out.
pub record Painting (x : Program) (a w m n : ℕ) (drawn : Pixels) (b : Machine) (s : Lang) : Type 0 where
  pub draws : Draws x s
  pub holds : Holding x (places b) (painted drawn s)
  pub prepared : Prepared x (height x.edition s) (height x.edition s) b s
  pub p : b.regs.p ≡ 3
  pub r3 : b.regs.r.r3 ≡ word_of a
  pub r4 : b.regs.r.r4 ≡ word_of AT_FETCH
  pub pointer : b.regs.x ≡ 13
  pub r7 : b.regs.r.r7 ≡ word (page_of x.edition) (0xd0 + w)
  pub rd : value b.regs.r.rd ≡ corner x.edition s + m
  pub count : b.regs.r.re.lo ≡ n
  pub few : b.regs.r.rc.lo ≤ w
  pub hit : not (b.regs.r.rc.lo == 0) ≡ meets (rows_of x.edition) s.screen drawn

-- ---- waits

-- the machine when its idling ends
abbrev pub woken : Machine → Machine
woken b = record b { regs = record b.regs { idle = false } }

-- ---- the main cycles

-- DXYN: the main cycles up to the rows, but for those that it always takes; those of r rows; and those up to the wait
abbrev pub aim_time : Edition → Lang → ℕ
aim_time e s = asked_cycles e s (asked s)

abbrev pub edge_time : Edition → Lang → ℕ
edge_time e s = edge_cycles e (top e s) (asked s)

abbrev pub rows_time : Lang → ℕ → ℕ
rows_time s r = r * row_cycles (column s)

abbrev pub draw_time : Edition → Lang → ℕ
draw_time e s = 222 + aim_time e s + edge_time e s + rows_time s (height e s)

-- the blocks behind the wait
abbrev pub IsWaited : SpriteBlock → Type 0
IsWaited (Wipe k) = Unit {0}
IsWaited (Wipe3 k) = Unit {0}
IsWaited (Wipe6 k) = Unit {0}
IsWaited (Wiped k) = Unit {0}
IsWaited Cleared = Unit {0}
IsWaited (Line r) = Unit {0}
IsWaited (LineLeft r) = Unit {0}
IsWaited (LineRight r) = Unit {0}
IsWaited Drawn = Unit {0}
IsWaited _ = ⊥

-- the other ones, of 00E0 and DXYN before they wait
abbrev pub IsEarly : SpriteBlock → Type 0
IsEarly (Wipe k) = ⊥
IsEarly (Wipe3 k) = ⊥
IsEarly (Wipe6 k) = ⊥
IsEarly (Wiped k) = ⊥
IsEarly Cleared = ⊥
IsEarly (Line r) = ⊥
IsEarly (LineLeft r) = ⊥
IsEarly (LineRight r) = ⊥
IsEarly Drawn = ⊥
IsEarly _ = Unit {0}

-- ---- the tables

-- what DXYN has behind its first instruction after the check, by the answer
abbrev pub draw_found : Answer → List ℕ
draw_found Nowhere = (AT_DRAW_FOUND + 2) ∷ from AT_DRAW_OUTSIDE (0 ∷ 2 ∷ [])
draw_found answer = from AT_DRAW_FOUND (2 ∷ [])

-- behind the wait of 00E0 a row is cleared in 24 main cycles; DXYN draws one in 58
abbrev pub sprite_data : SpriteBlock → BlockData
sprite_data Clear = block (λ x b s sets. Entered x AT_CLEAR b s × Clears s) (λ x s. Exactly 90) AT_CLEAR (2 ∷ 3 ∷ 5 ∷ 6 ∷ [])
sprite_data (Wipe k) =
    block (λ x b s sets. Clearing x AT_WIPE (8 * k + 8) b s × (k < rows_of x.edition)) (λ x s. Waited (102 + 24 * (rows_of x.edition - 1 - k)))
    AT_WIPE (2 ∷ 3 ∷ [])
sprite_data (Wipe3 k) =
    block (λ x b s sets. Clearing x AT_WIPE3 (8 * k + 6) b s × (k < rows_of x.edition) × (b.regs.d ≡ 0))
    (λ x s. Waited (108 + 24 * (rows_of x.edition - 1 - k))) AT_WIPE3 (1 ∷ 2 ∷ [])
sprite_data (Wipe6 k) =
    block (λ x b s sets. Clearing x AT_WIPE6 (8 * k + 3) b s × (k < rows_of x.edition) × (b.regs.d ≡ 0))
    (λ x s. Waited (114 + 24 * (rows_of x.edition - 1 - k))) AT_WIPE6 (1 ∷ 2 ∷ [])
sprite_data (Wiped k) =
    block (λ x b s sets. Clearing x AT_WIPED (8 * k) b s × (k < rows_of x.edition)) (λ x s. Waited (120 + 24 * (rows_of x.edition - 1 - k)))
    AT_WIPED (1 ∷ 3 ∷ [])
sprite_data Cleared = block (λ x b s sets. Done x AT_CLEARED b s × Clears s) (λ x s. Waited (102 + 24 * rows_of x.edition)) AT_CLEARED []
sprite_data Draw = block (λ x b s sets. Enters x AT_DRAW 13 b s) (λ x s. Exactly 80) AT_DRAW (1 ∷ 3 ∷ 4 ∷ [])
sprite_data DrawCheck =
    block (λ x b s sets. Enters x AT_DRAW_CHECK 13 b s × (b.regs.r.re.lo ≡ asked s) × (0 < asked s)) (λ x s. Exactly 88) AT_DRAW_CHECK (2 ∷ 3 ∷ 5 ∷ 6 ∷ [])
sprite_data (DrawFound answer) =
    block_over (λ x b s sets. Checked x ForDraw answer b s) (λ x s. Exactly (102 + answer_time answer s.i)) AT_DRAW_FOUND (draw_found answer)
sprite_data Place =
    block (λ x b s sets. Aiming x AT_PLACE (asked s) b s) (λ x s. Exactly (88 + aim_time x.edition s))
    AT_PLACE (2 ∷ 3 ∷ 5 ∷ 6 ∷ 7 ∷ 8 ∷ 10 ∷ 12 ∷ 13 ∷ 14 ∷ 15 ∷ [])
sprite_data Edge =
    block (λ x b s sets. Aiming x AT_EDGE (asked s) b s × Summing x b × (rows_of x.edition ≤ top x.edition s + asked s))
    (λ x s. Exactly (112 + aim_time x.edition s)) AT_EDGE (1 ∷ 3 ∷ 5 ∷ [])
sprite_data Fits =
    block (λ x b s sets. Aiming x AT_FITS (height x.edition s) b s × Summing x b) (λ x s. Exactly (112 + aim_time x.edition s + edge_time x.edition s))
    AT_FITS (1 ∷ 2 ∷ 3 ∷ 5 ∷ 6 ∷ 7 ∷ 8 ∷ 9 ∷ 11 ∷ 13 ∷ 14 ∷ 15 ∷ 17 ∷ 18 ∷ 19 ∷ 20 ∷ 21 ∷ 22 ∷ 23 ∷ [])
sprite_data Angle =
    block (λ x b s sets. Aiming x AT_ANGLE (height x.edition s) b s × Summing x b × Aimed x b s)
    (λ x s. Exactly (152 + aim_time x.edition s + edge_time x.edition s)) AT_ANGLE (1 ∷ 3 ∷ 5 ∷ 6 ∷ 7 ∷ 8 ∷ 9 ∷ 11 ∷ [])
sprite_data Begin =
    block (λ x b s sets. Aiming x AT_BEGIN (height x.edition s) b s × Aimed x b s × (b.regs.r.rc.lo ≡ entry_of s))
    (λ x s. Exactly (170 + aim_time x.edition s + edge_time x.edition s)) AT_BEGIN (1 ∷ 2 ∷ 3 ∷ 4 ∷ 6 ∷ 7 ∷ 9 ∷ 10 ∷ 11 ∷ 12 ∷ 13 ∷ [])
sprite_data (Row r) =
    block (λ x b s sets. Preparing x AT_ROW r r r b s × (r ≤ height x.edition s))
    (λ x s. Exactly (194 + aim_time x.edition s + edge_time x.edition s + rows_time s r)) AT_ROW (1 ∷ [])
sprite_data (RowByte r) =
    block (λ x b s sets. Preparing x AT_ROW_BYTE r r r b s × (r < height x.edition s))
    (λ x s. Exactly (198 + aim_time x.edition s + edge_time x.edition s + rows_time s r)) AT_ROW_BYTE (1 ∷ 2 ∷ 3 ∷ 5 ∷ 6 ∷ 7 ∷ [])
sprite_data (Shift r j) =
    block (λ x b s sets. Preparing x (AT_SHIFT7 + 6 * (7 - j)) r r (r + 1) b s × (r < height x.edition s) × Shifting r j b s × (0 < j) × (j ≤ column s % 8))
    (λ x s. Exactly (212 + aim_time x.edition s + edge_time x.edition s + rows_time s r + 12 * (column s % 8 - j)))
    (AT_SHIFT7 + 6 * (7 - j)) (1 ∷ 2 ∷ 3 ∷ 4 ∷ 5 ∷ [])
sprite_data (Shifted r) =
    block (λ x b s sets. Preparing x AT_SHIFTED r r (r + 1) b s × (r < height x.edition s) × Shifting r 0 b s)
    (λ x s. Exactly (212 + aim_time x.edition s + edge_time x.edition s + rows_time s r + 12 * (column s % 8))) AT_SHIFTED (1 ∷ 2 ∷ 3 ∷ 4 ∷ 6 ∷ 8 ∷ [])
sprite_data (RowRight r) =
    block (λ x b s sets. Preparing x AT_ROW_RIGHT (r + 1) r (r + 1) b s × (r < height x.edition s) × (b.regs.r.rc.lo ≡ right (column s) (sprite_row s r)) × (column s / 8 ≡ 7 → ⊥))
    (λ x s. Exactly (226 + aim_time x.edition s + edge_time x.edition s + rows_time s r + 12 * (column s % 8))) AT_ROW_RIGHT []
sprite_data (RowStore r) =
    block (λ x b s sets. Preparing x AT_ROW_STORE (r + 1) r (r + 1) b s × (r < height x.edition s) × (b.regs.d ≡ right (column s) (sprite_row s r)))
    (λ x s. Exactly (188 + aim_time x.edition s + edge_time x.edition s + rows_time s r + row_cycles (column s))) AT_ROW_STORE (1 ∷ 2 ∷ [])
sprite_data Ready =
    block (λ x b s sets. let h = height x.edition s in Preparing x AT_READY h h h b s)
    (λ x s. Exactly (198 + aim_time x.edition s + edge_time x.edition s + rows_time s (height x.edition s)))
    AT_READY (1 ∷ 2 ∷ 3 ∷ 4 ∷ 5 ∷ 6 ∷ 8 ∷ 9 ∷ 11 ∷ 12 ∷ [])
sprite_data (Line r) =
    block (λ x b s sets. Painting x AT_LINE (2 * r) (8 * r) (height x.edition s - r) (lit x.edition r s) b s × (r ≤ height x.edition s))
    (λ x s. Waited (draw_time x.edition s + 58 * r)) AT_LINE (1 ∷ [])
sprite_data (LineLeft r) =
    block (λ x b s sets. Painting x AT_LINE_LEFT (2 * r) (8 * r) (height x.edition s - r) (lit x.edition r s) b s × (r < height x.edition s))
    (λ x s. Waited (draw_time x.edition s + 58 * r + 4)) AT_LINE_LEFT (1 ∷ 2 ∷ 3 ∷ 5 ∷ 6 ∷ 8 ∷ 9 ∷ 10 ∷ 11 ∷ 12 ∷ [])
sprite_data (LineRight r) =
    block (λ x b s sets. Painting x AT_LINE_RIGHT (2 * r + 1) (8 * r + 1) (height x.edition s - (r + 1)) (half_lit x.edition r s) b s × (r < height x.edition s))
    (λ x s. Waited (draw_time x.edition s + 58 * r + 26)) AT_LINE_RIGHT (1 ∷ 2 ∷ 4 ∷ 5 ∷ 7 ∷ 8 ∷ 9 ∷ 10 ∷ 11 ∷ 12 ∷ 14 ∷ 15 ∷ 16 ∷ 18 ∷ 19 ∷ [])
sprite_data Drawn =
    block (λ x b s sets. let h = height x.edition s in Painting x AT_DRAWN (2 * h) (8 * h) 0 (lit x.edition h s) b s)
    (λ x s. Waited (draw_time x.edition s + 58 * height x.edition s + 4)) AT_DRAWN (2 ∷ 3 ∷ 5 ∷ 6 ∷ 7 ∷ 9 ∷ 11 ∷ 12 ∷ 13 ∷ [])

abbrev pub sprite_place_data : SpritePlace → PlaceData
sprite_place_data ClearWait = place (λ x b s sets. Clearing x AT_CLEAR_WAIT (8 * rows_of x.edition) b s) (λ x s. Exactly 100) AT_CLEAR_WAIT
sprite_place_data ClearIdle = place (λ x b s sets. Clearing x AT_WIPE (8 * rows_of x.edition) (woken b) s × (b.regs.idle ≡ true)) (λ x s. Exactly 102) AT_WIPE
sprite_place_data DrawWait =
    place (λ x b s sets. Painting x AT_DRAW_WAIT 0 0 (height x.edition s) (lit x.edition 0 s) b s) (λ x s. Exactly (draw_time x.edition s - 2)) AT_DRAW_WAIT
sprite_place_data DrawIdle =
    place (λ x b s sets. Painting x AT_LINE 0 0 (height x.edition s) (lit x.edition 0 s) (woken b) s × (b.regs.idle ≡ true))
    (λ x s. Exactly (draw_time x.edition s))
    AT_LINE
