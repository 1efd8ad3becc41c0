-- The blocks and places of EX9E, EXA1 and FX0A. K is the sets of keys that were down at the main moves since the dispatch point.
use Rattle.std.specs.Prelude.{◌≡◌, ℕ, suc, ◌+◌, ◌*◌, ◌/◌, ◌%◌, ◌<◌, Bool, true, false, not, List, [], ◌∷◌, length}
use Rattle.machine.specs.Bank.{word, word_of}
use Rattle.machine.specs.Board.{Machine}
use Rattle.machine.specs.Keys.{Keys}
use Rattle.chip8_lang.specs.Between.{IsAt, SomeTime}
use Rattle.chip8_lang.specs.State.{Lang, variable, is_fetchable}
use Rattle.chip8_lang.specs.Step.{next}
use Rattle.chip8_image.specs.declared.image.labels.TheConstants.{AT_FETCH, AT_KEY_SKIP, AT_KEY_SKIP_UP, AT_SKIP_UP, AT_SKIP_UP_TEST, AT_SKIP_UP_NO, AT_SKIP_DOWN, AT_SKIP_DOWN_TEST, AT_SKIP_DOWN_NO, AT_KEY_YES, AT_WAIT_KEY, AT_KEY_NEXT, AT_KEY_TEST, AT_KEY_COUNT, AT_KEY_HELD, AT_KEY_FREED}
use Rattle.rom_law.specs.Program.{Program}
use Rattle.rom_law.specs.Holding.{places, Holding}
use Rattle.rom_rows.specs.Blocks.{BlockData, PlaceData, block, place}
use Rattle.rom_rows.specs.Heads.{high_byte, low_byte, page_of, Enters}
use Rattle.rom_rows.specs.Heads.Time.{Exactly, Seen, Searching, Looking, Freed}

-- Of the two skips, the one with `down` skips where its key is down, and the other where it is up.
pub data KeyBlock : Type 0 where
  -- which of the two: the test for EX9E, and that for EXA1
  KeySkip : KeyBlock
  KeySkipUp : KeyBlock
  -- a skip up to its test, behind it where it was not taken, and where it was
  SkipLatch : (down : Bool) → KeyBlock
  NoSkip : (down : Bool) → KeyBlock
  Skip : (down : Bool) → KeyBlock
  -- FX0A up to its loop
  WaitKey : KeyBlock
  -- a turn of the loop up to its test, and behind the test where that key is up
  KeyNext : (turn : ℕ) → KeyBlock
  KeyCount : (turn : ℕ) → KeyBlock
  -- the key of a turn was let go, at its look of this number
  KeyFreed : (turn looks : ℕ) → KeyBlock

-- the tests of the latched key
pub data KeyPlace : Type 0 where
  -- that of a skip
  SkipTest : (down : Bool) → KeyPlace
  -- that of a turn, and the look of this number at the key of a turn that is down
  KeyTest : (turn : ℕ) → KeyPlace
  KeyHeld : (turn looks : ℕ) → KeyPlace

-- ---- K

-- in the last set of K, key k is up or down as `down` says
pub record Last (sets : List Keys) (k : ℕ) (down : Bool) : Type 0 where
  pub time : ℕ
  pub last : suc time ≡ length sets
  pub at : IsAt sets time k down

-- key k is down in the set before the last one of K, and up in the last one
pub record JustUp (sets : List Keys) (k : ℕ) : Type 0 where
  pub time : ℕ
  pub last : 2 + time ≡ length sets
  pub down : IsAt sets time k true
  pub up : IsAt sets (suc time) k false

-- Turn t of the loop tests key t mod 16. So many sets lie before the loop, then seven for each turn, and `more` for this one. In the fifth
-- set of each turn before, that turn's key is up.
pub record Turned (turn more : ℕ) (sets : List Keys) : Type 0 where
  pub before : ℕ
  pub count : length sets ≡ before + 7 * turn + more
  pub up : (i : ℕ) → i < turn → IsAt sets (before + 7 * i + 4) (i % 16) false

-- ---- heads

-- the low byte of a skip
abbrev pub skip_code : Bool → ℕ
skip_code true = 0x9e
skip_code false = 0xa1

-- its key
abbrev pub skip_key : Lang → ℕ
skip_key s = variable s (high_byte s % 16) % 16

-- in a skip, at a: s is in its places but for pc, which has gone past the opcode
pub record Skipping (x : Program) (down : Bool) (a : ℕ) (b : Machine) (s : Lang) : Type 0 where
  pub holds : Holding x (places b) (next s)
  pub inside : is_fetchable x.edition s ≡ true
  pub p : b.regs.p ≡ 3
  pub r3 : b.regs.r.r3 ≡ word_of a
  pub r4 : b.regs.r.r4 ≡ word_of AT_FETCH
  pub digit : high_byte s / 16 ≡ 14
  pub low : low_byte s ≡ skip_code down

-- in FX0A
pub record Waiting (x : Program) (a : ℕ) (b : Machine) (s : Lang) : Type 0 where
  pub enters : Enters x a 15 b s
  pub low : low_byte s ≡ 0x0a

-- in a turn of its loop: RE.0 counts the turns, and R(X), which is RD, points to the work area
pub record Turning (x : Program) (turn a : ℕ) (b : Machine) (s : Lang) : Type 0 where
  pub waiting : Waiting x a b s
  pub count : b.regs.r.re.lo ≡ turn % 256
  pub pointer : b.regs.x ≡ 13
  pub rd : b.regs.r.rd ≡ word (page_of x.edition) 0xd0

-- the labels of the skips
abbrev pub skip_label : Bool → ℕ
skip_label true = AT_SKIP_DOWN
skip_label false = AT_SKIP_UP

abbrev pub skip_test_label : Bool → ℕ
skip_test_label true = AT_SKIP_DOWN_TEST
skip_test_label false = AT_SKIP_UP_TEST

abbrev pub no_skip_label : Bool → ℕ
no_skip_label true = AT_SKIP_DOWN_NO
no_skip_label false = AT_SKIP_UP_NO

-- the main cycles before a skip
abbrev pub skip_time : Bool → ℕ
skip_time true = 88
skip_time false = 94

abbrev pub key_data : KeyBlock → BlockData
key_data KeySkip = block (λ x b s sets. Enters x AT_KEY_SKIP 14 b s) (λ x s. Exactly 80) AT_KEY_SKIP (1 ∷ 2 ∷ 4 ∷ [])
key_data KeySkipUp =
    block (λ x b s sets. Enters x AT_KEY_SKIP_UP 14 b s × (b.regs.x ≡ 6) × (low_byte s ≡ skip_code true → ⊥)) (λ x s. Exactly 88) AT_KEY_SKIP_UP (1 ∷ 3 ∷ [])
key_data (SkipLatch down) =
    block (λ x b s sets. Enters x (skip_label down) 14 b s × (b.regs.x ≡ 6) × (low_byte s ≡ skip_code down)) (λ x s. Exactly (skip_time down))
    (skip_label down) []
key_data (NoSkip down) =
    block (λ x b s sets. Skipping x down (no_skip_label down) b s × SomeTime sets (skip_key s) (not down))
    (λ x s. Seen (skip_time down + 4) (skip_time down + 2) (skip_key s) (not down)) (no_skip_label down) []
key_data (Skip down) =
    block (λ x b s sets. Skipping x down AT_KEY_YES b s × SomeTime sets (skip_key s) down)
    (λ x s. Seen (skip_time down + 4) (skip_time down + 2) (skip_key s) down) AT_KEY_YES (1 ∷ 2 ∷ [])
key_data WaitKey = block (λ x b s sets. Enters x AT_WAIT_KEY 15 b s × (low_byte s ≡ 0x0a)) (λ x s. Exactly 92) AT_WAIT_KEY (2 ∷ 3 ∷ 5 ∷ 6 ∷ 7 ∷ 9 ∷ [])
key_data (KeyNext turn) =
    block (λ x b s sets. Turning x turn AT_KEY_NEXT b s × Turned turn 0 sets) (λ x s. Searching (106 + 14 * turn) turn) AT_KEY_NEXT (1 ∷ 2 ∷ 3 ∷ [])
key_data (KeyCount turn) =
    block (λ x b s sets. Turning x turn AT_KEY_COUNT b s × Turned turn 5 sets × Last sets (turn % 16) false) (λ x s. Searching (116 + 14 * turn) (suc turn))
    AT_KEY_COUNT (1 ∷ [])
key_data (KeyFreed turn looks) =
    block (λ x b s sets. Waiting x AT_KEY_FREED b s × JustUp sets (b.regs.r.re.lo % 16) × (b.regs.r.re.lo % 16 ≡ turn % 16)) (λ x s. Freed turn looks)
    AT_KEY_FREED (1 ∷ 3 ∷ 4 ∷ [])

abbrev pub key_place_data : KeyPlace → PlaceData
key_place_data (SkipTest down) =
    place (λ x b s sets. Skipping x down (skip_test_label down) b s × (b.key ≡ skip_key s)) (λ x s. Exactly (skip_time down + 2)) (skip_test_label down)
key_place_data (KeyTest turn) =
    place (λ x b s sets. Turning x turn AT_KEY_TEST b s × (b.key ≡ turn % 16) × Turned turn 4 sets) (λ x s. Searching (114 + 14 * turn) turn) AT_KEY_TEST
key_place_data (KeyHeld turn looks) =
    place (λ x b s sets. Waiting x AT_KEY_HELD b s × (b.key ≡ b.regs.r.re.lo % 16) × Last sets (b.regs.r.re.lo % 16) true × (b.regs.r.re.lo % 16 ≡ turn % 16))
    (λ x s. Looking turn looks)
    AT_KEY_HELD
