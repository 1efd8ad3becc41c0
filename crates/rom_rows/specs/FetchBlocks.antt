-- The blocks of the fetch and the dispatch, of which FXKK an opcode is, and of the stops.
use Rattle.std.specs.Prelude.{◌≡◌, ℕ, ◌+◌, ◌*◌, ◌<◌, ◌≤◌, List, [], ◌∷◌, ◌++◌, true, false, slice_index}
use Rattle.chip8_lang.specs.State.{is_fetchable}
use Rattle.chip8_lang.specs.Step.{next}
use Rattle.chip8_image.specs.declared.image.labels.TheConstants.{AT_OUTSIDE, AT_DISPATCH, AT_FETCH, AT_UPPER, AT_INSIDE, AT_STOP, AT_STOPPED, AT_MISC, AT_MISC_0A, AT_MISC_15, AT_MISC_18, AT_MISC_1E, AT_MISC_29, AT_MISC_33, AT_MISC_55, AT_MISC_65, AT_UNKNOWN83, AT_LEAVE81}
use Rattle.rom_rows.specs.Blocks.{BlockData, block, block_over}
use Rattle.rom_rows.specs.Heads.{to_stop, from, low_byte, Fetching, Enters, Leaving, Stopping}
use Rattle.rom_rows.specs.Heads.Time.{Exactly, Left}

pub data FetchBlock : Type 0 where
  -- the fetch up to the test of the least pc, up to that of the greatest, and the rest up to the dispatch
  Fetch : FetchBlock
  Upper : FetchBlock
  Inside : FetchBlock
  -- pc is outside of game memory
  Outside : FetchBlock
  -- test i of FXKK, and what comes behind the last one
  Misc : (i : ℕ) → FetchBlock
  Unknown83 : FetchBlock
  -- the way of page 81 + i to the stops
  Leave : (i : ℕ) → FetchBlock
  -- the stops, where pc goes back to the opcode, and where it stands there
  Stop : FetchBlock
  Stopped : FetchBlock

-- the tests of FXKK: where each begins, and the low byte that it looks for
abbrev pub misc_labels : List ℕ
misc_labels = AT_MISC ∷ AT_MISC_0A ∷ AT_MISC_15 ∷ AT_MISC_18 ∷ AT_MISC_1E ∷ AT_MISC_29 ∷ AT_MISC_33 ∷ AT_MISC_55 ∷ AT_MISC_65 ∷ []

abbrev pub misc_codes : List ℕ
misc_codes = 0x07 ∷ 0x0a ∷ 0x15 ∷ 0x18 ∷ 0x1e ∷ 0x29 ∷ 0x33 ∷ 0x55 ∷ 0x65 ∷ []

-- the first i tests were not met
abbrev pub NoneOf : ℕ → ℕ → Type 0
NoneOf i kk = (j : ℕ) → j < i → kk ≡ slice_index misc_codes j → ⊥

abbrev pub fetch_data : FetchBlock → BlockData
fetch_data Fetch = block (λ x b s sets. Fetching x AT_FETCH b s) (λ x s. Exactly 0) AT_FETCH (1 ∷ 3 ∷ [])
fetch_data Upper = block (λ x b s sets. Fetching x AT_UPPER b s × (0x200 ≤ s.pc)) (λ x s. Exactly 6) AT_UPPER (1 ∷ 3 ∷ 4 ∷ 6 ∷ [])
fetch_data Inside =
    block_over (λ x b s sets. Fetching x AT_INSIDE b s × (is_fetchable x.edition s ≡ true)) (λ x s. Exactly 16)
    AT_INSIDE
    (from AT_INSIDE
    (2 ∷ 3 ∷ 4 ∷ 5 ∷ 6 ∷ 8 ∷ 10 ∷ 11 ∷ 12 ∷ 13 ∷ 14 ∷ 15 ∷ 16 ∷ 17 ∷ 19 ∷ 20 ∷ 22 ∷ 23 ∷ 24 ∷ 25 ∷ 26 ∷ 27 ∷ 28 ∷ 29 ∷ 31 ∷ 32 ∷ 33 ∷ 34 ∷ 35 ∷ 36 ∷ [])
    ++ AT_DISPATCH ∷ [])
fetch_data Outside =
    block (λ x b s sets. Fetching x AT_OUTSIDE b s × (is_fetchable x.edition s ≡ false)) (λ x s. Left 26 (to_stop x s)) AT_OUTSIDE (2 ∷ 3 ∷ 5 ∷ 6 ∷ 8 ∷ 9 ∷ [])
fetch_data (Misc i) =
    block (λ x b s sets. Enters x (slice_index misc_labels i) 15 b s × NoneOf i (low_byte s) × (i < 9)) (λ x s. Exactly (80 + 6 * i))
    (slice_index misc_labels i) (1 ∷ 3 ∷ [])
fetch_data Unknown83 = block (λ x b s sets. Enters x AT_UNKNOWN83 15 b s × NoneOf 9 (low_byte s)) (λ x s. Exactly 134) AT_UNKNOWN83 (2 ∷ [])
fetch_data (Leave i) =
    block (λ x b s sets. Leaving x (AT_LEAVE81 + 0x100 * i) b s × (i < 4)) (λ x s. Left 22 (to_stop x s)) (AT_LEAVE81 + 0x100 * i) (1 ∷ 3 ∷ [])
fetch_data Stop = block (λ x b s sets. Stopping x AT_STOP next b s) (λ x s. Left 16 (to_stop x s)) AT_STOP (1 ∷ [])
fetch_data Stopped = block (λ x b s sets. Stopping x AT_STOPPED (λ z. z) b s) (λ x s. Left 12 (to_stop x s)) AT_STOPPED (2 ∷ 3 ∷ 5 ∷ 6 ∷ 7 ∷ [])
