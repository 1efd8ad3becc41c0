-- What holds of each block and place, once for all laws of the whole ROM. The table of a part's has one of these records for each.
use Rattle.std.proofs.Common.{◌≡◌, ℕ, suc, zero, ◌<◌, ◌≤◌, ◌⊎◌, inl, refl, arith, Bool, true, ◌&&◌, List, [], ◌∷◌, length, slice_index}
use Rattle.std.specs.Prelude.{nat_le}
use Rattle.std.proofs.lemmas.Bool.{and_parts, leb-true}
use Rattle.machine.specs.Board.{Machine}
use Rattle.machine.specs.Keys.{Keys}
use Rattle.machine.specs.Ranges.{FitsMachine}
use Rattle.chip8_image.specs.declared.parts.Part.{Part}
use Rattle.chip8_image.specs.Parts.{is_part, part_of}
use Rattle.chip8_lang.specs.State.{Lang}
use Rattle.chip8_lang.specs.Step.{next}
use Rattle.rom_law.specs.Holding.{Places, places, Holding}
use Rattle.rom_law.specs.Program.{Program}
use Rattle.rom_law.specs.Rows.{Since}
use Rattle.rom_rows.specs.Blocks.{Knows, addresses}
use Rattle.rom_rows.specs.FetchBlocks.FetchBlock.{Inside}
use Rattle.rom_rows.specs.KeyBlocks.KeyBlock.{KeyNext, KeyCount, KeyFreed}
use Rattle.rom_rows.specs.KeyBlocks.KeyPlace.{KeyTest, KeyHeld}
use Rattle.rom_rows.specs.Table.{Block, Place, data_of, place_data_of, part_of_block, part_of_place, Head, At, moves, IsBefore}
use Rattle.rom_rows.specs.Table.Block.{OfFetch, OfKey}
use Rattle.rom_rows.specs.Table.Place.{AtKey}
use Rattle.rom_rows.proofs.Haste.{Haste}
use Rattle.rom_rows.proofs.Screens.{SameScreen, past}

-- ---- the parts

-- these addresses lie in the part
abbrev pub lie_in : Part → List ℕ → Bool
lie_in p [] = true
lie_in p (a ∷ l) = is_part p (part_of a) && lie_in p l

pub lies_at : (p : Part) (l : List ℕ) → lie_in p l ≡ true → (k : ℕ) → k < length l → is_part p (part_of (slice_index l k)) ≡ true
lies_at p [] h k m = absurd (omega (arith, m))
lies_at p (a ∷ l) h zero m = (and_parts (is_part p (part_of a)) (lie_in p l) h).0
lies_at p (a ∷ l) h (suc k) m = lies_at p l (and_parts (is_part p (part_of a)) (lie_in p l) h).1 k (omega (arith, m))

-- ---- the loop of FX0A

-- the loop and what comes behind it may take forever
abbrev pub IsEndless : Block → Type 0
IsEndless (OfKey (KeyNext turn)) = Unit {0}
IsEndless (OfKey (KeyCount turn)) = Unit {0}
IsEndless (OfKey (KeyFreed turn looks)) = Unit {0}
IsEndless _ = ⊥

abbrev pub IsEndlessAt : Place → Type 0
IsEndlessAt (AtKey (KeyTest turn)) = Unit {0}
IsEndlessAt (AtKey (KeyHeld turn looks)) = Unit {0}
IsEndlessAt _ = ⊥

-- ---- blocks

-- where the head is known, this is so
abbrev pub Entails : Knows → (Program → Machine → Lang → Type 0) → Type 0
Entails at P = (x : Program) (b : Machine) (s : Lang) (sets : List Keys) → at x b s sets → P x b s

-- some language state lies in the machine
abbrev pub Lies : Program → Machine → Lang → Type 0
Lies x b s = (z : Lang) × Holding x (places b) z

pub record BlockFacts (l : Block) : Type 0 where
  -- its instructions lie in its part of the ROM, and it is short, but for the end of the fetch
  pub lie : Entails (data_of l).at (λ x b s. lie_in (part_of_block l) (addresses (data_of l)) ≡ true)
  pub short : Entails (data_of l).at (λ x b s. (moves l ≤ 22) ⊎ (l ≡ OfFetch Inside))
  pub holds : Entails (data_of l).at Lies
  -- before a wait the screen is that of the state at the row
  pub screen : IsBefore l → Entails (data_of l).at SameScreen
  -- and the next event comes in time
  pub haste : (x : Program) (b : Machine) (h : Since) → FitsMachine b → Head x l b h → Haste x.edition (IsEndless l) h (moves l)

-- the same of a place
pub record PlaceFacts (l : Place) : Type 0 where
  pub lies : is_part (part_of_place l) (part_of (place_data_of l).address) ≡ true
  pub stack : Entails (place_data_of l).at (λ x b s. (p : Places) × (z : Lang) × Holding x p z × (p.r2 ≡ b.regs.r.r2))
  pub screen : Entails (place_data_of l).at SameScreen
  pub haste : (x : Program) (b : Machine) (h : Since) → At x l b h → Haste x.edition (IsEndlessAt l) h 1

-- ---- what most have in common

-- its addresses are computed
abbrev pub is_short : Block → Bool
is_short l = lie_in (part_of_block l) (addresses (data_of l)) && nat_le (moves l) 22

-- how little is spent there
abbrev pub Hastes : Block → Type 0
Hastes l = (x : Program) (b : Machine) (h : Since) → FitsMachine b → Head x l b h → Haste x.edition (IsEndless l) h (moves l)

module _ (l : Block) (short : is_short l ≡ true) where
  parts : (lie_in (part_of_block l) (addresses (data_of l)) ≡ true) × (nat_le (moves l) 22 ≡ true)
  parts = and_parts (lie_in (part_of_block l) (addresses (data_of l))) (nat_le (moves l) 22) short

  -- a state with these pixels lies there
  pub showing : Entails (data_of l).at Lies → (IsBefore l → Entails (data_of l).at SameScreen) → Hastes l → BlockFacts l
  showing holds screen haste =
      record {
        lie = λ x b s sets o. parts.0;
        short = λ x b s sets o. inl (leb-true (moves l) 22 parts.1);
        holds = holds;
        screen = screen;
        haste = haste;
      }

  -- the state with pc past the opcode does
  pub passed : Entails (data_of l).at (λ x b s. Holding x (places b) (next s)) → Hastes l → BlockFacts l
  passed holds haste = showing (λ x b s sets o. (next s, holds x b s sets o)) (λ n x b s sets o. past x b s (holds x b s sets o)) haste

-- so it does at a place
pub at_passed : (l : Place) → is_part (part_of_place l) (part_of (place_data_of l).address) ≡ true
    → Entails (place_data_of l).at (λ x b s. Holding x (places b) (next s))
    → ((x : Program) (b : Machine) (h : Since) → At x l b h → Haste x.edition (IsEndlessAt l) h 1) → PlaceFacts l
at_passed l lies holds haste =
    record {
      lies = lies;
      stack = λ x b s sets o. (places b, next s, holds x b s sets o, refl);
      screen = λ x b s sets o. past x b s (holds x b s sets o);
      haste = haste;
    }
