-- What the laws on addresses use: the program counter is followed by computing, and the blocks are searched for an address.
use Rattle.std.proofs.Common.{◌≡◌, ℕ, zero, suc, ◌<◌, ◌≤◌, ◌⊎◌, inl, inr, refl, sym, ◌∙◌, ap, subst, arith, Bool, true, false, ◌&&◌, ◌||◌, List, [], ◌∷◌, length, slice_index}
use Rattle.std.specs.Prelude.{◌==◌}
use Rattle.std.proofs.lemmas.Bool.{and_parts, eqb-true, cases_eq}
use Rattle.machine.specs.Instruction.{at}
use Rattle.machine.specs.Board.{Machine}
use Rattle.machine.specs.Ranges.{FitsMachine, FitsRom}
use Rattle.chip8_image.specs.declared.parts.Part.{Part}
use Rattle.chip8_image.specs.Parts.{is_part}
use Rattle.chip8_lang.specs.declared.view.Edition.{Edition}
use Rattle.rom_law.specs.Code.{Code}
use Rattle.rom_law.proofs.Moves.{quicks}
use Rattle.rom_law.specs.Program.{Program, code}
use Rattle.rom_law.specs.Rows.{Since}
use Rattle.rom_law.proofs.Kept.{RunsBlock, block_at}
use Rattle.rom_rows.specs.Rom.{program_of}
use Rattle.rom_rows.specs.Blocks.{addresses}
use Rattle.rom_rows.specs.Table.{Block, Place, Head, data_of, moves, pieces, calm_pieces}
use Rattle.rom_rows.specs.Addresses.{RunsAt, Piece, part_of_piece, addresses_of, IsIn, begins, areas_with_blocks, AllInBlocks}
use Rattle.rom_rows.specs.Addresses.Piece.{OfBlock, OfPlace}
use Rattle.rom_rows.proofs.Calm.{comes_calm}
use Rattle.rom_rows.proofs.Sounds.{sound}

-- ---- the program counter in a block

-- it is at these addresses at the first k machines
abbrev pub follows : Code → List ℕ → ℕ → Machine → Bool
follows x l zero b = true
follows x l (suc k) b = follows x l k b && at (quicks x k b).regs (quicks x k b).regs.p == slice_index l k

follows_at : (x : Code) (l : List ℕ) (k : ℕ) (b : Machine) → follows x l k b ≡ true → (j : ℕ) → j < k
    → at (quicks x j b).regs (quicks x j b).regs.p ≡ slice_index l j
follows_at x l zero b s j m = absurd (omega (arith, m))
follows_at x l (suc k) b s j m = go (cases_eq j k) (follows_at x l k b parts.0 j)
  where
    parts : (follows x l k b ≡ true) × ((at (quicks x k b).regs (quicks x k b).regs.p == slice_index l k) ≡ true)
    parts = and_parts (follows x l k b) (at (quicks x k b).regs (quicks x k b).regs.p == slice_index l k) s

    go : (j ≡ k) ⊎ (j ≡ k → ⊥) → (j < k → at (quicks x j b).regs (quicks x j b).regs.p ≡ slice_index l j)
        → at (quicks x j b).regs (quicks x j b).regs.p ≡ slice_index l j
    go (inl e) before = subst (λ i. at (quicks x i b).regs (quicks x i b).regs.p ≡ slice_index l i) (sym e) (eqb-true _ _ parts.1)
    go (inr d) before = before (omega (arith, m, d))

-- the machine at a block's head is one from which the program counter goes as it should
pub record Follows (x : Program) (l : Block) (b : Machine) : Type 0 where
  pub same : Machine
  pub is : b ≡ same
  pub follows : follows (code x) (addresses (data_of l)) (moves l) same ≡ true

pub runs_at_in : (e : Edition) {rom last : List ℕ} → rom ≡ last → FitsRom rom → (l : Block)
    → ((b : Machine) (h : Since) → FitsMachine b → Head (program_of e rom) l b h → RunsBlock (program_of e rom) (pieces (program_of e rom)) l b h)
    → ((b : Machine) (h : Since) → Head (program_of e rom) l b h → Follows (program_of e rom) l b) → RunsAt (program_of e last) l
runs_at_in e {rom = rom} same fits l comes goes =
    subst (λ rom. RunsAt (program_of e rom) l) same
    (λ b h r. let w = goes r.start r.since r.head in
    block_at (program_of e rom) (pieces (program_of e rom)) (sound e refl fits) r (comes r.start r.since r.fits r.head)
    ∙ ap (λ z. at (quicks (code (program_of e rom)) r.k z).regs (quicks (code (program_of e rom)) r.k z).regs.p) w.is
    ∙ follows_at (code (program_of e rom)) (addresses (data_of l)) (moves l) w.same w.follows r.k r.inside)

-- the same of the calm pieces
pub runs_at : (e : Edition) {rom last : List ℕ} → rom ≡ last → FitsRom rom → (l : Block)
    → ((b : Machine) (h : Since) → FitsMachine b → Head (program_of e rom) l b h → RunsBlock (program_of e rom) (calm_pieces (program_of e rom)) l b h)
    → ((b : Machine) (h : Since) → Head (program_of e rom) l b h → Follows (program_of e rom) l b) → RunsAt (program_of e last) l
runs_at e same fits l comes goes = runs_at_in e same fits l (λ b h f head. comes_calm (comes b h f head)) goes

-- ---- the block of an address

never : false ≡ true → ⊥
never e = cc

or_parts : (t u : Bool) → (t || u) ≡ true → (t ≡ true) ⊎ (u ≡ true)
or_parts true u e = inl refl
or_parts false u e = inr e

-- the pieces of a part
abbrev pub blocks_of : {B : Type 0} → (B → Block) → List B → List Piece
blocks_of of [] = []
blocks_of of (l ∷ blocks) = OfBlock (of l) ∷ blocks_of of blocks

abbrev pub places_of : {B : Type 0} → (B → Place) → List B → List Piece
places_of of [] = []
places_of of (l ∷ places) = OfPlace (of l) ∷ places_of of places

-- it is one of the piece's first k
abbrev has : List ℕ → ℕ → ℕ → Bool
has l zero a = false
has l (suc k) a = slice_index l k == a || has l k a

-- the piece has it
abbrev holds : Part → Piece → ℕ → Bool
holds p l a = is_part p (part_of_piece l) && has (addresses_of l) (length (addresses_of l)) a

-- one of these does
abbrev found : Part → List Piece → ℕ → Bool
found p [] a = false
found p (l ∷ pieces) a = holds p l a || found p pieces a

abbrev all_found : Part → List Piece → List ℕ → Bool
all_found p pieces [] = true
all_found p pieces (a ∷ l) = found p pieces a && all_found p pieces l

module _ (p : Part) where
  has_is : (l : Piece) → is_part p (part_of_piece l) ≡ true → (k a : ℕ) → k ≤ length (addresses_of l) → has (addresses_of l) k a ≡ true → IsIn p a
  has_is l own zero a m e = absurd (never e)
  has_is l own (suc k) a m e = go (or_parts (slice_index (addresses_of l) k == a) (has (addresses_of l) k a) e) (has_is l own k a (omega (arith, m)))
    where
      go : ((slice_index (addresses_of l) k == a) ≡ true) ⊎ (has (addresses_of l) k a ≡ true) → (has (addresses_of l) k a ≡ true → IsIn p a) → IsIn p a
      go (inl f) before = record { piece = l; own = own; k = k; inside = omega (arith, m); is = eqb-true _ _ f }
      go (inr f) before = before f

  found_is : (pieces : List Piece) (a : ℕ) → found p pieces a ≡ true → IsIn p a
  found_is [] a e = absurd (never e)
  found_is (l ∷ pieces) a e = go (or_parts (holds p l a) (found p pieces a) e) (found_is pieces a)
    where
      go : (holds p l a ≡ true) ⊎ (found p pieces a ≡ true) → (found p pieces a ≡ true → IsIn p a) → IsIn p a
      go (inl f) rest =
          let two = and_parts (is_part p (part_of_piece l)) (has (addresses_of l) (length (addresses_of l)) a) f in
          has_is l two.0 (length (addresses_of l)) a (omega arith) two.1
      go (inr f) rest = rest f

  all_are : (pieces : List Piece) (l : List ℕ) → all_found p pieces l ≡ true → (i : ℕ) → i < length l → IsIn p (slice_index l i)
  all_are pieces [] e i m = absurd (omega (arith, m))
  all_are pieces (a ∷ l) e zero m = found_is pieces a (and_parts (found p pieces a) (all_found p pieces l) e).0
  all_are pieces (a ∷ l) e (suc i) m = all_are pieces l (and_parts (found p pieces a) (all_found p pieces l) e).1 i (omega (arith, m))

  -- every instruction of the part's code that has blocks is in one of these
  pub covers : (pieces : List Piece) → all_found p pieces (begins (areas_with_blocks p)) ≡ true → AllInBlocks p
  covers pieces e = all_are pieces (begins (areas_with_blocks p)) e
