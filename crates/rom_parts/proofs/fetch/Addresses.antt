-- The addresses of the fetch's blocks.
use Rattle.std.proofs.Common.{◌+◌, ◌*◌, refl, true, List, [], ◌∷◌, slice_index}
use Rattle.std.proofs.lemmas.Bool.{agree_below_at}
use Rattle.machine.specs.Bank.{word_of}
use Rattle.machine.specs.Board.{Machine}
use Rattle.chip8_lang.specs.declared.view.Edition.{Edition}
use Rattle.chip8_image.specs.declared.image.labels.TheConstants.{AT_OUTSIDE, AT_FETCH, AT_UPPER, AT_INSIDE, AT_STOP, AT_STOPPED, AT_UNKNOWN83, AT_LEAVE81}
use Rattle.chip8_image.specs.declared.parts.Part.TheVariants.{Fetch as IsFetch}
use Rattle.rom_law.specs.Program.{code}
use Rattle.rom_law.specs.Rows.{Since}
use Rattle.rom_rows.specs.FetchBlocks.{FetchBlock, fetch_data, misc_labels}
use Rattle.rom_rows.specs.FetchBlocks.FetchBlock.{Fetch, Upper, Inside, Outside, Misc, Unknown83, Leave, Stop, Stopped}
use Rattle.rom_rows.specs.Blocks.{addresses as addresses_in}
use Rattle.rom_rows.specs.Table.{Head}
use Rattle.rom_rows.specs.Table.Block.{OfFetch}
use Rattle.rom_rows.proofs.Addresses.{follows, Follows, blocks_of, covers}
use Rattle.rom_rows.proofs.Entry.{on_4, is_on_4, on_3, is_on_3}
use Rattle.rom_rows.specs.Addresses.{AllInBlocks}
use Rattle.rom_parts.specs.fetch.Code.{fetch_code}
use Rattle.rom_parts.proofs.Rom.{quick}

pub block_follows : (e : Edition) (l : FetchBlock) (b : Machine) (h : Since) → Head (quick fetch_code e) (OfFetch l) b h
    → Follows (quick fetch_code e) (OfFetch l) b
block_follows e Fetch b h o = record { same = on_4 (word_of AT_FETCH) b; is = is_on_4 o.0; follows = refl }
block_follows e Upper b h o = record { same = on_4 (word_of AT_UPPER) b; is = is_on_4 o.0.0; follows = refl }
block_follows e Inside b h o = record { same = on_4 (word_of AT_INSIDE) b; is = is_on_4 o.0.0; follows = refl }
block_follows e Outside b h o = record { same = on_4 (word_of AT_OUTSIDE) b; is = is_on_4 o.0.0; follows = refl }
block_follows e (Misc i) b h o =
    record {
      same = on_3 (slice_index misc_labels i) b;
      is = is_on_3 (slice_index misc_labels i) b o.0.0.entered.p o.0.0.entered.r3;
      follows = agree_below_at (λ j. follows (code (quick fetch_code e)) (addresses_in (fetch_data (Misc j))) 3 (on_3 (slice_index misc_labels j) b))
          (λ j. true) 9 i refl o.0.2;
    }
block_follows e Unknown83 b h o = record { same = on_3 AT_UNKNOWN83 b; is = is_on_3 AT_UNKNOWN83 b o.0.0.entered.p o.0.0.entered.r3; follows = refl }
block_follows e (Leave i) b h o =
    record {
      same = on_3 (AT_LEAVE81 + 0x100 * i) b;
      is = is_on_3 (AT_LEAVE81 + 0x100 * i) b o.0.0.p o.0.0.r3;
      follows = agree_below_at (λ j. follows (code (quick fetch_code e)) (addresses_in (fetch_data (Leave j))) 3 (on_3 (AT_LEAVE81 + 0x100 * j) b))
          (λ j. true) 4 i refl o.0.1;
    }
block_follows e Stop b h o = record { same = on_3 AT_STOP b; is = is_on_3 AT_STOP b o.0.p o.0.r3; follows = refl }
block_follows e Stopped b h o = record { same = on_3 AT_STOPPED b; is = is_on_3 AT_STOPPED b o.0.p o.0.r3; follows = refl }

blocks : List FetchBlock
blocks =
    Fetch ∷ Upper ∷ Inside ∷ Outside ∷ Misc 0 ∷ Misc 1 ∷ Misc 2 ∷ Misc 3 ∷ Misc 4 ∷ Misc 5 ∷ Misc 6 ∷ Misc 7 ∷ Misc 8 ∷ Unknown83 ∷ Leave 0 ∷ Leave 1 ∷
    Leave 2 ∷ Leave 3 ∷ Stop ∷ Stopped ∷ []

pub covered : AllInBlocks IsFetch
unfolding blocks
covered = covers IsFetch (blocks_of (λ l. OfFetch l) blocks) refl
