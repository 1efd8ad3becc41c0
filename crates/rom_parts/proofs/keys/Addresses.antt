-- The addresses of these blocks and places.
use Rattle.std.proofs.Common.{◌≡◌, ℕ, refl, ◌∙◌, ap, true, false, List, [], ◌∷◌, ◌++◌}
use Rattle.machine.specs.Bank.{word_of, value}
use Rattle.machine.specs.Instruction.{at}
use Rattle.machine.specs.Board.{Machine}
use Rattle.chip8_lang.specs.declared.view.Edition.{Edition}
use Rattle.chip8_image.specs.declared.image.labels.TheConstants.{AT_KEY_YES, AT_KEY_TEST, AT_KEY_HELD}
use Rattle.chip8_image.specs.declared.parts.Part.TheVariants.{Keys}
use Rattle.rom_law.specs.Rows.{Since}
use Rattle.rom_rows.specs.KeyBlocks.{KeyBlock, KeyPlace, skip_test_label, no_skip_label}
use Rattle.rom_rows.specs.KeyBlocks.KeyBlock.{KeySkip, KeySkipUp, SkipLatch, NoSkip, Skip, WaitKey, KeyNext, KeyCount, KeyFreed}
use Rattle.rom_rows.specs.KeyBlocks.KeyPlace.{SkipTest, KeyTest, KeyHeld}
use Rattle.rom_rows.specs.Table.{Head, At, place_data_of}
use Rattle.rom_rows.specs.Table.Block.{OfKey}
use Rattle.rom_rows.specs.Table.Place.{AtKey}
use Rattle.rom_rows.proofs.Addresses.{Follows, blocks_of, places_of, covers}
use Rattle.rom_rows.proofs.Entry.{is_entered, on_3, is_on_3}
use Rattle.rom_rows.specs.Addresses.{AllInBlocks}
use Rattle.rom_rows.specs.Rom.{program_of}
use Rattle.rom_parts.specs.keys.Code.{keys_code}
use Rattle.rom_parts.specs.Parts.{PlaceOf, place, rom_of}
use Rattle.rom_parts.proofs.Rom.{quick}
use Rattle.rom_parts.proofs.keys.Waits.{is_turning}

pub block_follows : (e : Edition) (l : KeyBlock) (b : Machine) (h : Since) → Head (quick keys_code e) (OfKey l) b h → Follows (quick keys_code e) (OfKey l) b
block_follows e KeySkip b h o = record { same = _; is = is_entered o.0.entered; follows = refl }
block_follows e KeySkipUp b h o = record { same = _; is = is_entered o.0.0.entered; follows = refl }
block_follows e (SkipLatch true) b h o = record { same = _; is = is_entered o.0.0.entered; follows = refl }
block_follows e (SkipLatch false) b h o = record { same = _; is = is_entered o.0.0.entered; follows = refl }
block_follows e (NoSkip true) b h o = record { same = on_3 (no_skip_label true) b; is = is_on_3 (no_skip_label true) b o.0.0.p o.0.0.r3; follows = refl }
block_follows e (NoSkip false) b h o = record { same = on_3 (no_skip_label false) b; is = is_on_3 (no_skip_label false) b o.0.0.p o.0.0.r3; follows = refl }
block_follows e (Skip down) b h o = record { same = on_3 AT_KEY_YES b; is = is_on_3 AT_KEY_YES b o.0.0.p o.0.0.r3; follows = refl }
block_follows e WaitKey b h o = record { same = _; is = is_entered o.0.0.entered; follows = refl }
block_follows e (KeyNext turn) b h o = record { same = _; is = is_turning o.0.0; follows = refl }
block_follows e (KeyCount turn) b h o = record { same = _; is = is_entered o.0.0.waiting.enters.entered; follows = refl }
block_follows e (KeyFreed turn looks) b h o = record { same = _; is = is_entered o.0.0.enters.entered; follows = refl }

-- the program counter where P is 3
counter : (a : ℕ) (b : Machine) → b.regs.p ≡ 3 → b.regs.r.r3 ≡ word_of a → at b.regs b.regs.p ≡ value (word_of a)
counter a b p r3 = ap (at b.regs) p ∙ ap value r3

pub place_addresses : (e : Edition) (l : PlaceOf Keys) (b : Machine) (h : Since) → At (program_of e (rom_of keys_code e)) (place Keys l) b h
    → at b.regs b.regs.p ≡ (place_data_of (place Keys l)).address
place_addresses e (SkipTest true) b h o = counter (skip_test_label true) b o.0.0.p o.0.0.r3
place_addresses e (SkipTest false) b h o = counter (skip_test_label false) b o.0.0.p o.0.0.r3
place_addresses e (KeyTest turn) b h o = counter AT_KEY_TEST b o.0.0.waiting.enters.entered.p o.0.0.waiting.enters.entered.r3
place_addresses e (KeyHeld turn looks) b h o = counter AT_KEY_HELD b o.0.0.enters.entered.p o.0.0.enters.entered.r3

blocks : List KeyBlock
blocks =
    KeySkip ∷ KeySkipUp ∷ SkipLatch true ∷ SkipLatch false ∷ NoSkip true ∷ NoSkip false ∷ Skip true ∷ WaitKey ∷ KeyNext 0 ∷ KeyCount 0 ∷
    KeyFreed 0 0 ∷ []

places : List KeyPlace
places =
    SkipTest true ∷ SkipTest false ∷ KeyTest 0 ∷ KeyHeld 0 0 ∷ []

pub covered : AllInBlocks Keys
unfolding blocks places
covered = covers Keys (blocks_of (λ l. OfKey l) blocks ++ places_of (λ l. AtKey l) places) refl
