-- What comes of the blocks and places of EX9E, EXA1 and FX0A.
use Rattle.std.proofs.Common.{◌≡◌, false, refl}
use Rattle.machine.specs.Board.{Machine}
use Rattle.machine.specs.Ranges.{FitsMachine, FitsRom}
use Rattle.chip8_lang.specs.declared.view.Edition.{Edition}
use Rattle.chip8_image.specs.declared.parts.Part.TheVariants.{Keys}
use Rattle.rom_law.specs.Rows.{Since}
use Rattle.rom_law.proofs.Kept.{RunsBlock, RunsPlace}
use Rattle.rom_rows.specs.KeyBlocks.{KeyBlock, KeyPlace}
use Rattle.rom_rows.specs.KeyBlocks.KeyBlock.{KeySkip, KeySkipUp, SkipLatch, NoSkip, Skip, WaitKey, KeyNext, KeyCount, KeyFreed}
use Rattle.rom_rows.specs.KeyBlocks.KeyPlace.{SkipTest, KeyTest, KeyHeld}
use Rattle.rom_rows.specs.Table.{Head, At, calm_pieces}
use Rattle.rom_rows.specs.Table.Block.{OfKey}
use Rattle.rom_rows.specs.Table.Place.{AtKey}
use Rattle.rom_rows.proofs.Bytes.{with_part_fits}
use Rattle.rom_parts.specs.keys.Code.{keys_code}
use Rattle.rom_parts.proofs.Parts.{Comes, calm_comes}
use Rattle.rom_parts.proofs.Rom.{both, quick}
use Rattle.rom_parts.proofs.keys.Skips.{key_skip_comes, key_skip_up_comes, skip_latch_comes, skip_test_holds, no_skip_comes, skip_comes}
use Rattle.rom_parts.proofs.keys.Waits.{wait_key_comes, key_next_comes, key_test_holds, key_count_comes, key_held_holds, key_freed_comes}

pub key_block : (e : Edition) (l : KeyBlock) (b : Machine) (h : Since) → FitsMachine b → Head (quick keys_code e) (OfKey l) b h
    → RunsBlock (quick keys_code e) (calm_pieces (quick keys_code e)) (OfKey l) b h
key_block e KeySkip b h f o = key_skip_comes e b h f o.0 o.1
key_block e KeySkipUp b h f o = key_skip_up_comes e b h f o.0.0 o.0.1 o.0.2 o.1
key_block e (SkipLatch down) b h f o = skip_latch_comes e b h f down o.0.0 o.0.1 o.0.2 o.1
key_block e (NoSkip down) b h f o = no_skip_comes e b h f down o.0.0 o.0.1 o.1.0 o.1.1
key_block e (Skip down) b h f o = skip_comes e b h f down o.0.0 o.0.1 o.1.0 o.1.1
key_block e WaitKey b h f o = wait_key_comes e b h f o.0.0 o.0.1 o.1
key_block e (KeyNext turn) b h f o = key_next_comes e b h f turn o.0.0 o.0.1 o.1.0 o.1.1
key_block e (KeyCount turn) b h f o = key_count_comes e b h f turn o.0.0 o.0.1 o.0.2 o.1.0 o.1.1
key_block e (KeyFreed turn looks) b h f o = key_freed_comes e b h f turn looks o.0.0 o.0.1 o.0.2 o.1.0 o.1.1 o.1.2

pub key_place : (e : Edition) (l : KeyPlace) (b : Machine) (h : Since) → FitsMachine b → At (quick keys_code e) (AtKey l) b h
    → RunsPlace (quick keys_code e) (calm_pieces (quick keys_code e)) (AtKey l) b h
key_place e (SkipTest down) b h f o = skip_test_holds e b h f down o.0.0 o.0.1 o o.1
key_place e (KeyTest turn) b h f o = key_test_holds e b h f turn o.0.0 o.0.1 o.0.2 o o.1.0 o.1.1
key_place e (KeyHeld turn looks) b h f o = key_held_holds e b h f turn looks o.0.0 o.0.1 o.0.2 o.0.3 o o.1.0 o.1.1

pub awake : (e : Edition) (l : KeyPlace) (b : Machine) (h : Since) → At (quick keys_code e) (AtKey l) b h → b.regs.idle ≡ false
awake e (SkipTest down) b h o = o.0.0.holds.awake
awake e (KeyTest turn) b h o = o.0.0.waiting.enters.entered.holds.awake
awake e (KeyHeld turn looks) b h o = o.0.0.enters.entered.holds.awake

pub fits : (e : Edition) → FitsRom (both keys_code e)
fits = with_part_fits keys_code refl

pub comes : Comes Keys (both keys_code)
comes = calm_comes Keys (both keys_code) key_block key_place
