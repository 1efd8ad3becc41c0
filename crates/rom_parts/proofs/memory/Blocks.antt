-- What the blocks of I and of game memory come to.
use Rattle.std.proofs.Common.{refl}
use Rattle.machine.specs.Board.{Machine}
use Rattle.machine.specs.Ranges.{FitsMachine, FitsRom}
use Rattle.chip8_lang.specs.declared.view.Edition.{Edition}
use Rattle.chip8_image.specs.declared.parts.Part.TheVariants.{Memory}
use Rattle.rom_law.specs.Rows.{Since}
use Rattle.rom_law.proofs.Kept.{RunsBlock}
use Rattle.rom_rows.specs.MemoryBlocks.{MemoryBlock}
use Rattle.rom_rows.specs.MemoryBlocks.MemoryBlock.{Index, AddIndex, Digit, Check, CheckGame, CheckFont, CheckLow, Answering, Decimal, DecimalFound, Hundreds, HundredsEnd, Tens, TensEnd, Store, StoreFound, StoreByte, StoreEnd, Restore, RestoreFound, RestoreByte, RestoreEnd}
use Rattle.rom_rows.specs.Table.{Head, calm_pieces}
use Rattle.rom_rows.specs.Table.Block.{OfMemory}
use Rattle.rom_rows.proofs.Bytes.{with_part_fits}
use Rattle.rom_parts.specs.memory.Code.{memory_code}
use Rattle.rom_parts.proofs.Parts.{Comes, calm_comes}
use Rattle.rom_parts.proofs.Rom.{both, quick}
use Rattle.rom_parts.proofs.memory.Index.{index_comes, add_index_comes, digit_comes}
use Rattle.rom_parts.proofs.memory.Check.{check_comes, check_game_comes, check_font_comes, check_low_comes, answering_comes}
use Rattle.rom_parts.proofs.memory.Decimal.{decimal_comes, decimal_found_comes, hundreds_comes, hundreds_end_comes, tens_comes, tens_end_comes}
use Rattle.rom_parts.proofs.memory.Copies.{store_comes, store_found_comes, store_byte_comes, store_end_comes, restore_comes, restore_found_comes, restore_byte_comes, restore_end_comes}

pub memory_block : (e : Edition) (l : MemoryBlock) (b : Machine) (h : Since) → FitsMachine b → Head (quick memory_code e) (OfMemory l) b h
    → RunsBlock (quick memory_code e) (calm_pieces (quick memory_code e)) (OfMemory l) b h
memory_block e Index b h f o = index_comes e b h f o.0 o.1
memory_block e AddIndex b h f o = add_index_comes e b h f o.0.0 o.0.1 o.1
memory_block e Digit b h f o = digit_comes e b h f o.0.0 o.0.1 o.1
memory_block e (Check c) b h f o = check_comes e b h f c o.0 o.1
memory_block e (CheckGame c) b h f o = check_game_comes e b h f c o.0.0 o.0.1 o.1
memory_block e (CheckFont c) b h f o = check_font_comes e b h f c o.0.0 o.0.1 o.0.2 o.1
memory_block e (CheckLow c) b h f o = check_low_comes e b h f c o.0.0 o.0.1 o.0.2 o.1
memory_block e (Answering c answer) b h f o = answering_comes e b h f c answer o.0.0 o.0.1 o.1
memory_block e Decimal b h f o = decimal_comes e b h f o.0.0 o.0.1 o.1
memory_block e (DecimalFound answer) b h f o = decimal_found_comes e b h f answer o.0 o.1
memory_block e (Hundreds k) b h f o = hundreds_comes e b h f k o.0.0 o.0.1 o.1
memory_block e HundredsEnd b h f o = hundreds_end_comes e b h f o.0 o.1
memory_block e (Tens k) b h f o = tens_comes e b h f k o.0.0 o.0.1 o.1
memory_block e TensEnd b h f o = tens_end_comes e b h f o.0 o.1
memory_block e Store b h f o = store_comes e b h f o.0.0 o.0.1 o.1
memory_block e (StoreFound answer) b h f o = store_found_comes e b h f answer o.0 o.1
memory_block e (StoreByte k) b h f o = store_byte_comes e b h f k o.0.0 o.0.1 o.0.2 o.1
memory_block e StoreEnd b h f o = store_end_comes e b h f o.0.0 o.0.1 o.1
memory_block e Restore b h f o = restore_comes e b h f o.0.0 o.0.1 o.1
memory_block e (RestoreFound answer) b h f o = restore_found_comes e b h f answer o.0 o.1
memory_block e (RestoreByte k) b h f o = restore_byte_comes e b h f k o.0.0 o.0.1 o.0.2 o.1
memory_block e RestoreEnd b h f o = restore_end_comes e b h f o.0.0 o.0.1 o.1

pub fits : (e : Edition) → FitsRom (both memory_code e)
fits = with_part_fits memory_code refl

pub comes : Comes Memory (both memory_code)
comes = calm_comes Memory (both memory_code) memory_block (λ e l. absurd l)
