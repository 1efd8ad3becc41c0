-- The addresses of these blocks.
use Rattle.std.proofs.Common.{refl, List, [], ◌∷◌}
use Rattle.machine.specs.Board.{Machine}
use Rattle.chip8_lang.specs.declared.view.Edition.{Edition}
use Rattle.chip8_image.specs.declared.image.labels.TheConstants.{AT_HUNDREDS, AT_HUNDREDS_END, AT_TENS, AT_TENS_END, AT_STORE_BYTE, AT_STORE_END, AT_RESTORE_BYTE, AT_RESTORE_END}
use Rattle.chip8_image.specs.declared.parts.Part.TheVariants.{Memory}
use Rattle.rom_law.specs.Rows.{Since}
use Rattle.rom_rows.specs.Checks.Caller.{ForDecimal}
use Rattle.rom_rows.specs.Checks.Answer.{InGame, InFont, Nowhere}
use Rattle.rom_rows.specs.MemoryBlocks.{MemoryBlock}
use Rattle.rom_rows.specs.MemoryBlocks.MemoryBlock.{Index, AddIndex, Digit, Check, CheckGame, CheckFont, CheckLow, Answering, Decimal, DecimalFound, Hundreds, HundredsEnd, Tens, TensEnd, Store, StoreFound, StoreByte, StoreEnd, Restore, RestoreFound, RestoreByte, RestoreEnd}
use Rattle.rom_rows.specs.Table.{Head}
use Rattle.rom_rows.specs.Table.Block.{OfMemory}
use Rattle.rom_rows.proofs.Addresses.{Follows, blocks_of, covers}
use Rattle.rom_rows.proofs.Entry.{is_entered, on_3, is_on_3}
use Rattle.rom_rows.specs.Addresses.{AllInBlocks}
use Rattle.rom_parts.specs.memory.Code.{memory_code}
use Rattle.rom_parts.proofs.Rom.{quick}
use Rattle.rom_parts.proofs.memory.Check.{is_checking, is_comparing}
use Rattle.rom_parts.proofs.memory.Found.{is_resumed}

pub block_follows : (e : Edition) (l : MemoryBlock) (b : Machine) (h : Since) → Head (quick memory_code e) (OfMemory l) b h
    → Follows (quick memory_code e) (OfMemory l) b
block_follows e Index b h o = record { same = _; is = is_entered o.0.entered; follows = refl }
block_follows e AddIndex b h o = record { same = _; is = is_entered o.0.0.entered; follows = refl }
block_follows e Digit b h o = record { same = _; is = is_entered o.0.0.entered; follows = refl }
block_follows e (Check c) b h o = record { same = _; is = is_checking o.0; follows = refl }
block_follows e (CheckGame c) b h o = record { same = _; is = is_comparing o.0.0; follows = refl }
block_follows e (CheckFont c) b h o = record { same = _; is = is_comparing o.0.0; follows = refl }
block_follows e (CheckLow c) b h o = record { same = _; is = is_comparing o.0.0; follows = refl }
block_follows e (Answering c InGame) b h o = record { same = _; is = is_checking o.0.0; follows = refl }
block_follows e (Answering c InFont) b h o = record { same = _; is = is_checking o.0.0; follows = refl }
block_follows e (Answering c Nowhere) b h o = record { same = _; is = is_checking o.0.0; follows = refl }
block_follows e Decimal b h o = record { same = _; is = is_entered o.0.0.entered; follows = refl }
block_follows e (DecimalFound InGame) b h o = record { same = _; is = is_resumed o.0; follows = refl }
block_follows e (DecimalFound InFont) b h o = record { same = _; is = is_resumed o.0; follows = refl }
block_follows e (DecimalFound Nowhere) b h o = record { same = _; is = is_resumed o.0; follows = refl }
block_follows e (Hundreds k) b h o = record { same = on_3 AT_HUNDREDS b; is = is_on_3 AT_HUNDREDS b o.0.0.p o.0.0.r3; follows = refl }
block_follows e HundredsEnd b h o = record { same = on_3 AT_HUNDREDS_END b; is = is_on_3 AT_HUNDREDS_END b o.0.p o.0.r3; follows = refl }
block_follows e (Tens k) b h o = record { same = on_3 AT_TENS b; is = is_on_3 AT_TENS b o.0.0.p o.0.0.r3; follows = refl }
block_follows e TensEnd b h o = record { same = on_3 AT_TENS_END b; is = is_on_3 AT_TENS_END b o.0.p o.0.r3; follows = refl }
block_follows e Store b h o = record { same = _; is = is_entered o.0.0.entered; follows = refl }
block_follows e (StoreFound InGame) b h o = record { same = _; is = is_resumed o.0; follows = refl }
block_follows e (StoreFound InFont) b h o = record { same = _; is = is_resumed o.0; follows = refl }
block_follows e (StoreFound Nowhere) b h o = record { same = _; is = is_resumed o.0; follows = refl }
block_follows e (StoreByte k) b h o = record { same = on_3 AT_STORE_BYTE b; is = is_on_3 AT_STORE_BYTE b o.0.0.p o.0.0.r3; follows = refl }
block_follows e StoreEnd b h o = record { same = on_3 AT_STORE_END b; is = is_on_3 AT_STORE_END b o.0.0.p o.0.0.r3; follows = refl }
block_follows e Restore b h o = record { same = _; is = is_entered o.0.0.entered; follows = refl }
block_follows e (RestoreFound InGame) b h o = record { same = _; is = is_resumed o.0; follows = refl }
block_follows e (RestoreFound InFont) b h o = record { same = _; is = is_resumed o.0; follows = refl }
block_follows e (RestoreFound Nowhere) b h o = record { same = _; is = is_resumed o.0; follows = refl }
block_follows e (RestoreByte k) b h o = record { same = on_3 AT_RESTORE_BYTE b; is = is_on_3 AT_RESTORE_BYTE b o.0.0.p o.0.0.r3; follows = refl }
block_follows e RestoreEnd b h o = record { same = on_3 AT_RESTORE_END b; is = is_on_3 AT_RESTORE_END b o.0.0.p o.0.0.r3; follows = refl }

blocks : List MemoryBlock
blocks =
    Index ∷ AddIndex ∷ Digit ∷ Check ForDecimal ∷ CheckGame ForDecimal ∷ CheckFont ForDecimal ∷ CheckLow ForDecimal ∷ Answering ForDecimal InGame ∷
    Answering ForDecimal InFont ∷ Answering ForDecimal Nowhere ∷ Decimal ∷ DecimalFound InGame ∷ DecimalFound Nowhere ∷ Hundreds 0 ∷ HundredsEnd ∷ Tens 0 ∷
    TensEnd ∷ Store ∷ StoreFound InGame ∷ StoreByte 0 ∷ StoreEnd ∷ Restore ∷ RestoreFound InGame ∷ RestoreFound Nowhere ∷ RestoreByte 0 ∷ RestoreEnd ∷ []

pub covered : AllInBlocks Memory
unfolding blocks
covered = covers Memory (blocks_of (λ l. OfMemory l) blocks) refl
