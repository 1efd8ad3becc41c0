-- The addresses of these blocks and places.
use Rattle.std.proofs.Common.{◌≡◌, ℕ, zero, suc, ◌+◌, ◌-◌, ◌*◌, ◌<◌, ◌≤◌, refl, ◌∙◌, ap, arith, List, [], ◌∷◌, ◌++◌}
use Rattle.machine.specs.Bank.{value}
use Rattle.machine.specs.Instruction.{at}
use Rattle.machine.specs.Board.{Machine}
use Rattle.chip8_lang.specs.declared.view.Edition.{Edition}
use Rattle.chip8_image.specs.declared.image.labels.TheConstants.{AT_CLEARED, AT_ROW, AT_ROW_BYTE, AT_SHIFT7, AT_ROW_RIGHT, AT_LINE}
use Rattle.chip8_image.specs.declared.parts.Part.TheVariants.{Sprite}
use Rattle.rom_law.specs.Rows.{Since}
use Rattle.rom_rows.specs.Checks.Answer.{InGame, InFont, Nowhere}
use Rattle.rom_rows.specs.SpriteBlocks.{SpriteBlock, SpritePlace}
use Rattle.rom_rows.specs.SpriteBlocks.SpriteBlock.{Clear, Wipe, Wipe3, Wipe6, Wiped, Cleared, Draw, DrawCheck, DrawFound, Place, Edge, Fits, Angle, Begin, Row, RowByte, Shift, Shifted, RowRight, RowStore, Ready, Line, LineLeft, LineRight, Drawn}
use Rattle.rom_rows.specs.SpriteBlocks.SpritePlace.{ClearWait, ClearIdle, DrawWait, DrawIdle}
use Rattle.rom_rows.specs.Table.{Head, At, place_data_of}
use Rattle.rom_rows.specs.Table.Block.{OfSprite}
use Rattle.rom_rows.specs.Table.Place.{AtSprite}
use Rattle.rom_rows.proofs.Addresses.{Follows, blocks_of, places_of, covers}
use Rattle.rom_rows.proofs.Entry.{is_entered, on_3, is_on_3}
use Rattle.rom_rows.specs.Addresses.{AllInBlocks}
use Rattle.rom_rows.specs.Rom.{program_of}
use Rattle.rom_parts.specs.sprite.Code.{sprite_code}
use Rattle.rom_parts.specs.Parts.{PlaceOf, place, rom_of}
use Rattle.rom_parts.proofs.Rom.{quick}
use Rattle.rom_parts.proofs.sprite.Aim.{is_aiming, is_summing, is_resumed}
use Rattle.rom_parts.proofs.sprite.Clear.{is_clearing}
use Rattle.rom_parts.proofs.sprite.Paint.{is_painting}
use Rattle.rom_parts.proofs.sprite.Prepare.{is_preparing}

pub block_follows : (e : Edition) (l : SpriteBlock) (b : Machine) (h : Since) → Head (quick sprite_code e) (OfSprite l) b h
    → Follows (quick sprite_code e) (OfSprite l) b
block_follows e Clear b h o = record { same = _; is = is_entered o.0.0; follows = refl }
block_follows e (Wipe k) b h o = record { same = _; is = is_clearing o.0.0; follows = refl }
block_follows e (Wipe3 k) b h o = record { same = _; is = is_clearing o.0.0; follows = refl }
block_follows e (Wipe6 k) b h o = record { same = _; is = is_clearing o.0.0; follows = refl }
block_follows e (Wiped k) b h o = record { same = _; is = is_clearing o.0.0; follows = refl }
block_follows e Cleared b h o = record { same = on_3 AT_CLEARED b; is = is_on_3 AT_CLEARED b o.0.0.p o.0.0.r3; follows = refl }
block_follows e Draw b h o = record { same = _; is = is_entered o.0.entered; follows = refl }
block_follows e DrawCheck b h o = record { same = _; is = is_entered o.0.0.entered; follows = refl }
block_follows e (DrawFound InGame) b h o = record { same = _; is = is_resumed o.0; follows = refl }
block_follows e (DrawFound InFont) b h o = record { same = _; is = is_resumed o.0; follows = refl }
block_follows e (DrawFound Nowhere) b h o = record { same = _; is = is_resumed o.0; follows = refl }
block_follows e Place b h o = record { same = _; is = is_aiming o.0; follows = refl }
block_follows e Edge b h o = record { same = _; is = is_summing o.0.0 o.0.1; follows = refl }
block_follows e Fits b h o = record { same = _; is = is_summing o.0.0 o.0.1; follows = refl }
block_follows e Angle b h o = record { same = _; is = is_summing o.0.0 o.0.1; follows = refl }
block_follows e Begin b h o = record { same = _; is = is_aiming o.0.0; follows = refl }
block_follows e (Row r) b h o = record { same = on_3 AT_ROW b; is = is_on_3 AT_ROW b o.0.0.p o.0.0.r3; follows = refl }
block_follows e (RowByte r) b h o = record { same = on_3 AT_ROW_BYTE b; is = is_on_3 AT_ROW_BYTE b o.0.0.p o.0.0.r3; follows = refl }
block_follows e (Shift r j) b h o = shift j (is_on_3 (AT_SHIFT7 + 6 * (7 - j)) b o.0.0.p o.0.0.r3) o.0.3 few
  where
    few : j ≤ 7
    few = omega (arith, o.0.4)

    shift : (j : ℕ) → b ≡ on_3 (AT_SHIFT7 + 6 * (7 - j)) b → 0 < j → j ≤ 7 → Follows (quick sprite_code e) (OfSprite (Shift r j)) b
    shift zero is some l = absurd (omega (arith, some))
    shift (suc zero) is some l = record { same = _; is = is; follows = refl }
    shift (suc (suc zero)) is some l = record { same = _; is = is; follows = refl }
    shift (suc (suc (suc zero))) is some l = record { same = _; is = is; follows = refl }
    shift (suc (suc (suc (suc zero)))) is some l = record { same = _; is = is; follows = refl }
    shift (suc (suc (suc (suc (suc zero))))) is some l = record { same = _; is = is; follows = refl }
    shift (suc (suc (suc (suc (suc (suc zero)))))) is some l = record { same = _; is = is; follows = refl }
    shift (suc (suc (suc (suc (suc (suc (suc zero))))))) is some l = record { same = _; is = is; follows = refl }
    shift (suc (suc (suc (suc (suc (suc (suc (suc j)))))))) is some l = absurd (omega (arith, l))
block_follows e (Shifted r) b h o = record { same = _; is = is_preparing o.0.0; follows = refl }
block_follows e (RowRight r) b h o = record { same = on_3 AT_ROW_RIGHT b; is = is_on_3 AT_ROW_RIGHT b o.0.0.p o.0.0.r3; follows = refl }
block_follows e (RowStore r) b h o = record { same = _; is = is_preparing o.0.0; follows = refl }
block_follows e Ready b h o = record { same = _; is = is_preparing o.0; follows = refl }
block_follows e (Line r) b h o = record { same = on_3 AT_LINE b; is = is_on_3 AT_LINE b o.0.0.p o.0.0.r3; follows = refl }
block_follows e (LineLeft r) b h o = record { same = _; is = is_painting o.0.0; follows = refl }
block_follows e (LineRight r) b h o = record { same = _; is = is_painting o.0.0; follows = refl }
block_follows e Drawn b h o = record { same = _; is = is_painting o.0; follows = refl }

pub place_addresses : (e : Edition) (l : PlaceOf Sprite) (b : Machine) (h : Since) → At (program_of e (rom_of sprite_code e)) (place Sprite l) b h
    → at b.regs b.regs.p ≡ (place_data_of (place Sprite l)).address
place_addresses e ClearWait b h o = ap (at b.regs) o.0.p ∙ ap value o.0.r3
place_addresses e ClearIdle b h o = ap (at b.regs) o.0.0.p ∙ ap value o.0.0.r3
place_addresses e DrawWait b h o = ap (at b.regs) o.0.p ∙ ap value o.0.r3
place_addresses e DrawIdle b h o = ap (at b.regs) o.0.0.p ∙ ap value o.0.0.r3

blocks : List SpriteBlock
blocks =
    Clear ∷ Wipe 0 ∷ Wipe3 0 ∷ Wipe6 0 ∷ Wiped 0 ∷ Cleared ∷ Draw ∷ DrawCheck ∷ DrawFound Nowhere ∷ Place ∷ Edge ∷ Fits ∷ Angle ∷ Begin ∷ Row 0 ∷
    RowByte 0 ∷ Shift 0 7 ∷ Shift 0 6 ∷ Shift 0 5 ∷ Shift 0 4 ∷ Shift 0 3 ∷ Shift 0 2 ∷ Shift 0 1 ∷ Shifted 0 ∷ RowRight 0 ∷ RowStore 0 ∷ Ready ∷
    Line 0 ∷ LineLeft 0 ∷ LineRight 0 ∷ Drawn ∷ []

places : List SpritePlace
places =
    ClearWait ∷ DrawWait ∷ []

pub covered : AllInBlocks Sprite
unfolding blocks places
covered = covers Sprite (blocks_of (λ l. OfSprite l) blocks ++ places_of (λ l. AtSprite l) places) refl
