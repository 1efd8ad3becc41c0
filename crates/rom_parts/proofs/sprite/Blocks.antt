-- What the blocks and places of 00E0 and DXYN come to.
use Rattle.std.proofs.Common.{◌≡◌, ◌⊎◌, inl, inr, true, false}
use Rattle.machine.specs.Board.{Machine}
use Rattle.machine.specs.Ranges.{FitsMachine}
use Rattle.machine.specs.Schedule.{Tick}
use Rattle.chip8_lang.specs.declared.view.Edition.{Edition}
use Rattle.chip8_image.specs.declared.parts.Part.TheVariants.{Sprite}
use Rattle.rom_law.specs.Program.{code}
use Rattle.rom_law.specs.Rows.{Since, Starts, after_tick}
use Rattle.rom_law.proofs.Kept.{RunsBlock, RunsPlace}
use Rattle.rom_rows.specs.SpriteBlocks.{SpriteBlock, SpritePlace, IsWaited, IsEarly}
use Rattle.rom_rows.specs.SpriteBlocks.SpriteBlock.{Clear, Wipe, Wipe3, Wipe6, Wiped, Cleared, Draw, DrawCheck, DrawFound, Place, Edge, Fits, Angle, Begin, Row, RowByte, Shift, Shifted, RowRight, RowStore, Ready, Line, LineLeft, LineRight, Drawn}
use Rattle.rom_rows.specs.SpriteBlocks.SpritePlace.{ClearWait, ClearIdle, DrawWait, DrawIdle}
use Rattle.rom_rows.specs.Table.{Head, At, pieces, waited_pieces, calm_pieces}
use Rattle.rom_rows.specs.Table.Block.{OfSprite}
use Rattle.rom_rows.specs.Table.Place.{AtSprite}
use Rattle.rom_rows.proofs.Calm.{comes_calm, holds_calm}
use Rattle.rom_rows.proofs.Waited.{comes_joined}
use Rattle.rom_parts.specs.sprite.Code.{sprite_code}
use Rattle.rom_parts.proofs.Parts.{Comes}
use Rattle.rom_parts.proofs.Rom.{both, quick}
use Rattle.rom_parts.proofs.sprite.Aim.{draw_comes, draw_check_comes, draw_found_comes, place_comes, edge_comes, fits_comes, angle_comes, begin_comes}
use Rattle.rom_parts.proofs.sprite.Clear.{clear_comes, clear_wait_holds, clear_idle_holds, clear_wakes, wipe_comes, wipe3_comes, wipe6_comes, wiped_comes, cleared_comes}
use Rattle.rom_parts.proofs.sprite.Paint.{ready_comes, draw_wait_holds, draw_idle_holds, draw_wakes, line_comes, line_left_comes, line_right_comes, drawn_comes}
use Rattle.rom_parts.proofs.sprite.Prepare.{row_comes, row_byte_comes, shift_comes, shifted_comes, row_right_comes, row_store_comes}

-- before a wait
pub sprite_block : (e : Edition) (l : SpriteBlock) → IsEarly l → (b : Machine) (h : Since) → FitsMachine b → Head (quick sprite_code e) (OfSprite l) b h
    → RunsBlock (quick sprite_code e) (calm_pieces (quick sprite_code e)) (OfSprite l) b h
sprite_block e Clear w b h f o = clear_comes e b h f o.0.0 o.0.1 o.1
sprite_block e Draw w b h f o = draw_comes e b h f o.0 o.1
sprite_block e DrawCheck w b h f o = draw_check_comes e b h f o.0.0 o.0.1 o.0.2 o.1
sprite_block e (DrawFound answer) w b h f o = draw_found_comes e b h f answer o.0 o.1
sprite_block e Place w b h f o = place_comes e b h f o.0 o.1
sprite_block e Edge w b h f o = edge_comes e b h f o.0.0 o.0.1 o.0.2 o.1
sprite_block e Fits w b h f o = fits_comes e b h f o.0.0 o.0.1 o.1
sprite_block e Angle w b h f o = angle_comes e b h f o.0.0 o.0.1 o.0.2 o.1
sprite_block e Begin w b h f o = begin_comes e b h f o.0.0 o.0.1 o.0.2 o.1
sprite_block e (Row r) w b h f o = row_comes e b h f r o.0.0 o.0.1 o.1
sprite_block e (RowByte r) w b h f o = row_byte_comes e b h f r o.0.0 o.0.1 o.1
sprite_block e (Shift r j) w b h f o = shift_comes e b h f r j o.0.0 o.0.1 o.0.2 o.0.3 o.0.4 o.1
sprite_block e (Shifted r) w b h f o = shifted_comes e b h f r o.0.0 o.0.1 o.0.2 o.1
sprite_block e (RowRight r) w b h f o = row_right_comes e b h f r o.0.0 o.0.1 o.0.2 o.0.3 o.1
sprite_block e (RowStore r) w b h f o = row_store_comes e b h f r o.0.0 o.0.1 o.0.2 o.1
sprite_block e Ready w b h f o = ready_comes e b h f o.0 o.1
sprite_block e _ w b h f o = absurd w

-- behind a wait main code stays behind it
pub sprite_waited : (e : Edition) (l : SpriteBlock) (w : IsWaited l) (b : Machine) (h : Since) → FitsMachine b → Head (quick sprite_code e) (OfSprite l) b h
    → RunsBlock (quick sprite_code e) (waited_pieces (quick sprite_code e)) (l, w) b h
sprite_waited e (Wipe k) w b h f o = wipe_comes e b h f k o.0.0 o.0.1 o.1.0 o.1.1
sprite_waited e (Wipe3 k) w b h f o = wipe3_comes e b h f k o.0.0 o.0.1 o.0.2 o.1.0 o.1.1
sprite_waited e (Wipe6 k) w b h f o = wipe6_comes e b h f k o.0.0 o.0.1 o.0.2 o.1.0 o.1.1
sprite_waited e (Wiped k) w b h f o = wiped_comes e b h f k o.0.0 o.0.1 o.1.0 o.1.1
sprite_waited e Cleared w b h f o = cleared_comes e b h f o.0.0 o.0.1 o.1.0 o.1.1
sprite_waited e (Line r) w b h f o = line_comes e b h f r o.0.0 o.0.1 o.1.0 o.1.1
sprite_waited e (LineLeft r) w b h f o = line_left_comes e b h f r o.0.1 o.0.0 o.1.0 o.1.1
sprite_waited e (LineRight r) w b h f o = line_right_comes e b h f r o.0.1 o.0.0 o.1.0 o.1.1
sprite_waited e Drawn w b h f o = drawn_comes e b h f o.0 o.1.0 o.1.1
sprite_waited e _ w b h f o = absurd w

-- before it and behind it
which : (l : SpriteBlock) → IsEarly l ⊎ IsWaited l
which (Wipe k) = inr tt
which (Wipe3 k) = inr tt
which (Wipe6 k) = inr tt
which (Wiped k) = inr tt
which Cleared = inr tt
which (Line r) = inr tt
which (LineLeft r) = inr tt
which (LineRight r) = inr tt
which Drawn = inr tt
which _ = inl tt

pub sprite_any : (e : Edition) (l : SpriteBlock) (b : Machine) (h : Since) → FitsMachine b → Head (quick sprite_code e) (OfSprite l) b h
    → RunsBlock (quick sprite_code e) (pieces (quick sprite_code e)) (OfSprite l) b h
sprite_any e l b h f o = go (which l)
  where
    go : IsEarly l ⊎ IsWaited l → RunsBlock (quick sprite_code e) (pieces (quick sprite_code e)) (OfSprite l) b h
    go (inl w) = comes_calm (sprite_block e l w b h f o)
    go (inr w) = comes_joined (sprite_waited e l w b h f o)

pub sprite_place : (e : Edition) (l : SpritePlace) (b : Machine) (h : Since) → FitsMachine b → At (quick sprite_code e) (AtSprite l) b h
    → RunsPlace (quick sprite_code e) (pieces (quick sprite_code e)) (AtSprite l) b h
sprite_place e ClearWait b h f o = holds_calm (clear_wait_holds e b h f o.0 o o.1)
sprite_place e ClearIdle b h f o = clear_idle_holds e b h f o.0.0 o.0.1 o.1
sprite_place e DrawWait b h f o = holds_calm (draw_wait_holds e b h f o.0 o o.1)
sprite_place e DrawIdle b h f o = draw_idle_holds e b h f o.0.0 o.0.1 o.1

-- where main code runs
pub sprite_place_early : (e : Edition) (l : SpritePlace) (b : Machine) (h : Since) → FitsMachine b → b.regs.idle ≡ false
    → At (quick sprite_code e) (AtSprite l) b h → RunsPlace (quick sprite_code e) (calm_pieces (quick sprite_code e)) (AtSprite l) b h
sprite_place_early e ClearWait b h f i o = clear_wait_holds e b h f o.0 o o.1
sprite_place_early e ClearIdle b h f i o = cc (o.0.1, i)
sprite_place_early e DrawWait b h f i o = draw_wait_holds e b h f o.0 o o.1
sprite_place_early e DrawIdle b h f i o = cc (o.0.1, i)

-- a tick that ends a wait comes behind it
pub sprite_wakes : (e : Edition) (l : SpritePlace) (b : Machine) (h : Since) → FitsMachine b → b.regs.idle ≡ true → At (quick sprite_code e) (AtSprite l) b h
    → (c : Machine) → Tick (code (quick sprite_code e)).low b c → Starts (waited_pieces (quick sprite_code e)) c (after_tick h)
sprite_wakes e ClearWait b h f i o c k = cc (o.0.holds.awake, i)
sprite_wakes e ClearIdle b h f i o c k = clear_wakes e b h f o.0.0 o.1 c k
sprite_wakes e DrawWait b h f i o c k = cc (o.0.holds.awake, i)
sprite_wakes e DrawIdle b h f i o c k = draw_wakes e b h f o.0.0 o.1 c k

pub comes : Comes Sprite (both sprite_code)
comes = record { early = sprite_block; any = sprite_any; early_place = sprite_place_early; any_place = sprite_place }
