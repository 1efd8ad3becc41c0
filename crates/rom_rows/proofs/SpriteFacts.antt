-- What holds of the blocks of 00E0 and DXYN.
use Rattle.std.proofs.Common.{inl, refl, arith, true}
use Rattle.std.proofs.lemmas.Bool.{agree_below_at}
use Rattle.chip8_image.specs.declared.parts.Part.TheVariants.{Sprite as IsSprite}
use Rattle.chip8_lang.specs.Step.{next}
use Rattle.machine.specs.Board.{Machine}
use Rattle.rom_law.specs.Program.{Program}
use Rattle.rom_law.specs.Rows.{Since, now}
use Rattle.rom_rows.specs.Blocks.{addresses}
use Rattle.rom_rows.specs.Checks.Answer.{InGame, InFont, Nowhere}
use Rattle.rom_rows.specs.SpriteBlocks.{SpriteBlock, IsWaited, height, sprite_data}
use Rattle.rom_rows.specs.SpriteBlocks.SpriteBlock.{Clear, Wipe, Wipe3, Wipe6, Wiped, Cleared, Draw, DrawCheck, DrawFound, Place, Edge, Fits, Angle, Begin, Row, RowByte, Shift, Shifted, RowRight, RowStore, Ready, Line, LineLeft, LineRight, Drawn}
use Rattle.rom_rows.specs.Table.{Head, moves}
use Rattle.rom_rows.specs.Table.Block.{OfSprite}
use Rattle.rom_rows.proofs.Facts.{BlockFacts, lie_in, passed, showing}
use Rattle.rom_rows.proofs.Haste.{Slow, clearing, drawing, clears_bound, draws_bound, few}
use Rattle.rom_rows.proofs.Haste.Haste.{Brief, Slowly}
use Rattle.rom_rows.proofs.Most.{outside_most, aim_most, edge_most, rows_most, draw_most}
use Rattle.rom_rows.proofs.Screens.{past}
use Rattle.rom_law.proofs.Places.{few_rows}

-- behind a wait
pub waited_slow : (l : SpriteBlock) → IsWaited l → (x : Program) (b : Machine) (h : Since) → Head x (OfSprite l) b h → Slow x.edition h (moves (OfSprite l))
waited_slow (Wipe k) w x b h o =
    clearing x.edition h (clears_bound x.edition (now h) o.0.0.inside o.0.0.clears) (omega (arith, o.1.0, o.0.1, few_rows x.edition))
waited_slow (Wipe3 k) w x b h o =
    clearing x.edition h (clears_bound x.edition (now h) o.0.0.inside o.0.0.clears) (omega (arith, o.1.0, o.0.1, few_rows x.edition))
waited_slow (Wipe6 k) w x b h o =
    clearing x.edition h (clears_bound x.edition (now h) o.0.0.inside o.0.0.clears) (omega (arith, o.1.0, o.0.1, few_rows x.edition))
waited_slow (Wiped k) w x b h o =
    clearing x.edition h (clears_bound x.edition (now h) o.0.0.inside o.0.0.clears) (omega (arith, o.1.0, o.0.1, few_rows x.edition))
waited_slow Cleared w x b h o = clearing x.edition h (clears_bound x.edition (now h) o.0.0.inside o.0.1) (omega (arith, o.1.0, few_rows x.edition))
waited_slow (Line r) w x b h o =
    drawing x.edition h (draws_bound x (now h) o.0.0.draws) (omega (arith, o.1.0, draw_most x.edition (now h), o.0.1, few x.edition (now h)))
waited_slow (LineLeft r) w x b h o =
    drawing x.edition h (draws_bound x (now h) o.0.0.draws) (omega (arith, o.1.0, draw_most x.edition (now h), o.0.1, few x.edition (now h)))
waited_slow (LineRight r) w x b h o =
    drawing x.edition h (draws_bound x (now h) o.0.0.draws) (omega (arith, o.1.0, draw_most x.edition (now h), o.0.1, few x.edition (now h)))
waited_slow Drawn w x b h o =
    drawing x.edition h (draws_bound x (now h) o.0.draws) (omega (arith, o.1.0, few x.edition (now h), draw_most x.edition (now h)))
waited_slow _ w x b h o = absurd w

pub sprite_facts : (l : SpriteBlock) → BlockFacts (OfSprite l)
sprite_facts Clear = passed (OfSprite Clear) refl (λ x b s sets o. o.0.holds) (λ x b h f o. Brief (omega (arith, o.1)))
sprite_facts (Wipe k) =
    showing (OfSprite (Wipe k)) refl (λ x b s sets o. (_, o.0.holds)) (λ n x b s sets o. absurd n) (λ x b h f o. Slowly (waited_slow (Wipe k) tt x b h o))
sprite_facts (Wipe3 k) =
    showing (OfSprite (Wipe3 k)) refl (λ x b s sets o. (_, o.0.holds)) (λ n x b s sets o. absurd n) (λ x b h f o. Slowly (waited_slow (Wipe3 k) tt x b h o))
sprite_facts (Wipe6 k) =
    showing (OfSprite (Wipe6 k)) refl (λ x b s sets o. (_, o.0.holds)) (λ n x b s sets o. absurd n) (λ x b h f o. Slowly (waited_slow (Wipe6 k) tt x b h o))
sprite_facts (Wiped k) =
    showing (OfSprite (Wiped k)) refl (λ x b s sets o. (_, o.0.holds)) (λ n x b s sets o. absurd n) (λ x b h f o. Slowly (waited_slow (Wiped k) tt x b h o))
sprite_facts Cleared =
    showing (OfSprite Cleared) refl (λ x b s sets o. (_, o.0.holds)) (λ n x b s sets o. absurd n) (λ x b h f o. Slowly (waited_slow Cleared tt x b h o))
sprite_facts Draw = passed (OfSprite Draw) refl (λ x b s sets o. o.entered.holds) (λ x b h f o. Brief (omega (arith, o.1)))
sprite_facts DrawCheck = passed (OfSprite DrawCheck) refl (λ x b s sets o. o.0.entered.holds) (λ x b h f o. Brief (omega (arith, o.1)))
sprite_facts (DrawFound InGame) = passed (OfSprite (DrawFound InGame)) refl (λ x b s sets o. o.called.holds) (λ x b h f o. Brief (omega (arith, o.1)))
sprite_facts (DrawFound InFont) = passed (OfSprite (DrawFound InFont)) refl (λ x b s sets o. o.called.holds) (λ x b h f o. Brief (omega (arith, o.1)))
sprite_facts (DrawFound Nowhere) =
    passed (OfSprite (DrawFound Nowhere)) refl (λ x b s sets o. o.called.holds) (λ x b h f o. Brief (omega (arith, o.1, outside_most (now h).i)))
sprite_facts Place =
    passed (OfSprite Place) refl (λ x b s sets o. o.holds) (λ x b h f o. Brief (omega (arith, o.1, aim_most x.edition (now h), edge_most x.edition (now h))))
sprite_facts Edge =
    passed (OfSprite Edge) refl (λ x b s sets o. o.0.holds) (λ x b h f o. Brief (omega (arith, o.1, aim_most x.edition (now h), edge_most x.edition (now h))))
sprite_facts Fits =
    passed (OfSprite Fits) refl (λ x b s sets o. o.0.holds) (λ x b h f o. Brief (omega (arith, o.1, aim_most x.edition (now h), edge_most x.edition (now h))))
sprite_facts Angle =
    passed (OfSprite Angle) refl (λ x b s sets o. o.0.holds) (λ x b h f o. Brief (omega (arith, o.1, aim_most x.edition (now h), edge_most x.edition (now h))))
sprite_facts Begin =
    passed (OfSprite Begin) refl (λ x b s sets o. o.0.holds) (λ x b h f o. Brief (omega (arith, o.1, aim_most x.edition (now h), edge_most x.edition (now h))))
sprite_facts (Row r) =
    passed (OfSprite (Row r)) refl (λ x b s sets o. o.0.holds)
    (λ x b h f o. Slowly (drawing x.edition h (draws_bound x (now h) o.0.0.draws)
    (omega (arith, o.1, aim_most x.edition (now h), edge_most x.edition (now h), rows_most (now h) r, o.0.1, few x.edition (now h)))))
sprite_facts (RowByte r) =
    passed (OfSprite (RowByte r)) refl (λ x b s sets o. o.0.holds)
    (λ x b h f o. Slowly (drawing x.edition h (draws_bound x (now h) o.0.0.draws)
    (omega (arith, o.1, aim_most x.edition (now h), edge_most x.edition (now h), rows_most (now h) r, o.0.1, few x.edition (now h)))))
sprite_facts (Shift r j) =
    record {
      lie = λ x b s sets o. agree_below_at (λ i. lie_in IsSprite (addresses (sprite_data (Shift r i)))) (λ k. true) 8 j refl (omega (arith, o.4));
      short = λ x b s sets o. inl (omega arith);
      holds = λ x b s sets o. (next s, o.0.holds);
      screen = λ n x b s sets o. past x b s o.0.holds;
      haste =
          λ x b h f o. Slowly (drawing x.edition h (draws_bound x (now h) o.0.0.draws)
          (omega (arith, o.1, aim_most x.edition (now h), edge_most x.edition (now h), rows_most (now h) r, o.0.1, few x.edition (now h))));
    }
sprite_facts (Shifted r) =
    passed (OfSprite (Shifted r)) refl (λ x b s sets o. o.0.holds)
    (λ x b h f o. Slowly (drawing x.edition h (draws_bound x (now h) o.0.0.draws)
    (omega (arith, o.1, aim_most x.edition (now h), edge_most x.edition (now h), rows_most (now h) r, o.0.1, few x.edition (now h)))))
sprite_facts (RowRight r) =
    passed (OfSprite (RowRight r)) refl (λ x b s sets o. o.0.holds)
    (λ x b h f o. Slowly (drawing x.edition h (draws_bound x (now h) o.0.0.draws)
    (omega (arith, o.1, aim_most x.edition (now h), edge_most x.edition (now h), rows_most (now h) r, o.0.1, few x.edition (now h)))))
sprite_facts (RowStore r) =
    passed (OfSprite (RowStore r)) refl (λ x b s sets o. o.0.holds)
    (λ x b h f o. Slowly (drawing x.edition h (draws_bound x (now h) o.0.0.draws)
    (omega (arith, o.1, aim_most x.edition (now h), edge_most x.edition (now h), rows_most (now h) r, o.0.1, few x.edition (now h)))))
sprite_facts Ready =
    passed (OfSprite Ready) refl (λ x b s sets o. o.holds)
    (λ x b h f o. Slowly (drawing x.edition h (draws_bound x (now h) o.0.draws)
    (omega (arith, o.1, aim_most x.edition (now h), edge_most x.edition (now h), rows_most (now h) (height x.edition (now h)), few x.edition (now h)))))
sprite_facts (Line r) =
    showing (OfSprite (Line r)) refl (λ x b s sets o. (_, o.0.holds)) (λ n x b s sets o. absurd n) (λ x b h f o. Slowly (waited_slow (Line r) tt x b h o))
sprite_facts (LineLeft r) =
    showing (OfSprite (LineLeft r)) refl (λ x b s sets o. (_, o.0.holds)) (λ n x b s sets o. absurd n)
    (λ x b h f o. Slowly (waited_slow (LineLeft r) tt x b h o))
sprite_facts (LineRight r) =
    showing (OfSprite (LineRight r)) refl (λ x b s sets o. (_, o.0.holds)) (λ n x b s sets o. absurd n)
    (λ x b h f o. Slowly (waited_slow (LineRight r) tt x b h o))
sprite_facts Drawn =
    showing (OfSprite Drawn) refl (λ x b s sets o. (_, o.holds)) (λ n x b s sets o. absurd n) (λ x b h f o. Slowly (waited_slow Drawn tt x b h o))
