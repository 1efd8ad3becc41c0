-- What holds of the places.
use Rattle.std.proofs.Common.{refl, arith, true, false}
use Rattle.machine.specs.Board.{Machine}
use Rattle.rom_law.specs.Program.{Program}
use Rattle.rom_law.specs.Holding.{places}
use Rattle.rom_law.specs.Rows.{Since, now}
use Rattle.rom_rows.specs.KeyBlocks.KeyPlace.{SkipTest, KeyTest, KeyHeld}
use Rattle.rom_rows.specs.SpriteBlocks.{SpritePlace, woken}
use Rattle.rom_rows.specs.SpriteBlocks.SpritePlace.{ClearWait, ClearIdle, DrawWait, DrawIdle}
use Rattle.rom_rows.specs.Table.{Place, At}
use Rattle.rom_rows.specs.Table.Place.{AtTimer, AtKey, AtSprite}
use Rattle.rom_rows.specs.TimerBlocks.TimerPlace.{RandomCount, GetDelay, SetDelayPut, SetSoundPut}
use Rattle.rom_rows.proofs.Facts.{PlaceFacts, at_passed}
use Rattle.rom_rows.proofs.Haste.{Slow, clearing, drawing, endless, clears_bound, draws_bound, key_bound, skip_most}
use Rattle.rom_rows.proofs.Haste.Haste.{Brief, Slowly}
use Rattle.rom_rows.proofs.Most.{draw_most}
use Rattle.rom_rows.proofs.Screens.{uncleared, undrawn}

-- at a wait
pub wait_slow : (l : SpritePlace) (x : Program) (b : Machine) (h : Since) → At x (AtSprite l) b h → Slow x.edition h 1
wait_slow ClearWait x b h o = clearing x.edition h (clears_bound x.edition (now h) o.0.inside o.0.clears) (omega (arith, o.1))
wait_slow ClearIdle x b h o = clearing x.edition h (clears_bound x.edition (now h) o.0.0.inside o.0.0.clears) (omega (arith, o.1))
wait_slow DrawWait x b h o = drawing x.edition h (draws_bound x (now h) o.0.draws) (omega (arith, o.1, draw_most x.edition (now h)))
wait_slow DrawIdle x b h o = drawing x.edition h (draws_bound x (now h) o.0.0.draws) (omega (arith, o.1, draw_most x.edition (now h)))

-- waiting, none of the screen is cleared and nothing is drawn yet
pub place_facts : (l : Place) → PlaceFacts l
place_facts (AtTimer RandomCount) =
    at_passed (AtTimer RandomCount) refl (λ x b s sets o. o.0.entered.holds) (λ x b h o. Brief (omega (arith, o.1)))
place_facts (AtTimer GetDelay) = at_passed (AtTimer GetDelay) refl (λ x b s sets o. o.0.entered.holds) (λ x b h o. Brief (omega (arith, o.1)))
place_facts (AtTimer SetDelayPut) =
    at_passed (AtTimer SetDelayPut) refl (λ x b s sets o. o.0.entered.holds) (λ x b h o. Brief (omega (arith, o.1)))
place_facts (AtTimer SetSoundPut) =
    at_passed (AtTimer SetSoundPut) refl (λ x b s sets o. o.0.entered.holds) (λ x b h o. Brief (omega (arith, o.1)))
place_facts (AtKey (SkipTest true)) =
    at_passed (AtKey (SkipTest true)) refl (λ x b s sets o. o.0.holds) (λ x b h o. Brief (omega (arith, o.1, skip_most true)))
place_facts (AtKey (SkipTest false)) =
    at_passed (AtKey (SkipTest false)) refl (λ x b s sets o. o.0.holds) (λ x b h o. Brief (omega (arith, o.1, skip_most false)))
place_facts (AtKey (KeyTest turn)) =
    at_passed (AtKey (KeyTest turn)) refl (λ x b s sets o. o.0.waiting.enters.entered.holds)
    (λ x b h o. endless x.edition h (key_bound x.edition (now h) o.0.0.waiting.enters.entered.inside o.0.0.waiting.enters.digit o.0.0.waiting.low) tt)
place_facts (AtKey (KeyHeld turn looks)) =
    at_passed (AtKey (KeyHeld turn looks)) refl (λ x b s sets o. o.0.enters.entered.holds)
    (λ x b h o. endless x.edition h (key_bound x.edition (now h) o.0.0.enters.entered.inside o.0.0.enters.digit o.0.0.low) tt)
place_facts (AtSprite ClearWait) =
    record {
      lies = refl;
      stack = λ x b s sets o. (places b, _, o.holds, refl);
      screen = λ x b s sets o. uncleared x b s o.holds;
      haste = λ x b h o. Slowly (wait_slow ClearWait x b h o);
    }
place_facts (AtSprite ClearIdle) =
    record {
      lies = refl;
      stack = λ x b s sets o. (places (woken b), _, o.0.holds, refl);
      screen = λ x b s sets o. uncleared x (woken b) s o.0.holds;
      haste = λ x b h o. Slowly (wait_slow ClearIdle x b h o);
    }
place_facts (AtSprite DrawWait) =
    record {
      lies = refl;
      stack = λ x b s sets o. (places b, _, o.holds, refl);
      screen = λ x b s sets o. undrawn x b s o.holds;
      haste = λ x b h o. Slowly (wait_slow DrawWait x b h o);
    }
place_facts (AtSprite DrawIdle) =
    record {
      lies = refl;
      stack = λ x b s sets o. (places (woken b), _, o.0.holds, refl);
      screen = λ x b s sets o. undrawn x (woken b) s o.0.holds;
      haste = λ x b h o. Slowly (wait_slow DrawIdle x b h o);
    }
