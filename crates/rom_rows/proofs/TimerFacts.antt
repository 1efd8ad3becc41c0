-- What holds of the blocks of CXKK, FX07, FX15 and FX18.
use Rattle.std.proofs.Common.{refl, arith}
use Rattle.rom_rows.specs.TimerBlocks.{TimerBlock}
use Rattle.rom_rows.specs.TimerBlocks.TimerBlock.{Random, RandomMix, GetDelayPut, SetDelay, SetDelayEnd, SetSound, SetSoundEnd}
use Rattle.rom_rows.specs.Table.Block.{OfTimer}
use Rattle.rom_rows.proofs.Facts.{BlockFacts, passed, showing}
use Rattle.rom_rows.proofs.Haste.Haste.{Brief}
use Rattle.rom_rows.proofs.Screens.{same}

pub timer_facts : (l : TimerBlock) → BlockFacts (OfTimer l)
timer_facts Random = passed (OfTimer Random) refl (λ x b s sets o. o.entered.holds) (λ x b h f o. Brief (omega (arith, o.1)))
timer_facts RandomMix = passed (OfTimer RandomMix) refl (λ x b s sets o. o.0.entered.holds) (λ x b h f o. Brief (omega (arith, o.1)))
timer_facts GetDelayPut = passed (OfTimer GetDelayPut) refl (λ x b s sets o. o.0.entered.holds) (λ x b h f o. Brief (omega (arith, o.1)))
timer_facts SetDelay = passed (OfTimer SetDelay) refl (λ x b s sets o. o.0.entered.holds) (λ x b h f o. Brief (omega (arith, o.1)))
timer_facts SetDelayEnd =
    showing (OfTimer SetDelayEnd) refl (λ x b s sets o. (_, o.done.holds)) (λ n x b s sets o. same x b s o.done.holds (λ px py l m. rw (o.digit, o.low) refl))
    (λ x b h f o. Brief (omega (arith, o.1)))
timer_facts SetSound = passed (OfTimer SetSound) refl (λ x b s sets o. o.0.entered.holds) (λ x b h f o. Brief (omega (arith, o.1)))
timer_facts SetSoundEnd =
    showing (OfTimer SetSoundEnd) refl (λ x b s sets o. (_, o.done.holds)) (λ n x b s sets o. same x b s o.done.holds (λ px py l m. rw (o.digit, o.low) refl))
    (λ x b h f o. Brief (omega (arith, o.1)))
