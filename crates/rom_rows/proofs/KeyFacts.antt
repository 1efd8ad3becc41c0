-- What holds of the blocks of EX9E, EXA1 and FX0A.
use Rattle.std.proofs.Common.{refl, arith, true, false}
use Rattle.rom_law.specs.Rows.{now}
use Rattle.rom_rows.specs.KeyBlocks.{KeyBlock}
use Rattle.rom_rows.specs.KeyBlocks.KeyBlock.{KeySkip, KeySkipUp, SkipLatch, NoSkip, Skip, WaitKey, KeyNext, KeyCount, KeyFreed}
use Rattle.rom_rows.specs.Table.Block.{OfKey}
use Rattle.rom_rows.proofs.Facts.{BlockFacts, passed}
use Rattle.rom_rows.proofs.Haste.{endless, key_bound, skip_most}
use Rattle.rom_rows.proofs.Haste.Haste.{Brief}

pub key_facts : (l : KeyBlock) → BlockFacts (OfKey l)
key_facts KeySkip = passed (OfKey KeySkip) refl (λ x b s sets o. o.entered.holds) (λ x b h f o. Brief (omega (arith, o.1)))
key_facts KeySkipUp = passed (OfKey KeySkipUp) refl (λ x b s sets o. o.0.entered.holds) (λ x b h f o. Brief (omega (arith, o.1)))
key_facts (SkipLatch true) = passed (OfKey (SkipLatch true)) refl (λ x b s sets o. o.0.entered.holds) (λ x b h f o. Brief (omega (arith, o.1, skip_most true)))
key_facts (SkipLatch false) =
    passed (OfKey (SkipLatch false)) refl (λ x b s sets o. o.0.entered.holds) (λ x b h f o. Brief (omega (arith, o.1, skip_most false)))
key_facts (NoSkip true) = passed (OfKey (NoSkip true)) refl (λ x b s sets o. o.0.holds) (λ x b h f o. Brief (omega (arith, o.1, skip_most true)))
key_facts (NoSkip false) = passed (OfKey (NoSkip false)) refl (λ x b s sets o. o.0.holds) (λ x b h f o. Brief (omega (arith, o.1, skip_most false)))
key_facts (Skip true) = passed (OfKey (Skip true)) refl (λ x b s sets o. o.0.holds) (λ x b h f o. Brief (omega (arith, o.1, skip_most true)))
key_facts (Skip false) = passed (OfKey (Skip false)) refl (λ x b s sets o. o.0.holds) (λ x b h f o. Brief (omega (arith, o.1, skip_most false)))
key_facts WaitKey = passed (OfKey WaitKey) refl (λ x b s sets o. o.0.entered.holds) (λ x b h f o. Brief (omega (arith, o.1)))
key_facts (KeyNext turn) =
    passed (OfKey (KeyNext turn)) refl (λ x b s sets o. o.0.waiting.enters.entered.holds)
    (λ x b h f o. endless x.edition h (key_bound x.edition (now h) o.0.0.waiting.enters.entered.inside o.0.0.waiting.enters.digit o.0.0.waiting.low) tt)
key_facts (KeyCount turn) =
    passed (OfKey (KeyCount turn)) refl (λ x b s sets o. o.0.waiting.enters.entered.holds)
    (λ x b h f o. endless x.edition h (key_bound x.edition (now h) o.0.0.waiting.enters.entered.inside o.0.0.waiting.enters.digit o.0.0.waiting.low) tt)
key_facts (KeyFreed turn looks) =
    passed (OfKey (KeyFreed turn looks)) refl (λ x b s sets o. o.0.enters.entered.holds)
    (λ x b h f o. endless x.edition h (key_bound x.edition (now h) o.0.0.enters.entered.inside o.0.0.enters.digit o.0.0.low) tt)
