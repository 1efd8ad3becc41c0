-- What holds of the blocks of what sets I, of FX33, FX55 and FX65, and of the range check.
use Rattle.std.proofs.Common.{◌+◌, ◌%◌, refl, arith}
use Rattle.rom_law.specs.Rows.{now}
use Rattle.rom_law.proofs.Places.{v_byte}
use Rattle.rom_rows.specs.Checks.Answer.{InGame, InFont, Nowhere}
use Rattle.rom_rows.specs.Heads.{high_byte}
use Rattle.rom_rows.specs.MemoryBlocks.{MemoryBlock}
use Rattle.rom_rows.specs.MemoryBlocks.MemoryBlock.{Index, AddIndex, Digit, Check, CheckGame, CheckFont, CheckLow, Answering, Decimal, DecimalFound, Hundreds, HundredsEnd, Tens, TensEnd, Store, StoreFound, StoreByte, StoreEnd, Restore, RestoreFound, RestoreByte, RestoreEnd}
use Rattle.rom_rows.specs.Table.Block.{OfMemory}
use Rattle.rom_rows.proofs.Facts.{BlockFacts, passed, showing}
use Rattle.rom_rows.proofs.Haste.{copying, call_most}
use Rattle.rom_rows.proofs.Haste.Haste.{Brief}
use Rattle.rom_rows.proofs.Most.{outside_most, answer_most, check_most}
use Rattle.rom_rows.proofs.Screens.{same}

pub memory_facts : (l : MemoryBlock) → BlockFacts (OfMemory l)
memory_facts Index = passed (OfMemory Index) refl (λ x b s sets o. o.entered.holds) (λ x b h f o. Brief (omega (arith, o.1)))
memory_facts AddIndex = passed (OfMemory AddIndex) refl (λ x b s sets o. o.0.entered.holds) (λ x b h f o. Brief (omega (arith, o.1)))
memory_facts Digit = passed (OfMemory Digit) refl (λ x b s sets o. o.0.entered.holds) (λ x b h f o. Brief (omega (arith, o.1)))
memory_facts (Check c) = passed (OfMemory (Check c)) refl (λ x b s sets o. o.called.holds) (λ x b h f o. Brief (omega (arith, o.1, call_most c)))
memory_facts (CheckGame c) =
    passed (OfMemory (CheckGame c)) refl (λ x b s sets o. o.0.checking.called.holds) (λ x b h f o. Brief (omega (arith, o.1, call_most c)))
memory_facts (CheckFont c) =
    passed (OfMemory (CheckFont c)) refl (λ x b s sets o. o.0.checking.called.holds) (λ x b h f o. Brief (omega (arith, o.1, call_most c)))
memory_facts (CheckLow c) =
    passed (OfMemory (CheckLow c)) refl (λ x b s sets o. o.0.checking.called.holds) (λ x b h f o. Brief (omega (arith, o.1, call_most c)))
memory_facts (Answering c InGame) =
    passed (OfMemory (Answering c InGame)) refl (λ x b s sets o. o.0.called.holds)
    (λ x b h f o. Brief (omega (arith, o.1, answer_most InGame (now h).i, call_most c)))
memory_facts (Answering c InFont) =
    passed (OfMemory (Answering c InFont)) refl (λ x b s sets o. o.0.called.holds)
    (λ x b h f o. Brief (omega (arith, o.1, answer_most InFont (now h).i, call_most c)))
memory_facts (Answering c Nowhere) =
    passed (OfMemory (Answering c Nowhere)) refl (λ x b s sets o. o.0.called.holds)
    (λ x b h f o. Brief (omega (arith, o.1, answer_most Nowhere (now h).i, call_most c)))
memory_facts Decimal = passed (OfMemory Decimal) refl (λ x b s sets o. o.0.entered.holds) (λ x b h f o. Brief (omega (arith, o.1)))
memory_facts (DecimalFound InGame) = passed (OfMemory (DecimalFound InGame)) refl (λ x b s sets o. o.called.holds) (λ x b h f o. Brief (omega (arith, o.1)))
memory_facts (DecimalFound InFont) = passed (OfMemory (DecimalFound InFont)) refl (λ x b s sets o. o.called.holds) (λ x b h f o. Brief (omega (arith, o.1)))
memory_facts (DecimalFound Nowhere) =
    passed (OfMemory (DecimalFound Nowhere)) refl (λ x b s sets o. o.called.holds) (λ x b h f o. Brief (omega (arith, o.1, outside_most (now h).i)))
memory_facts (Hundreds k) =
    passed (OfMemory (Hundreds k)) refl (λ x b s sets o. o.0.called.holds)
    (λ x b h f o. Brief (omega (arith, o.1, o.0.1, v_byte o.0.0.called.holds f.ram (high_byte (now h) % 16) (omega arith))))
memory_facts HundredsEnd =
    passed (OfMemory HundredsEnd) refl (λ x b s sets o. o.called.holds)
    (λ x b h f o. Brief (omega (arith, o.1, v_byte o.0.called.holds f.ram (high_byte (now h) % 16) (omega arith))))
memory_facts (Tens k) =
    passed (OfMemory (Tens k)) refl (λ x b s sets o. o.0.called.holds)
    (λ x b h f o. Brief (omega (arith, o.1, v_byte o.0.0.called.holds f.ram (high_byte (now h) % 16) (omega arith), o.0.1)))
memory_facts TensEnd =
    passed (OfMemory TensEnd) refl (λ x b s sets o. o.called.holds)
    (λ x b h f o. Brief (omega (arith, o.1, v_byte o.0.called.holds f.ram (high_byte (now h) % 16) (omega arith))))
memory_facts Store = passed (OfMemory Store) refl (λ x b s sets o. o.0.entered.holds) (λ x b h f o. Brief (omega (arith, o.1)))
memory_facts (StoreFound InGame) = passed (OfMemory (StoreFound InGame)) refl (λ x b s sets o. o.called.holds) (λ x b h f o. Brief (omega (arith, o.1)))
memory_facts (StoreFound InFont) = passed (OfMemory (StoreFound InFont)) refl (λ x b s sets o. o.called.holds) (λ x b h f o. Brief (omega (arith, o.1)))
memory_facts (StoreFound Nowhere) =
    passed (OfMemory (StoreFound Nowhere)) refl (λ x b s sets o. o.called.holds) (λ x b h f o. Brief (omega (arith, o.1, outside_most (now h).i)))
memory_facts (StoreByte k) =
    showing (OfMemory (StoreByte k)) refl (λ x b s sets o. (_, o.0.holds)) (λ n x b s sets o. same x b s o.0.holds (λ px py l m. refl))
    (λ x b h f o. copying x.edition h (rw (o.0.0.inside, o.0.0.calls.0, o.0.0.calls.1, o.0.2) refl) (omega (arith, o.1, o.0.1.left)))
memory_facts StoreEnd =
    showing (OfMemory StoreEnd) refl (λ x b s sets o. (_, o.0.holds)) (λ n x b s sets o. same x b s o.0.holds (λ px py l m. refl))
    (λ x b h f o. copying x.edition h (rw (o.0.0.inside, o.0.0.calls.0, o.0.0.calls.1, o.0.1) refl) (omega (arith, o.1)))
memory_facts Restore = passed (OfMemory Restore) refl (λ x b s sets o. o.0.entered.holds) (λ x b h f o. Brief (omega (arith, o.1)))
memory_facts (RestoreFound InGame) = passed (OfMemory (RestoreFound InGame)) refl (λ x b s sets o. o.called.holds) (λ x b h f o. Brief (omega (arith, o.1)))
memory_facts (RestoreFound InFont) = passed (OfMemory (RestoreFound InFont)) refl (λ x b s sets o. o.called.holds) (λ x b h f o. Brief (omega (arith, o.1)))
memory_facts (RestoreFound Nowhere) =
    passed (OfMemory (RestoreFound Nowhere)) refl (λ x b s sets o. o.called.holds) (λ x b h f o. Brief (omega (arith, o.1, outside_most (now h).i)))
memory_facts (RestoreByte k) =
    showing (OfMemory (RestoreByte k)) refl (λ x b s sets o. (_, o.0.holds)) (λ n x b s sets o. same x b s o.0.holds (λ px py l m. refl))
    (λ x b h f o. copying x.edition h (rw (o.0.0.inside, o.0.0.calls.0, o.0.0.calls.1, o.0.2) refl)
    (omega (arith, o.1, check_most x.edition (now h) (high_byte (now h) % 16 + 1), o.0.1.left)))
memory_facts RestoreEnd =
    showing (OfMemory RestoreEnd) refl (λ x b s sets o. (_, o.0.holds)) (λ n x b s sets o. same x b s o.0.holds (λ px py l m. refl))
    (λ x b h f o. copying x.edition h (rw (o.0.0.inside, o.0.0.calls.0, o.0.0.calls.1, o.0.1) refl)
    (omega (arith, o.1, check_most x.edition (now h) (high_byte (now h) % 16 + 1))))
