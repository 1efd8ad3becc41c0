-- What holds of the blocks of 0MMM, of jumps and calls, of loads, of skips and of 8XYN.
use Rattle.std.proofs.Common.{ℕ, ◌<◌, ◌≤◌, inl, refl, arith, true}
use Rattle.std.specs.Prelude.{nat_le}
use Rattle.std.proofs.lemmas.Bool.{agree_below_at, leb-true}
use Rattle.chip8_image.specs.declared.parts.Part.TheVariants.{Arith as IsArith}
use Rattle.chip8_lang.specs.Step.{next}
use Rattle.rom_law.specs.Rows.{now}
use Rattle.rom_rows.specs.Blocks.{addresses}
use Rattle.rom_rows.specs.ArithBlocks.{ArithBlock, arith_data}
use Rattle.rom_rows.specs.ArithBlocks.ArithBlock.{System, SystemLow, SystemBack, MachineCode, Return, ReturnTake, Empty, JumpTo, Call, CallPut, Full, JumpPlus, Load, Add, SkipEq, SkipNe, SkipSame, SameTest, SkipDiffer, DifferTest, NoSkip, Skip, Unknown81, Arith, Operation, Flag, Unknown82}
use Rattle.rom_rows.specs.Table.{moves}
use Rattle.rom_rows.specs.Table.Block.{OfArith}
use Rattle.rom_rows.proofs.Facts.{BlockFacts, lie_in, passed}
use Rattle.rom_rows.proofs.Haste.Haste.{Brief}
use Rattle.rom_rows.proofs.Most.{stop_most, shared_most}
use Rattle.rom_rows.proofs.Screens.{past}

operation_short : (n : ℕ) → n < 16 → moves (OfArith (Operation n)) ≤ 22
operation_short n l = leb-true _ _ (agree_below_at (λ k. nat_le (moves (OfArith (Operation k))) 22) (λ k. true) 16 n refl l)

pub arith_facts : (l : ArithBlock) → BlockFacts (OfArith l)
arith_facts System = passed (OfArith System) refl (λ x b s sets o. o.entered.holds) (λ x b h f o. Brief (omega (arith, o.1)))
arith_facts SystemLow = passed (OfArith SystemLow) refl (λ x b s sets o. o.0.holds) (λ x b h f o. Brief (omega (arith, o.1)))
arith_facts SystemBack = passed (OfArith SystemBack) refl (λ x b s sets o. o.0.holds) (λ x b h f o. Brief (omega (arith, o.1)))
arith_facts MachineCode = passed (OfArith MachineCode) refl (λ x b s sets o. o.0.holds) (λ x b h f o. Brief (omega (arith, o.1, stop_most x.edition (now h))))
arith_facts Return = passed (OfArith Return) refl (λ x b s sets o. o.0.holds) (λ x b h f o. Brief (omega (arith, o.1)))
arith_facts ReturnTake = passed (OfArith ReturnTake) refl (λ x b s sets o. o.0.holds) (λ x b h f o. Brief (omega (arith, o.1)))
arith_facts Empty = passed (OfArith Empty) refl (λ x b s sets o. o.0.holds) (λ x b h f o. Brief (omega (arith, o.1, stop_most x.edition (now h))))
arith_facts JumpTo = passed (OfArith JumpTo) refl (λ x b s sets o. o.entered.holds) (λ x b h f o. Brief (omega (arith, o.1)))
arith_facts Call = passed (OfArith Call) refl (λ x b s sets o. o.entered.holds) (λ x b h f o. Brief (omega (arith, o.1)))
arith_facts CallPut = passed (OfArith CallPut) refl (λ x b s sets o. o.0.entered.holds) (λ x b h f o. Brief (omega (arith, o.1)))
arith_facts Full = passed (OfArith Full) refl (λ x b s sets o. o.0.holds) (λ x b h f o. Brief (omega (arith, o.1, stop_most x.edition (now h))))
arith_facts JumpPlus = passed (OfArith JumpPlus) refl (λ x b s sets o. o.entered.holds) (λ x b h f o. Brief (omega (arith, o.1)))
arith_facts Load = passed (OfArith Load) refl (λ x b s sets o. o.entered.holds) (λ x b h f o. Brief (omega (arith, o.1)))
arith_facts Add = passed (OfArith Add) refl (λ x b s sets o. o.entered.holds) (λ x b h f o. Brief (omega (arith, o.1)))
arith_facts SkipEq = passed (OfArith SkipEq) refl (λ x b s sets o. o.entered.holds) (λ x b h f o. Brief (omega (arith, o.1)))
arith_facts SkipNe = passed (OfArith SkipNe) refl (λ x b s sets o. o.entered.holds) (λ x b h f o. Brief (omega (arith, o.1)))
arith_facts SkipSame = passed (OfArith SkipSame) refl (λ x b s sets o. o.entered.holds) (λ x b h f o. Brief (omega (arith, o.1)))
arith_facts SameTest = passed (OfArith SameTest) refl (λ x b s sets o. o.0.entered.holds) (λ x b h f o. Brief (omega (arith, o.1)))
arith_facts SkipDiffer = passed (OfArith SkipDiffer) refl (λ x b s sets o. o.entered.holds) (λ x b h f o. Brief (omega (arith, o.1)))
arith_facts DifferTest = passed (OfArith DifferTest) refl (λ x b s sets o. o.0.entered.holds) (λ x b h f o. Brief (omega (arith, o.1)))
arith_facts (NoSkip i) =
    record {
      lie = λ x b s sets o. agree_below_at (λ j. lie_in IsArith (addresses (arith_data (NoSkip j)))) (λ j. true) 4 i refl o.1;
      short = λ x b s sets o. inl (omega arith);
      holds = λ x b s sets o. (next s, o.0.entered.holds);
      screen = λ n x b s sets o. past x b s o.0.entered.holds;
      haste = λ x b h f o. Brief (omega (arith, o.1, shared_most x.edition _ (now h) o.0.0.shared));
    }
arith_facts Skip =
    passed (OfArith Skip) refl (λ x b s sets o. o.entered.holds) (λ x b h f o. Brief (omega (arith, o.1, shared_most x.edition _ (now h) o.0.shared)))
arith_facts Unknown81 = passed (OfArith Unknown81) refl (λ x b s sets o. o.0.holds) (λ x b h f o. Brief (omega (arith, o.1, stop_most x.edition (now h))))
arith_facts Arith = passed (OfArith Arith) refl (λ x b s sets o. o.entered.holds) (λ x b h f o. Brief (omega (arith, o.1)))
arith_facts (Operation n) =
    record {
      lie = λ x b s sets o. agree_below_at (λ j. lie_in IsArith (addresses (arith_data (Operation j)))) (λ j. true) 16 n refl (omega (arith, o.1));
      short = λ x b s sets o. inl (operation_short n (omega (arith, o.1)));
      holds = λ x b s sets o. (next s, o.0.entered.holds);
      screen = λ w x b s sets o. past x b s o.0.entered.holds;
      haste = λ x b h f o. Brief (omega (arith, o.1, operation_short n (omega (arith, o.0.1))));
    }
arith_facts Flag =
    passed (OfArith Flag) refl (λ x b s sets o. o.entered.holds) (λ x b h f o. Brief (omega (arith, o.1, shared_most x.edition _ (now h) o.0.shared)))
arith_facts Unknown82 = passed (OfArith Unknown82) refl (λ x b s sets o. o.0.holds) (λ x b h f o. Brief (omega (arith, o.1, stop_most x.edition (now h))))
