-- What holds of the blocks of the fetch, of the tests of FXKK, and of the stops.
use Rattle.std.proofs.Common.{inl, inr, refl, arith, true}
use Rattle.std.proofs.lemmas.Bool.{agree_below_at}
use Rattle.rom_law.specs.Rows.{now}
use Rattle.rom_rows.specs.Blocks.{addresses}
use Rattle.rom_rows.specs.FetchBlocks.{FetchBlock, fetch_data}
use Rattle.rom_rows.specs.FetchBlocks.FetchBlock.{Fetch, Upper, Inside, Outside, Misc, Unknown83, Leave, Stop, Stopped}
use Rattle.rom_rows.specs.Table.Block.{OfFetch}
use Rattle.rom_rows.proofs.Facts.{BlockFacts, lie_in, passed, showing}
use Rattle.rom_rows.proofs.Haste.Haste.{Brief}
use Rattle.rom_rows.proofs.Most.{stop_most}
use Rattle.rom_rows.proofs.Screens.{same, past}
use Rattle.chip8_image.specs.declared.parts.Part.TheVariants.{Fetch as IsFetch}

pub fetch_facts : (l : FetchBlock) → BlockFacts (OfFetch l)
fetch_facts Fetch =
    showing (OfFetch Fetch) refl (λ x b s sets o. (_, o.holds)) (λ n x b s sets o. same x b s o.holds (λ px py l m. refl))
    (λ x b h f o. Brief (omega (arith, o.1)))
fetch_facts Upper =
    showing (OfFetch Upper) refl (λ x b s sets o. (_, o.0.holds)) (λ n x b s sets o. same x b s o.0.holds (λ px py l m. refl))
    (λ x b h f o. Brief (omega (arith, o.1)))
fetch_facts Outside =
    showing (OfFetch Outside) refl (λ x b s sets o. (_, o.0.holds)) (λ n x b s sets o. same x b s o.0.holds (λ px py l m. refl))
    (λ x b h f o. Brief (omega (arith, o.1, stop_most x.edition (now h))))
fetch_facts (Misc i) =
    record {
      lie = λ x b s sets o. agree_below_at (λ j. lie_in IsFetch (addresses (fetch_data (Misc j)))) (λ j. true) 9 i refl o.2;
      short = λ x b s sets o. inl (omega arith);
      holds = λ x b s sets o. (_, o.0.entered.holds);
      screen = λ n x b s sets o. past x b s o.0.entered.holds;
      haste = λ x b h f o. Brief (omega (arith, o.1, o.0.2));
    }
fetch_facts Unknown83 = passed (OfFetch Unknown83) refl (λ x b s sets o. o.0.entered.holds) (λ x b h f o. Brief (omega (arith, o.1)))
fetch_facts (Leave i) =
    record {
      lie = λ x b s sets o. agree_below_at (λ j. lie_in IsFetch (addresses (fetch_data (Leave j)))) (λ j. true) 4 i refl o.1;
      short = λ x b s sets o. inl (omega arith);
      holds = λ x b s sets o. (_, o.0.holds);
      screen = λ n x b s sets o. past x b s o.0.holds;
      haste = λ x b h f o. Brief (omega (arith, o.1, stop_most x.edition (now h)));
    }
fetch_facts Stop = passed (OfFetch Stop) refl (λ x b s sets o. o.holds) (λ x b h f o. Brief (omega (arith, o.1, stop_most x.edition (now h))))
fetch_facts Stopped =
    showing (OfFetch Stopped) refl (λ x b s sets o. (_, o.holds)) (λ n x b s sets o. same x b s o.holds (λ px py l m. refl))
    (λ x b h f o. Brief (omega (arith, o.1, stop_most x.edition (now h))))
fetch_facts Inside =
    record {
      lie = λ x b s sets o. refl;
      short = λ x b s sets o. inr refl;
      holds = λ x b s sets o. (_, o.0.holds);
      screen = λ n x b s sets o. same x b s o.0.holds (λ px py l m. refl);
      haste = λ x b h f o. Brief (omega (arith, o.1));
    }
