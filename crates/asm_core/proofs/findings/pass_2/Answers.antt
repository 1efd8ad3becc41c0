use Rattle.std.proofs.Common.{◌≡◌, ◌+◌, ℕ, refl, sym, subst, ◌∙◌, arith}
use Rattle.asm_core.specs.Passes.{planned}
use Rattle.asm_core.specs.Sources.{source_lines, names_before}
use Rattle.asm_core.specs.Told.{kept_before, told_2, IsEachOf}
use Rattle.asm_core.proofs.Cells.{entry}
use Rattle.asm_core.proofs.PassOne.{line_here, no_line}
use Rattle.asm_core.proofs.Surveys.{low_there, reads_there, fits_there, told_there, kept_more, kept_none, each-none, each-more}
use Rattle.asm_core.proofs.findings.pass_2.Goals as goal

pub loop-line-init : goal.loop-line-init
loop-line-init c = record {
  rest = refl;
  inside = omega arith;
  count = c.in_ok-cells.ensures.count;
  kept = kept_none c.args.isa (source_lines c.args.text.now) c.in_ok-cells.cells.items c.in_ok-cells.ensures.empty;
  told = each-none (told_2 c.args.isa (source_lines c.args.text.now)) c.new-findings.result.items c.new-findings.ensures.items;
  few = omega arith;
}

pub line_plan-here-requires : goal.line_plan-here-requires
line_plan-here-requires c =
    let source = source_lines c.args.text.now in
    let here = line_here source c.loop-line.number c.in-Some.line.now (source_lines c.in-Some.more.now)
    (sym c.loop-line.invariant.rest ∙ c.in-Some.ensures.lines) in
    record {
      addresses = omega (arith, here.0, c.requires.plan.count_is);
      words = omega (arith, here.0, c.requires.plan.words_count);
      values = omega (arith, here.0, c.requires.plan.values_count);
    }

pub put_line-finding-requires : goal.put_line-finding-requires
put_line-finding-requires c =
    let source = source_lines c.args.text.now in
    let number = c.loop-line.number in
    let plan = planned c.args.plan.now in
    let line = c.in-Some.line.now in
    let here = line_here source number line (source_lines c.in-Some.more.now) (sym c.loop-line.invariant.rest ∙ c.in-Some.ensures.lines) in
    let place = c.line_plan-here.result in
    record {
      at = low_there c.args.isa source plan c.requires.plan number here.0 line here.1 place c.line_plan-here.ensures;
      cells = c.loop-line.invariant.count;
      line = (
        names_before c.args.isa source number,
        reads_there c.args.isa source plan c.requires.plan number here.0 line here.1 place c.line_plan-here.ensures,
        fits_there c.args.isa source plan c.requires.plan number here.0 line here.1 place c.line_plan-here.ensures,
      );
    }

pub loop-line-preserved : goal.loop-line-preserved
loop-line-preserved c =
    let source = source_lines c.args.text.now in
    let isa = c.args.isa in
    let loop = c.loop-line in
    let number = loop.number in
    let plan = planned c.args.plan.now in
    let line = c.in-Some.line.now in
    let here = line_here source number line (source_lines c.in-Some.more.now) (sym loop.invariant.rest ∙ c.in-Some.ensures.lines) in
    let place = c.line_plan-here.result in
    let finding = c.put_line-finding.result in
    let puts = c.put_line-finding.ensures.told (names_before isa source number)
    (reads_there isa source plan c.requires.plan number here.0 line here.1 place c.line_plan-here.ensures) in
    record {
      rest = sym here.2;
      inside = omega (arith, here.0);
      count = c.put_line-finding.ensures.count ∙ loop.invariant.count;
      kept = kept_more isa source plan c.requires.plan number here.0 line here.1 place c.line_plan-here.ensures loop.cells.items loop.invariant.kept
          c.put_line-finding.new.cells.items finding puts;
      told = subst (λ items. IsEachOf (told_2 isa source) (number + 1) items) (sym c.in_ok-push.ensures.items)
          (each-more (told_2 isa source) number loop.findings.items finding loop.invariant.told
          (told_there isa source plan c.requires.plan number here.0 line here.1 place c.line_plan-here.ensures loop.cells.items loop.invariant.kept
          c.put_line-finding.new.cells.items finding puts));
      few = omega (arith, c.in-Some.ensures.shorter, loop.invariant.few);
    }

pub returns : goal.returns
returns c =
    let source = source_lines c.args.text.now in
    let loop = c.loop-line in
    let all = no_line source loop.number (sym loop.invariant.rest ∙ c.in_default.ensures.lines) loop.invariant.inside in
    record {
      count = loop.invariant.count;
      bytes = subst (λ n. (address : ℕ) → entry loop.cells.items address ≡ kept_before c.args.isa source n address) all loop.invariant.kept;
      told = subst (λ n. IsEachOf (told_2 c.args.isa source) n loop.findings.items) all loop.invariant.told;
    }
