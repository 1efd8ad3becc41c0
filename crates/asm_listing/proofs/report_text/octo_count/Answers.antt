use Rattle.std.proofs.Common.{◌≡◌, ◌+◌, ℕ, Bool, None, length, refl, sym, ap, ◌∙◌, arith, cond}
use Rattle.std.specs.Prelude.{slice_index_or}
use Rattle.std.specs.List.{count_by, range_with_len}
use Rattle.asm_core.specs.Sources.{source_lines, line_at}
use Rattle.asm_core.specs.Told.{told}
use Rattle.asm_core.proofs.PassOne.{line_here, no_line}
use Rattle.asm_listing.specs.Told.{is_octo_told, octo_count}
use Rattle.asm_listing.proofs.Counted.{count-more}
use Rattle.asm_listing.proofs.report_text.octo_count.Goals as goal

pub loop-line-init : goal.loop-line-init
unfolding octo_count
loop-line-init c = record {
  rest = refl;
  inside = omega arith;
  count = refl;
  most = omega arith;
  few = omega arith;
}

pub loop-line-preserved : goal.loop-line-preserved
unfolding octo_count
loop-line-preserved c =
    let source = source_lines c.args.text.now in
    let isa = c.args.isa in
    let number = c.loop-line.number in
    let line = c.in-Some.line.now in
    let here = line_here source number line (source_lines c.in-Some.more.now) (sym c.loop-line.invariant.rest ∙ c.in-Some.ensures.lines) in
    let finding : c.told_at-finding.result ≡ told isa source number =
    c.told_at-finding.ensures ∙ (ap (λ xs. slice_index_or xs number None) c.as_slice-findings.ensures.value ∙ c.requires.told.each number here.0) in
    let f : ℕ → Bool = λ i. is_octo_told isa (line_at source i) (told isa source i) in
    let one : c.one_if-count.result ≡ cond (f number) 1 0 =
    c.one_if-count.ensures.value
    ∙ ap (λ b. cond b 1 0) (c.is_octo_told.ensures ∙ ap (λ o. is_octo_told isa line o) finding ∙ ap (λ l. is_octo_told isa l (told isa source number)) (sym here.1)) in
    record {
      rest = sym here.2;
      inside = omega (arith, here.0);
      count = ap (λ n. n + c.one_if-count.result) c.loop-line.invariant.count ∙ ap (λ n. count_by f (range_with_len 0 number) + n) one ∙ sym (count-more f number);
      most = omega (arith, c.loop-line.invariant.most, c.one_if-count.ensures.most);
      few = omega (arith, c.in-Some.ensures.shorter, c.loop-line.invariant.few);
    }

pub returns : goal.returns
returns c =
    let source = source_lines c.args.text.now in
    let all = no_line source c.loop-line.number (sym c.loop-line.invariant.rest ∙ c.in_default.ensures.lines) c.loop-line.invariant.inside in
    c.loop-line.invariant.count ∙ ap (octo_count c.args.isa source) all

pub told_at-finding-requires : goal.told_at-finding-requires
told_at-finding-requires c =
    let source = source_lines c.args.text.now in
    let here = line_here source c.loop-line.number c.in-Some.line.now (source_lines c.in-Some.more.now)
    (sym c.loop-line.invariant.rest ∙ c.in-Some.ensures.lines) in
    omega (arith, ap length c.as_slice-findings.ensures.value, c.requires.told.count, here.0)
