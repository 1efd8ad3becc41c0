use Rattle.std.proofs.Common.{◌≡◌, ◌+◌, length, drop, sym, ap, subst, ◌∙◌, arith}
use Rattle.std.proofs.lemmas.List.{length_push}
use Rattle.asm_lex.specs.Names.{value_in}
use Rattle.asm_core.specs.Passes.{planned, LaysOut}
use Rattle.asm_core.specs.Sources.{source_lines}
use Rattle.asm_core.specs.Told.{Seen, seen_at, told_1, note_at, IsEachOf}
use Rattle.asm_core.proofs.PassOne.{line_here, no_line}
use Rattle.asm_core.proofs.Surveys.{AreSurveyed, surveyed-none, surveyed-more}
use Rattle.asm_core.proofs.findings.pass_1.Goals as goal

pub loop-line-init : goal.loop-line-init
loop-line-init c =
    let source = source_lines c.args.text.now in
    let first = c.in_ok-first.first in
    let none : length first.told.findings.items ≡ 0 = ap length c.in_ok-first.ensures.findings in
    record {
      rest = ap (λ n. drop n source) (sym none);
      inside = omega (arith, none);
      few = omega (arith, none);
      surveyed = subst (λ n. AreSurveyed c.args.isa source c.args.with_notes n first c.origin_of-at.result) (sym none)
          (surveyed-none c.args.isa source c.args.with_notes first c.origin_of-at.result c.in_ok-first.ensures c.origin_of-at.ensures);
    }

pub loop-line-preserved : goal.loop-line-preserved
loop-line-preserved c =
    let source = source_lines c.args.text.now in
    let loop = c.loop-line in
    let number = length loop.first.told.findings.items in
    let new = c.add_line.new.self in
    let adds = c.in_ok-next.ensures in
    let here = line_here source number c.in-Some.line.now (source_lines c.in-Some.more.now) (sym loop.invariant.rest ∙ c.in-Some.ensures.lines) in
    let next : length new.told.findings.items ≡ number + 1 = ap length adds.findings ∙ length_push loop.first.told.findings.items adds.looked.finding in
    record {
      rest = sym here.2 ∙ ap (λ n. drop n source) (sym next);
      inside = omega (arith, here.0, next);
      few = omega (arith, c.in-Some.ensures.shorter, loop.invariant.few, next);
      surveyed = subst (λ n. AreSurveyed c.args.isa source c.args.with_notes n new c.in_ok-next.next) (sym next)
          (surveyed-more c.args.isa source c.args.with_notes number loop.first loop.at c.in-Some.line.now new c.in_ok-next.next loop.invariant.surveyed
          here.0 here.1 adds);
    }

pub returns : goal.returns
returns c =
    let source = source_lines c.args.text.now in
    let isa = c.args.isa in
    let first = c.loop-line.first in
    let surveyed = c.loop-line.invariant.surveyed in
    let all = no_line source (length first.told.findings.items) (sym c.loop-line.invariant.rest ∙ c.in_default.ensures.lines) c.loop-line.invariant.inside in
    record {
      few = omega (arith, c.loop-line.invariant.few);
      told = subst (λ n. IsEachOf (told_1 isa source) n first.told.findings.items) all surveyed.told;
      noted = λ wanted. subst (λ n. IsEachOf (note_at isa source) n first.told.notes.items) all (surveyed.noted wanted);
      faulty = subst (λ n. first.faulty ≡ (seen_at isa source n).faulty) all (ap (λ (s : Seen). s.faulty) surveyed.seen.is);
      given =
          subst (λ n. value_in first.plan.names ≡ (seen_at isa source n).known.names) all (ap (λ (s : Seen). s.known.names) surveyed.seen.is);
      plan = λ clean. subst (λ n. LaysOut isa source n (planned first.plan)) all (surveyed.plan clean);
    }
