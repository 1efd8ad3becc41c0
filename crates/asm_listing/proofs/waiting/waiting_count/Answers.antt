use Rattle.std.proofs.Common.{◌≡◌, ◌+◌, ℕ, Bool, Option, None, length, refl, sym, ap, ◌∙◌, arith, cond}
use Rattle.std.specs.Prelude.{slice_index_or, is_some, ◌||◌}
use Rattle.std.specs.List.{count_by, range_with_len}
use Rattle.asm_lex.specs.Names.{Names, value_in}
use Rattle.asm_core.specs.declared.findings.Finding.{Finding}
use Rattle.asm_core.specs.Fixed.{fixed_names}
use Rattle.asm_core.specs.Sources.{source_lines, line_at}
use Rattle.asm_core.specs.Told.{given_names, told}
use Rattle.asm_core.proofs.PassOne.{line_here, no_line}
use Rattle.asm_listing.specs.Told.{has_told_before, waits, waiting_count}
use Rattle.asm_listing.proofs.Counted.{any-more, count-more}
use Rattle.asm_listing.proofs.waiting.waiting_count.Goals.{then-behind, else-behind}
use Rattle.asm_listing.proofs.waiting.waiting_count.Goals as goal

pub loop-line-init : goal.loop-line-init
unfolding waiting_count
loop-line-init c = record {
  rest = refl;
  inside = omega arith;
  behind = refl;
  count = refl;
  most = omega arith;
  few = omega arith;
}

pub loop-line-preserved : goal.loop-line-preserved
unfolding waiting_count
loop-line-preserved c =
    let source = source_lines c.args.text.now in
    let isa = c.args.isa in
    let loop = c.loop-line in
    let number = loop.number in
    let line = c.in-Some.line.now in
    let here = line_here source number line (source_lines c.in-Some.more.now) (sym loop.invariant.rest ∙ c.in-Some.ensures.lines) in
    let finding : c.told_at-finding.result ≡ told isa source number =
    c.told_at-finding.ensures ∙ (ap (λ xs. slice_index_or xs number None) c.as_slice-findings.ensures.value ∙ c.requires.told.each number here.0) in
    let given = given_names isa source in
    let fixed = fixed_names isa source in
    let behind = has_told_before isa source number in
    let any : ℕ → Bool = λ i. is_some (told isa source i) in
    let f : ℕ → Bool = λ i. waits isa given fixed (has_told_before isa source i) (line_at source i) (told isa source i) in
    let waiting : c.waits.result ≡ f number =
    c.waits.ensures
    ∙ ap (λ (names : Names). waits isa names (value_in c.args.fixed.now) loop.behind line c.told_at-finding.result) c.requires.given
    ∙ ap (λ (names : Names). waits isa given names loop.behind line c.told_at-finding.result) c.requires.fixed
    ∙ ap (λ b. waits isa given fixed b line c.told_at-finding.result) loop.invariant.behind
    ∙ ap (λ (o : Option Finding). waits isa given fixed behind line o) finding
    ∙ ap (λ l. waits isa given fixed behind l (told isa source number)) (sym here.1) in
    let one : c.one_if-count.result ≡ cond (f number) 1 0 = c.one_if-count.ensures.value ∙ ap (λ b. cond b 1 0) waiting in
    let more : c.if-behind.behind ≡ (loop.behind || any number) = elim c.if-behind.branch [
      | then-behind w ↦ w.behind-is ∙ w.if-behind.true ∙ sym (ap (λ b. b || any number) w.if-behind.true)
      | else-behind w ↦
          w.behind-is ∙ w.is_some-behind.ensures ∙ ap (λ (o : Option Finding). is_some o) finding ∙ sym (ap (λ b. b || any number) w.if-behind.false)
    ] in
    record {
      rest = sym here.2;
      inside = omega (arith, here.0);
      behind = more ∙ ap (λ b. b || any number) loop.invariant.behind ∙ sym (any-more any number);
      count = ap (λ n. n + c.one_if-count.result) loop.invariant.count ∙ ap (λ n. count_by f (range_with_len 0 number) + n) one ∙ sym (count-more f number);
      most = omega (arith, loop.invariant.most, c.one_if-count.ensures.most);
      few = omega (arith, c.in-Some.ensures.shorter, loop.invariant.few);
    }

pub returns : goal.returns
returns c =
    let source = source_lines c.args.text.now in
    let all = no_line source c.loop-line.number (sym c.loop-line.invariant.rest ∙ c.in_default.ensures.lines) c.loop-line.invariant.inside in
    c.loop-line.invariant.count ∙ ap (waiting_count c.args.isa source) all

pub told_at-finding-requires : goal.told_at-finding-requires
told_at-finding-requires c =
    let source = source_lines c.args.text.now in
    let here = line_here source c.loop-line.number c.in-Some.line.now (source_lines c.in-Some.more.now)
    (sym c.loop-line.invariant.rest ∙ c.in-Some.ensures.lines) in
    omega (arith, ap length c.as_slice-findings.ensures.value, c.requires.told.count, here.0)
