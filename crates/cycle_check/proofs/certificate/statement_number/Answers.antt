use Rattle.std.proofs.Common.{◌+◌, ◌∙◌, sym, arith, refl}
use Rattle.vip_byte.proofs.TextLemmas.{length-lines}
use Rattle.cycle_check.proofs.Numbers.{number-here, number-behind, number-silent, number-none}
use Rattle.cycle_check.proofs.certificate.statement_number.Goals as goal

pub loop-line-init : goal.loop-line-init
loop-line-init c =
    rw (c.into_iter-line-iterator.ensures.into_iter_gives, c.new-line-items.ensures) (refl, omega (arith, length-lines c.args.text.now))

pub returns-then-left-eq0 : goal.returns-then-left-eq0
returns-then-left-eq0 c =
    let before = rw c.in-Some.ensures.steps at c.loop-line.invariant in
    sym (before.0 ∙ number-here (c.loop-line.number + 1) c.in-Some.line.now c.next.new.self _ c.loop-line.left c.if-says_something.ensures c.if-left-eq0.true)

pub loop-line-preserved-then-says_something : goal.loop-line-preserved-then-says_something
loop-line-preserved-then-says_something c =
    let before = rw c.in-Some.ensures.steps at c.loop-line.invariant in (
      before.0 ∙ number-behind (c.loop-line.number + 1) c.in-Some.line.now c.next.new.self _ c.loop-line.left c.if-says_something.ensures c.if-left-eq0.false,
      omega (arith, before.1),
    )

pub loop-line-preserved : goal.loop-line-preserved
loop-line-preserved c =
    let before = rw c.in-Some.ensures.steps at c.loop-line.invariant in
    (before.0 ∙ number-silent (c.loop-line.number + 1) c.in-Some.line.now c.next.new.self c.loop-line.left c.if-says_something.ensures, omega (arith, before.1))

pub returns : goal.returns
returns c =
    let end = rw c.in-None.ensures.steps.0 at c.loop-line.invariant in
    sym (end.0 ∙ number-none (c.loop-line.number + 1) c.loop-line.left)
