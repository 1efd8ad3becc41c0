use Rattle.std.proofs.Common.{sym, inr, arith}
use Rattle.std.proofs.lemmas.List.{map-append}
use Rattle.vip_byte.proofs.ReadingLemmas.{length-IsReadUpTo}
use Rattle.cycle_check.specs.Certificate.{certificate_format}
use Rattle.cycle_check.proofs.Growth.{so_far-none, so_far-next, so_far-refused, so_far-whole}
use Rattle.cycle_check.proofs.certificate.read_certificate.Goals as goal

pub loop-line-init : goal.loop-line-init
loop-line-init c =
    rw (c.into_iter-line-iterator.ensures.into_iter_gives, c.new-line-items.ensures, c.empty-draft.ensures) (so_far-none c.args.text.now)

pub overflow_add-number : goal.overflow_add-number
overflow_add-number c =
    let so_far = c.loop-line.invariant in
    omega (arith, length-IsReadUpTo certificate_format c.args.text.now _ c.loop-line.line-iterator so_far.statements c.loop-line.number so_far.upto)

pub loop-line-preserved : goal.loop-line-preserved
loop-line-preserved c =
    let so_far = rw c.in-Some.ensures.steps at c.loop-line.invariant in
    rw (c.in_ok-extend-in-Ok.ensures.ok, map-append)
    (so_far-next c.args.text.now _ c.in-Some.line.now c.next.new.self c.loop-line.number c.loop-line.draft c.in-Ok.statement so_far (sym c.in-Ok.ensures.value))

pub returns-in-Err-clause-fault : goal.returns-in-Err-clause-fault
returns-in-Err-clause-fault c =
    let so_far = rw c.in-Some.ensures.steps at c.loop-line.invariant in
    inr (so_far-refused c.args.text.now _ c.in-Some.line.now c.next.new.self c.loop-line.number c.loop-line.draft c.in-Err.cause so_far
    (sym c.in-Err.ensures.value))

pub returns-clause-read : goal.returns-clause-read
returns-clause-read c = so_far-whole c.args.text.now _ c.loop-line.number c.loop-line.draft (rw c.in-None.ensures.steps.0 at c.loop-line.invariant)
