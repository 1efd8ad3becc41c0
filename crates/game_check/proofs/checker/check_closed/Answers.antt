use Rattle.std.proofs.Common.{sym, arith}
use Rattle.std.proofs.lemmas.List.{map-append}
use Rattle.vip_byte.proofs.ReadingLemmas.{length-IsReadUpTo}
use Rattle.game_check.specs.Proof.{closed_format}
use Rattle.game_check.proofs.Faultless.{closed_line, closed_none, closed_whole, not_closed}
use Rattle.game_check.proofs.checker.check_closed.Goals as goal

pub loop-line-init : goal.loop-line-init
loop-line-init c =
    rw (c.into_iter-line-iterator.ensures.into_iter_gives, c.new-line-items.ensures)
    (closed_none c.args.edition c.args.game.now c.args.claims.now c.args.text.now)

pub overflow_add-number : goal.overflow_add-number
overflow_add-number c =
    let format = closed_format c.args.edition c.args.game.now c.args.claims.now in
    omega (arith, length-IsReadUpTo format c.args.text.now _ c.loop-line.line-iterator _ c.loop-line.number c.loop-line.invariant)

pub returns-in-Err-clause-fault : goal.returns-in-Err-clause-fault
returns-in-Err-clause-fault c =
    let so_far = rw c.in-Some.ensures.steps at c.loop-line.invariant in
    not_closed c.args.edition c.args.game.now c.args.claims.now c.args.text.now _ c.in-Some.line.now c.next.new.self c.loop-line.number c.in-Err.cause so_far
    (sym c.in-Err.ensures)

pub loop-line-preserved : goal.loop-line-preserved
loop-line-preserved c =
    let so_far = rw c.in-Some.ensures.steps at c.loop-line.invariant in
    rw map-append
    (closed_line c.args.edition c.args.game.now c.args.claims.now c.args.text.now _ c.in-Some.line.now c.next.new.self c.loop-line.number so_far
    (sym c.in_default.ensures))

pub returns-clause-closed : goal.returns-clause-closed
returns-clause-closed c =
    closed_whole c.args.edition c.args.game.now c.args.claims.now c.args.text.now _ c.loop-line.number (rw c.in-None.ensures.steps.0 at c.loop-line.invariant)
