use Rattle.std.proofs.Common.{sym, inr, arith}
use Rattle.std.proofs.lemmas.List.{map-append}
use Rattle.vip_byte.proofs.ReadingLemmas.{length-IsReadUpTo, read_line, read_none, read-refused, read-whole}
use Rattle.vip_keypad.specs.KeyScript.{script_format}
use Rattle.vip_keypad.proofs.script.read_script.Goals as goal

pub loop-line-init : goal.loop-line-init
loop-line-init c =
    rw (c.into_iter-line-iterator.ensures.into_iter_gives, c.new-line-items.ensures, c.empty-script.ensures) (read_none script_format c.args.text.now)

pub overflow_add-number : goal.overflow_add-number
overflow_add-number c =
    omega (arith, length-IsReadUpTo script_format c.args.text.now _ c.loop-line.line-iterator c.loop-line.script c.loop-line.number c.loop-line.invariant)

pub loop-line-preserved : goal.loop-line-preserved
loop-line-preserved c =
    let read = rw c.in-Some.ensures.steps at c.loop-line.invariant in
    rw (c.in_ok-extend-in-Ok.ensures.ok, map-append)
    (read_line script_format c.args.text.now _ c.in-Some.line.now c.next.new.self c.loop-line.script c.loop-line.number c.in-Ok.event read
    (sym c.in-Ok.ensures.refused)
    c.in-Ok.ensures.event)

pub returns-in-Err-clause-fault : goal.returns-in-Err-clause-fault
returns-in-Err-clause-fault c =
    let read = rw c.in-Some.ensures.steps at c.loop-line.invariant in
    inr (read-refused script_format c.args.text.now _ c.in-Some.line.now c.next.new.self c.loop-line.script c.loop-line.number c.in-Err.cause read
    (sym c.in-Err.ensures.refused))

pub returns-clause-events : goal.returns-clause-events
returns-clause-events c =
    read-whole script_format c.args.text.now _ c.loop-line.script c.loop-line.number (rw c.in-None.ensures.steps.0 at c.loop-line.invariant)
