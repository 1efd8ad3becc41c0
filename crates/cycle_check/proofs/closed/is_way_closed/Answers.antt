use Rattle.std.proofs.Common.{◌≡◌, ◌∙◌, sym, arith}
use Rattle.cycle_check.specs.Closed.{holds_at, is_way_closed}
use Rattle.cycle_check.proofs.Below.{passes_none, passes_more, fails_at}
use Rattle.cycle_check.proofs.closed.is_way_closed.Goals as goal

pub loop-counter-init : goal.loop-counter-init
loop-counter-init c = passes_none _

pub loop-counter-preserved : goal.loop-counter-preserved
loop-counter-preserved c =
    passes_more (holds_at c.args.k c.args.line.now c.args.instruction.now c.args.way.when c.line_behind-behind.result) c.loop-counter.counter
    c.loop-counter.invariant
    (sym c.holds_at.ensures ∙ c.if-not-holds_at.false)

pub returns-then-not-holds_at : goal.returns-then-not-holds_at
unfolding is_way_closed
returns-then-not-holds_at c =
    rw (← c.line_behind-behind.ensures)
    (sym (fails_at (holds_at c.args.k c.args.line.now c.args.instruction.now c.args.way.when c.line_behind-behind.result) 256 c.loop-counter.counter
    (omega arith) (sym c.holds_at.ensures ∙ c.if-not-holds_at.true)))

pub returns : goal.returns
unfolding is_way_closed
returns c =
    let test = holds_at c.args.k c.args.line.now c.args.instruction.now c.args.way.when c.line_behind-behind.result in
    let all : c.loop-counter.counter ≡ 256 = omega arith in
    rw (← c.line_behind-behind.ensures) (sym (rw all at c.loop-counter.invariant))
