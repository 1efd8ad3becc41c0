use Rattle.std.proofs.Common.{◌+◌, ◌∙◌, sym, ap}
use Rattle.cycle_check.specs.Closed.{cause_at}
use Rattle.cycle_check.proofs.Lookup.{first_from-on, first_from-at, first_from-end}
use Rattle.cycle_check.proofs.closed.first_cause.Goals as goal

pub loop-line-preserved : goal.loop-line-preserved
loop-line-preserved c = (
  c.loop-line.invariant.0
      ∙ first_from-on (cause_at c.args.rom.now c.args.bound.now c.args.lines.now) (c.loop-line.place + 1) c.args.lines.now c.loop-line.line-index _
      c.loop-line-test.true (sym c.cause_at.ensures ∙ c.in_default.is),
  ap (λ place. place + 1) c.loop-line.invariant.1,
)

pub returns-in-Some : goal.returns-in-Some
returns-in-Some c =
    sym (c.loop-line.invariant.0
    ∙ first_from-at (cause_at c.args.rom.now c.args.bound.now c.args.lines.now) (c.loop-line.place + 1) c.args.lines.now c.loop-line.line-index _
    c.in-Some.cause c.loop-line-test.true (sym c.cause_at.ensures ∙ c.in-Some.is))

pub returns : goal.returns
returns c =
    sym (c.loop-line.invariant.0
    ∙ first_from-end (cause_at c.args.rom.now c.args.bound.now c.args.lines.now) (c.loop-line.place + 1) c.args.lines.now c.loop-line.line-index
    c.loop-line-test.false)
