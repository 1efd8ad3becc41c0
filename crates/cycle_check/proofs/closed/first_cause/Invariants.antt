use Rattle.std.proofs.Common.{◌≡◌, ◌+◌, drop}
use Rattle.cycle_check.specs.Closed.{cause_at, first_from}
use Rattle.cycle_check.proofs.closed.first_cause.Given as goal

abbrev pub invariant-loop-line : goal.invariant-loop-line
invariant-loop-line l =
    (first_from (cause_at l.rom l.bound l.lines) 1 l.lines ≡ first_from (cause_at l.rom l.bound l.lines) (l.place + 1) (drop l.line-index l.lines)) ×
    (l.place ≡ l.line-index)
