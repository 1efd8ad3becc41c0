use Rattle.std.proofs.Common.{◌≡◌, ◌+◌, ◌≤◌, length}
use Rattle.std.specs.Prelude.{slice_index}
use Rattle.std.specs.Str.Lines.{lines}
use Rattle.cycle_check.specs.Certificate.{numbers_from}
use Rattle.cycle_check.proofs.certificate.statement_number.Given as goal

abbrev pub invariant-loop-line : goal.invariant-loop-line
invariant-loop-line l =
    (slice_index (numbers_from 1 (lines l.text)) l.place ≡ slice_index (numbers_from (l.number + 1) l.line-iterator) l.left)
    × (l.number + length l.line-iterator ≤ length l.text + 1)
