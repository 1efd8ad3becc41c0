use Rattle.std.proofs.Common.{map}
use Rattle.cycle_check.proofs.Growth.{IsReadSoFar}
use Rattle.cycle_check.proofs.certificate.read_certificate.Given as goal

abbrev pub invariant-loop-line : goal.invariant-loop-line
invariant-loop-line l = IsReadSoFar l.text (map (λ line. line.now) l.yielded) l.line-iterator l.number l.draft
