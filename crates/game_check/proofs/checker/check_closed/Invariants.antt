use Rattle.std.proofs.Common.{map}
use Rattle.game_check.proofs.Faultless.{AreClosedUpTo}
use Rattle.game_check.proofs.checker.check_closed.Given as goal

abbrev pub invariant-loop-line : goal.invariant-loop-line
invariant-loop-line l = AreClosedUpTo l.edition l.game l.claims l.text (map (λ line. line.now) l.yielded) l.line-iterator l.number
