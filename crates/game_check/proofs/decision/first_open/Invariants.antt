use Rattle.std.proofs.Common.{◌≡◌, ℕ, ◌<◌, None, get_or}
use Rattle.game_check.specs.declared.claim.Claim.{Claim}
use Rattle.game_check.specs.Closed.{cause_in}
use Rattle.game_check.proofs.decision.first_open.Given as goal

abbrev pub invariant-loop-claim : goal.invariant-loop-claim
invariant-loop-claim l = (k : ℕ) (d : Claim) → k < l.claim-index → cause_in l.edition l.game l.family (get_or l.family k d) ≡ None
