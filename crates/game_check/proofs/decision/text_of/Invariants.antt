use Rattle.std.proofs.Common.{◌≡◌, take}
use Rattle.std.specs.List.{All}
use Rattle.game_check.specs.Least.{family_text}
use Rattle.game_check.specs.Searching.{AreWords}
use Rattle.game_check.proofs.decision.text_of.Given as goal

abbrev pub invariant-loop-claim : goal.invariant-loop-claim
invariant-loop-claim l = (l.text.items ≡ family_text (take l.claim-index l.claims)) × All AreWords (take l.claim-index l.claims)
