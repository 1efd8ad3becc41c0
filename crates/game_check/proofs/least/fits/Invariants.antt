use Rattle.std.proofs.Common.{◌≡◌, ◌≤◌, take}
use Rattle.std.specs.List.{sum_by}
use Rattle.game_check.specs.Least.{line_bytes, most_bytes}
use Rattle.game_check.proofs.least.fits.Given as goal

abbrev pub invariant-loop-claim : goal.invariant-loop-claim
invariant-loop-claim l = (l.total ≡ sum_by line_bytes (take l.claim-index l.claims)) × (l.total ≤ most_bytes)
