use Rattle.std.proofs.Common.{length}
use Rattle.asm_listing.proofs.remedies.+holds.Given as goal

abbrev pub decreases-holds : goal.decreases-holds
decreases-holds l = length l.text.now
