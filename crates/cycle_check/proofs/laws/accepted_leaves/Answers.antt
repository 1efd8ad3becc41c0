use Rattle.cycle_check.proofs.Soundness.{accepted-within}
use Rattle.cycle_check.proofs.laws.accepted_leaves.Goals as goal

pub returns : goal.returns
returns c = accepted-within
