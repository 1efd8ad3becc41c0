use Rattle.cycle_check.proofs.Growth.{rising-push}
use Rattle.cycle_check.proofs.certificate.Draft.push.Goals as goal

pub invariant_of-self-2 : goal.invariant_of-self-2
invariant_of-self-2 c =
    let behind = rw (← c.self.view_is) at c.requires in
    rw c.in_ok-push.ensures.items (rising-push c.self.inside.lines.items _ c.self.invariant behind)
