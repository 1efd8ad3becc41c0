use Rattle.vip_verbs.proofs.preparing.own_text.Goals as goal

pub returns-in-Why : goal.returns-in-Why
returns-in-Why c = rw c.in-Why.is (rw c.as_slice.ensures at c.why.ensures)
