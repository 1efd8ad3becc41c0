use Rattle.vip_words.proofs.why.RequestRefStrDisplay.fmt.Goals as goal

pub returns-in-Cycles-clause-writes : goal.returns-in-Cycles-clause-writes
returns-in-Cycles-clause-writes g c = rw c.in-Cycles.is (rw c.text_if-exits.ensures at c.write-in-Cycles.ensures.writes)
