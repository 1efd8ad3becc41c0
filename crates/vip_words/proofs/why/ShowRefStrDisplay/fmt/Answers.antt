use Rattle.vip_words.proofs.why.ShowRefStrDisplay.fmt.Goals as goal

pub returns-in-Commands-clause-writes : goal.returns-in-Commands-clause-writes
returns-in-Commands-clause-writes g c = rw c.in-Commands.is (rw c.text_if-echo.ensures at c.write.ensures.writes)
