use Rattle.vip_words.proofs.runs.trace_request.Goals as goal

pub returns : goal.returns
returns c = rw c.in-Two.is (rw c.columns_by.ensures at c.either_request.ensures)
