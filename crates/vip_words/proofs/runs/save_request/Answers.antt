use Rattle.vip_words.proofs.runs.save_request.Goals as goal

pub returns : goal.returns
returns c = rw c.in-Two.is c.any_request.ensures
