use Rattle.vip_words.proofs.runs.profile_request.Goals as goal

pub returns : goal.returns
returns c = rw c.in-Two.is c.either_request.ensures
