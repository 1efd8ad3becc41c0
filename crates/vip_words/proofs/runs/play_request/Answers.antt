use Rattle.vip_words.proofs.runs.play_request.Goals as goal

pub returns : goal.returns
returns c = rw c.in-Two.is c.either_request.ensures
