use Rattle.std.proofs.Common.{ℕ}
use Rattle.std.proofs.lemmas.List.{drop-replicate}
use Rattle.vip_link.proofs.image.image.Goals as goal

pub returns : goal.returns
returns c = rw (c.copy_from_slice.ensures.after, drop-replicate {X = ℕ})
