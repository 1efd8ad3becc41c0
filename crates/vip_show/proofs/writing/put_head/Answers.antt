use Rattle.std.proofs.Common.{refl}
use Rattle.vip_show.specs.Written.{head_of}
use Rattle.vip_show.proofs.writing.put_head.Goals as goal

pub returns-clause-items : goal.returns-clause-items
unfolding head_of
returns-clause-items c = rw (c.put_middle.ensures.items, c.put.ensures.items, c.requires, c.edition_byte.ensures) refl
