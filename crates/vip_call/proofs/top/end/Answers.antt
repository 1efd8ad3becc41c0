use Rattle.std.proofs.Common.{refl}
use Rattle.vip_call.proofs.top.end.Goals as goal

pub finish-requires : goal.finish-requires
finish-requires g c = rw c.in-Ok.is at c.requires

pub returns-in-Ok : goal.returns-in-Ok
returns-in-Ok g c = rw c.in-Ok.is c.finish.ensures

pub returns-in-Err : goal.returns-in-Err
returns-in-Err g c = rw c.in-Err.is (refl, c.put_refusal.ensures)
