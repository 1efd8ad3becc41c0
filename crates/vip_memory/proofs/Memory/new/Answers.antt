use Rattle.std.proofs.Common.{refl}
use Rattle.vip_memory.proofs.Memory.new.Goals as goal

pub returns : goal.returns
returns c = rw (c.no_bytes.ensures, c.copy_from_slice.ensures.after, c.of.ensures) refl
