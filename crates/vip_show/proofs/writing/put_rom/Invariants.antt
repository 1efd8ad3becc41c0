use Rattle.std.proofs.Common.{◌≡◌, ◌*◌, slice_range}
use Rattle.arrayvec.specs.ArrayVec.{array_vec_len}
use Rattle.vip_show.proofs.writing.put_rom.Given as goal

-- the pages up to this one are there
abbrev pub invariant-loop-page : goal.invariant-loop-page
invariant-loop-page l = (l.into.items ≡ slice_range l.memory.rom 0 (l.page * 256)) × (array_vec_len l.into ≡ l.page * 256)
