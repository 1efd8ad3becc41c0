use Rattle.std.proofs.Common.{◌≡◌, ◌+◌, ◌*◌, ◌++◌, slice_range}
use Rattle.arrayvec.specs.ArrayVec.{array_vec_len}
use Rattle.vip_show.proofs.writing.put_ram.Given as goal

-- the pages up to this one are there
abbrev pub invariant-loop-high : goal.invariant-loop-high
invariant-loop-high l =
    (l.into.items ≡ l.fn.into.items ++ slice_range l.memory.ram 0 (l.high * 256))
    × (array_vec_len l.into ≡ 51 + l.high * 256)
