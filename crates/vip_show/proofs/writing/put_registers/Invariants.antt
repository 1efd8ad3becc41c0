use Rattle.std.proofs.Common.{◌≡◌, ◌+◌, ◌*◌, ◌++◌}
use Rattle.arrayvec.specs.ArrayVec.{array_vec_len}
use Rattle.vip_show.specs.Written.{register_bytes}
use Rattle.vip_show.proofs.writing.put_registers.Given as goal

-- the registers up to this one are there
abbrev pub invariant-loop-n : goal.invariant-loop-n
invariant-loop-n l =
    (l.into.items ≡ l.fn.into.items ++ register_bytes l.cpu.regs.r l.n)
    × (array_vec_len l.into ≡ 14 + 2 * l.n)
