use Rattle.std.proofs.Common.{◌≡◌, ◌+◌, ◌*◌, ◌++◌}
use Rattle.arrayvec.specs.ArrayVec.{array_vec_len}
use Rattle.vip_debug.specs.BoardShown.{registers_text}
use Rattle.vip_debug.proofs.registers.put_registers.Given as goal

abbrev pub invariant-loop-number : goal.invariant-loop-number
invariant-loop-number l = record {
  len : array_vec_len l.into ≡ array_vec_len l.initial.into + 5 * l.number;
  items : l.into.items ≡ l.initial.into.items ++ registers_text l.cpu.regs l.number;
}
