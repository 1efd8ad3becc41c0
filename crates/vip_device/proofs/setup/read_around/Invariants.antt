use Rattle.std.proofs.Common.{◌≡◌, ◌+◌, ◌%◌, ◌<◌, ℕ, length, slice_index}
use Rattle.machine.specs.Memory.{read}
use Rattle.vip_device.proofs.setup.read_around.Given as goal

abbrev pub invariant-loop-k : goal.invariant-loop-k
invariant-loop-k l =
    record {
      next : l.next ≡ (l.address + l.k) % 0x10000;
      length : length l.bytes ≡ length l.fn.bytes;
      bytes : (j : ℕ) → j < l.k → slice_index l.bytes j ≡ read l.memory.rom l.memory.latch l.memory.ram ((l.address + j) % 0x10000);
    }
