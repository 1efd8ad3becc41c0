use Rattle.std.proofs.Common.{◌≡◌}
use Rattle.arrayvec.specs.ArrayVec.{array_vec_len}
use Rattle.vip_debug.specs.BoardShown.{bytes_from}
use Rattle.vip_debug.specs.BoardParts.{reads}
use Rattle.vip_debug.proofs.bytes.read_stretch.Given as goal

abbrev pub invariant-loop-i : goal.invariant-loop-i
invariant-loop-i l = record { len : array_vec_len l.into ≡ l.i; items : l.into.items ≡ bytes_from (reads l.memory) l.address l.i }
