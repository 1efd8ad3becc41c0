use Rattle.std.proofs.Common.{◌≡◌, take}
use Rattle.asm_core.proofs.encode.bytes_from.Given as goal

abbrev pub invariant-loop-value : goal.invariant-loop-value
invariant-loop-value l = l.bytes.items ≡ take l.value-index l.values
