use Rattle.vip_byte.proofs.NumberLemmas.{IsReadUpTo}
use Rattle.vip_byte.proofs.number.read_number.Given as goal

abbrev pub invariant-loop-byte : goal.invariant-loop-byte
invariant-loop-byte l = IsReadUpTo l.base l.text l.most l.byte-index l.value
