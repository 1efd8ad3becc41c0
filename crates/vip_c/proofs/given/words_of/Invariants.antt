use Rattle.std.proofs.Common.{map, take}
use Rattle.std.specs.Prelude.{string_bytes}
use Rattle.vip_c.proofs.WordLemmas.{Reads}
use Rattle.vip_c.proofs.given.words_of.Given as goal

-- what was read so far
abbrev pub invariant-loop-byte : goal.invariant-loop-byte
invariant-loop-byte l = Reads (take l.byte-index l.bytes) (map string_bytes l.words.items) l.word.items
