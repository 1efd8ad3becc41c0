use Rattle.std.proofs.Common.{length}
use Rattle.vip_outside.proofs.StreamLemmas.{IsSending}
use Rattle.vip_outside.proofs.std_sink.write_whole.Given as goal

-- what was sent and what is left make the piece
abbrev pub invariant-loop-rest : goal.invariant-loop-rest
invariant-loop-rest g l =
    IsSending l.piece l.rest (g.S.Stream.log l.fn.stream) (g.S.Stream.log l.stream) (g.S.Stream.contents l.fn.stream) (g.S.Stream.contents l.stream)

-- each write takes at least one byte
abbrev pub decreases-loop-rest : goal.decreases-loop-rest
decreases-loop-rest g l = length l.rest
