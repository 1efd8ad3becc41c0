use Rattle.std.proofs.Common.{map}
use Rattle.std.specs.List.{range_with_len}
use Rattle.vip_outside.specs.Pieces.{PutsAll}
use Rattle.vip_debug.specs.BoardShown.{row_at}
use Rattle.vip_debug.proofs.bytes.put_rows.Given as goal

abbrev pub invariant-loop-k : goal.invariant-loop-k
invariant-loop-k g l = PutsAll (map (row_at l.address l.bytes) (range_with_len 0 l.k)) (g.O.Sink.meaning l.fn.out) (g.O.Sink.meaning l.out)
