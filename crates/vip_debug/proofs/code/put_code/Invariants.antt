use Rattle.std.specs.List.{flat_map, range_with_len}
use Rattle.vip_outside.specs.Pieces.{PutsAll}
use Rattle.vip_debug.specs.BoardParts.{clear_reads}
use Rattle.vip_debug.specs.Code.{code_pieces}
use Rattle.vip_debug.proofs.code.put_code.Given as goal

abbrev pub invariant-loop-k : goal.invariant-loop-k
invariant-loop-k g l =
    PutsAll (flat_map (code_pieces (clear_reads l.memory) l.origins l.address) (range_with_len 0 l.k)) (g.O.Sink.meaning l.fn.out) (g.O.Sink.meaning l.out)
