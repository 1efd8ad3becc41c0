use Rattle.vip_debug.specs.BoardParts.{reads}
use Rattle.vip_debug.proofs.Disassembling.{Disassembles}
use Rattle.vip_debug.proofs.bytes.put_instructions.Given as goal

abbrev pub invariant-loop-line : goal.invariant-loop-line
invariant-loop-line g l = Disassembles l.origins l.memory.latch l.layout (reads l.memory) l.address l.count (g.O.Sink.meaning l.fn.out) (g.O.Sink.meaning l.out) l.at l._line
