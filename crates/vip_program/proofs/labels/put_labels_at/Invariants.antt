use Rattle.std.proofs.Common.{◌≡◌, ◌++◌, map}
use Rattle.asm_core.specs.Origins.{labels_over}
use Rattle.vip_outside.specs.Pieces.{PutsAll}
use Rattle.vip_program.proofs.labels.put_labels_at.Given as goal

-- the lines so far are put, and the others are left
abbrev pub invariant-loop-line : goal.invariant-loop-line
invariant-loop-line g l = record {
  puts : PutsAll (map (λ line. line.now) l.yielded) (g.O.Sink.meaning l.fn.out) (g.O.Sink.meaning l.out);
  rest : labels_over l.origins l.address ≡ map (λ line. line.now) l.yielded ++ l.line-iterator;
}
