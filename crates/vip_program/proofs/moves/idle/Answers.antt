use Rattle.std.proofs.Common.{◌∙◌, sym, arith}
use Rattle.vip_program.proofs.Makes.{making-next}
use Rattle.vip_program.proofs.moves.idle.Goals as goal

pub loop-made-preserved : goal.loop-made-preserved
loop-made-preserved c = record {
  boundary = c.make.ensures.boundary;
  few = omega arith;
  making = making-next _ _ _ _ _ _ c.loop-made.invariant.making (sym c.idles.ensures ∙ c.if-idles.true) c.make.ensures.moved;
}
