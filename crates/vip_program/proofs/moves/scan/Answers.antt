use Rattle.std.proofs.Common.{◌∙◌, sym, arith}
use Rattle.vip_program.proofs.Makes.{making-next, few-scans, scanned-more}
use Rattle.vip_program.proofs.moves.scan.Goals as goal

pub loop-made-preserved : goal.loop-made-preserved
loop-made-preserved c =
    let making = making-next _ _ _ _ _ _ c.loop-made.invariant.making (sym c.scans.ensures ∙ c.if-scans.true) c.make.ensures.moved in
    record {
      boundary = c.make.ensures.boundary;
      few = omega arith;
      making = making;
      items = scanned-more _ _ _ _ _ c.loop-made.invariant.making _ _ _ c.loop-made.invariant.items c.put_dma_byte.ensures.items;
      len = omega arith;
      line = few-scans _ _ _ _ _ making;
    }
