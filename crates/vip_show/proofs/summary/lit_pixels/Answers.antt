use Rattle.std.proofs.Common.{arith}
use Rattle.vip_text.specs.Screens.{pixels_of}
use Rattle.vip_show.proofs.Screens.{rows-none, rows-more}
use Rattle.vip_show.proofs.summary.lit_pixels.Goals as goal

pub loop-y-init : goal.loop-y-init
loop-y-init c = (rows-none (pixels_of c.args.rows.now), omega arith)

pub loop-y-preserved : goal.loop-y-preserved
loop-y-preserved c = (
  rows-more (pixels_of c.args.rows.now) c.loop-y.y c.loop-y.lit _ c.loop-y.invariant.0 c.lit_in_row-lit.ensures.value,
  omega (arith, c.lit_in_row-lit.ensures.few, c.loop-y.invariant.1),
)
