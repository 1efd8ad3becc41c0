use Rattle.std.proofs.Common.{arith, ◌∙◌}
use Rattle.vip_text.specs.Screens.{pixels_of}
use Rattle.vip_text.proofs.ScreenLemmas.{screen-more}
use Rattle.vip_text.proofs.screen.screen_text.Goals as goal

pub loop-y-preserved : goal.loop-y-preserved
loop-y-preserved c = (
  c.put_row.ensures.items ∙ screen-more (pixels_of c.args.rows.now) c.loop-y.y c.loop-y.into.items c.loop-y.invariant.0,
  omega (arith, c.put_row.ensures.len, c.loop-y.invariant.1),
)
