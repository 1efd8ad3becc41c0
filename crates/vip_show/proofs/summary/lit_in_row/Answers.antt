use Rattle.std.proofs.Common.{◌≡◌, arith}
use Rattle.vip_text.specs.Screens.{pixels_of}
use Rattle.vip_show.proofs.Screens.{lit-more, row-whole}
use Rattle.vip_show.proofs.summary.lit_in_row.Goals as goal

pub loop-x-preserved : goal.loop-x-preserved
loop-x-preserved c = (
  lit-more (λ x. pixels_of c.args.rows.now x c.args.y) c.loop-x.x c.loop-x.lit c.count_of-lit.result c.is_lit.result c.loop-x.invariant.0
      c.count_of-lit.ensures.value c.is_lit.ensures,
  omega (arith, c.count_of-lit.ensures.few, c.loop-x.invariant.1),
)

pub returns-clause-value : goal.returns-clause-value
returns-clause-value c =
    let end : c.loop-x.x ≡ 64 = omega arith in
    row-whole (pixels_of c.args.rows.now) c.args.y c.loop-x.x c.loop-x.lit c.loop-x.invariant.0 end
