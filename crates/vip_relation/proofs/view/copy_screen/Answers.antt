use Rattle.std.proofs.Common.{◌≤◌, ◌*◌, arith}
use Rattle.chip8_lang.specs.Editions.{screen_start}
use Rattle.vip_relation.proofs.Reading.{page-more}
use Rattle.vip_relation.proofs.view.copy_screen.Goals as goal

pub loop-high-preserved : goal.loop-high-preserved
loop-high-preserved c =
    let order : screen_start c.args.edition ≤ c.loop-high.high * 256 = omega (arith, c.of-high.ensures.screen, c.loop-high.auto.high) in (
      rw (c.put_page.ensures.items, c.loop-high.invariant.0) (page-more c.args.memory.now.ram (screen_start c.args.edition) c.loop-high.high order),
      omega (arith, c.put_page.ensures.len, c.loop-high.invariant.1, order),
    )
