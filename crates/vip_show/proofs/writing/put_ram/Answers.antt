use Rattle.std.proofs.Common.{◌≡◌, ◌*◌, ◌++◌, slice_range, subst, arith}
use Rattle.vip_memory.specs.Contents.{page_at}
use Rattle.vip_relation.proofs.Reading.{page-more}
use Rattle.vip_show.proofs.Files.{more}
use Rattle.vip_show.proofs.writing.put_ram.Goals as goal

pub loop-high-preserved : goal.loop-high-preserved
loop-high-preserved c = (
  more _ c.loop-high.into.items c.put_page.new.into.items (slice_range c.args.memory.now.ram 0 (c.loop-high.high * 256))
      (page_at c.args.memory.now.ram c.loop-high.high) _
      c.loop-high.invariant.0 c.put_page.ensures.items (page-more c.args.memory.now.ram 0 c.loop-high.high (omega arith)),
  omega (arith, c.put_page.ensures.len, c.loop-high.invariant.1),
)

pub returns : goal.returns
returns c =
    let all : c.loop-high.high * 256 ≡ 0x1000 = omega (arith, c.loop-high-test.false, c.loop-high.auto.high-end) in
    subst (λ n. c.loop-high.into.items ≡ c.args.into.now.items ++ slice_range c.args.memory.now.ram 0 n) all c.loop-high.invariant.0
