use Rattle.std.proofs.Common.{arith, add-one, ap, length}
use Rattle.chip8_lang.specs.Editions.{stack_top}
use Rattle.vip_relation.proofs.Reading.{length-addresses, addresses-more}
use Rattle.vip_relation.proofs.view.stack.Goals as goal

pub push-requires : goal.push-requires
push-requires c = omega (arith, ap length c.loop-k.invariant, length-addresses c.args.memory.now.ram (stack_top c.args.edition) c.loop-k.k)

pub loop-k-preserved : goal.loop-k-preserved
loop-k-preserved c =
    rw (
      c.push.ensures.items,
      c.loop-k.invariant,
      add-one,
      addresses-more c.args.memory.now.ram (stack_top
          c.args.edition) c.loop-k.k,
      c.from.ensures,
      c.from-in-loop-k.ensures,
      c.ram_byte.ensures,
      c.ram_byte-in-loop-k.ensures,
      c.of-top.ensures.stack_top,
    )
