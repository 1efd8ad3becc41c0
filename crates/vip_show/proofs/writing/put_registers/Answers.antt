use Rattle.std.proofs.Common.{arith, ◌/◌, ◌%◌, ◌∷◌, []}
use Rattle.vip_show.specs.Written.{register_bytes}
use Rattle.vip_show.proofs.Files.{more, registers-more}
use Rattle.vip_show.proofs.writing.put_registers.Goals as goal

pub loop-n-preserved : goal.loop-n-preserved
loop-n-preserved c = (
  more _ c.loop-n.into.items c.put.new.into.items (register_bytes c.args.cpu.now.regs.r c.loop-n.n) (c.r-word.result / 256 ∷ c.r-word.result % 256 ∷ []) _
      c.loop-n.invariant.0 c.put.ensures.items (registers-more c.args.cpu.now.regs.r c.loop-n.n c.r-word.result c.r-word.ensures.word),
  omega (arith, c.put.ensures.len, c.loop-n.invariant.1),
)
