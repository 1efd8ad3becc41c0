use Rattle.std.proofs.Common.{◌∙◌}
use Rattle.std.proofs.lemmas.List.{length-set}
use Rattle.vip_text.proofs.StateFiles.{registers-read}
use Rattle.vip_text.proofs.state_file.registers.Goals as goal

pub loop-k-preserved : goal.loop-k-preserved
loop-k-preserved c = (
  length-set c.loop-k.r c.loop-k.k c.word.result ∙ c.loop-k.invariant.0,
  registers-read c.args.bytes.now c.loop-k.r c.loop-k.k c.word.result c.loop-k.invariant.0 c.loop-k-test.true c.word.ensures c.loop-k.invariant.1,
)
