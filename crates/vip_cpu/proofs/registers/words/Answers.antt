use Rattle.std.proofs.Common.{arith}
use Rattle.vip_cpu.proofs.Banks.{bank-fits}
use Rattle.vip_cpu.proofs.registers.words.Goals as goal

pub returns : goal.returns
returns c = bank-fits c.args.numbers.now (λ k. omega (arith, c.type_inv.numbers k))
