use Rattle.std.proofs.Common.{arith}
use Rattle.vip_text.proofs.StateFiles.{regs-read}
use Rattle.vip_text.proofs.state_file.parts.Goals as goal

pub returns-clause-regs : goal.returns-clause-regs
returns-clause-regs c = regs-read c.registers.result c.args.bytes.now (λ k. omega (arith, c.type_inv.bytes k)) c.registers.ensures
