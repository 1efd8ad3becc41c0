use Rattle.std.proofs.Common.{◌<◌, get_or, refl, eqb, eqb-true, arith}
use Rattle.vip_isa.proofs.Below.{at-passes_below}
use Rattle.vip_cpu.specs.Groups.{plain_cycles}
use Rattle.vip_cpu.specs.declared.execute.TheConstants.{PLAIN_CYCLES}
use Rattle.vip_cpu.proofs.execute.plain_cycles.Goals as goal

pub returns : goal.returns
returns c =
    let fits : c.args.opcode < 256 = omega arith in
    eqb-true _ _ (at-passes_below (λ b. eqb (get_or PLAIN_CYCLES b 0) (plain_cycles b)) 256 refl c.args.opcode fits)
