use Rattle.std.proofs.Common.{◌<◌, arith}
use Rattle.vip_isa.proofs.Opcodes.{numbers-at}
use Rattle.vip_isa.proofs.table.number_at.Goals as goal

pub returns : goal.returns
returns c =
    let fits : c.args.byte < 256 = omega arith in
    numbers-at c.args.byte fits
