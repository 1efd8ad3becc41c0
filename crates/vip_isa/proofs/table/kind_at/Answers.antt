use Rattle.std.proofs.Common.{◌<◌, arith}
use Rattle.std.proofs.lemmas.List.{get_or_default}
use Rattle.machine.specs.Opcodes.{kinds}
use Rattle.vip_isa.proofs.table.kind_at.Goals as goal

pub returns : goal.returns
returns c =
    let fits : c.args.byte < 256 = omega arith in
    get_or_default kinds c.args.byte _ _ fits
