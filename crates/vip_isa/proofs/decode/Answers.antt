use Rattle.std.proofs.Common.{◌<◌, arith}
use Rattle.vip_isa.proofs.Opcodes.{opcode_of-decoded, decoded_is_valid}
use Rattle.vip_isa.proofs.decode.Goals as goal

pub returns-clause-valid : goal.returns-clause-valid
returns-clause-valid c =
    let fits : c.args.byte < 256 = omega arith in
    rw (c.number_at.ensures, c.kind_at.ensures) (decoded_is_valid c.args.byte fits)

pub returns-clause-opcode : goal.returns-clause-opcode
returns-clause-opcode c =
    let fits : c.args.byte < 256 = omega arith in
    rw (c.number_at.ensures, c.kind_at.ensures) (opcode_of-decoded c.args.byte fits)
