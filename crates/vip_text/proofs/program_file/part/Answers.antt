use Rattle.std.proofs.Common.{sym, arith}
use Rattle.std.proofs.lemmas.List.{length-take-le}
use Rattle.vip_text.proofs.program_file.part.Goals as goal

pub slice_bounds-result-end : goal.slice_bounds-result-end
slice_bounds-result-end c = sym (length-take-le 4147 c.args.bytes.now (omega (arith, c.requires)))

pub returns-clause-size : goal.returns-clause-size
returns-clause-size c = length-take-le 4147 c.args.bytes.now (omega (arith, c.requires))
