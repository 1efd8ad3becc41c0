use Rattle.asm_core.specs.Sources.{source_lines}
use Rattle.asm_core.proofs.Agrees.{agrees}
use Rattle.asm_core.proofs.findings.check.Goals as goal

pub returns-in-Ok-clause-agrees : goal.returns-in-Ok-clause-agrees
returns-in-Ok-clause-agrees c = agrees c.args.isa (source_lines c.args.text.now)

pub returns-in-Err-clause-agrees : goal.returns-in-Err-clause-agrees
returns-in-Err-clause-agrees c = agrees c.args.isa (source_lines c.args.text.now)
