use Rattle.std.proofs.Common.{subst, List, Option}
use Rattle.asm_core.specs.declared.findings.Finding.{Finding}
use Rattle.asm_core.specs.Passes.{IsFirstOfFindings}
use Rattle.asm_core.specs.Sources.{source_lines}
use Rattle.asm_core.proofs.Agrees.{first_of}
use Rattle.asm_core.proofs.passes.assemble.Goals as goal

pub returns-in-Some-clause-fault : goal.returns-in-Some-clause-fault
returns-in-Some-clause-fault c =
    let P : List (Option Finding) → Type 0 = λ found. IsFirstOfFindings found c.in-Some.fault in
    first_of c.args.isa (source_lines c.args.text.now) _ c.in-Ok.ensures.told c.in-Some.fault (subst P c.as_slice.ensures.value c.in-Some.ensures)
