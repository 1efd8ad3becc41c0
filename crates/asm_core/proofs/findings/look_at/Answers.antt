use Rattle.std.proofs.Common.{subst, Result, Option}
use Rattle.asm_lex.specs.declared.shape.Word.{Word}
use Rattle.asm_core.specs.declared.fault.AsmCause.{AsmCause}
use Rattle.asm_core.specs.declared.layout.Laid.{Laid}
use Rattle.asm_core.specs.Surveys.{Learns}
use Rattle.asm_core.proofs.Surveys.{looks-learnt}
use Rattle.asm_core.proofs.findings.look_at.Goals as goal

pub returns-in-Ok : goal.returns-in-Ok
returns-in-Ok c =
    let P : Result (Option Word × Laid) AsmCause → Type 0 = λ learnt. Learns c.args.isa c.args.names.now c.args.at c.args.line.now c.learn.new.names learnt in
    looks-learnt c.args.isa c.args.names.now c.args.at c.args.faulty c.args.line.now c.learn.new.names c.in-Ok.word c.in-Ok.laid
    (subst P c.in-Ok.is c.in_ok-word.ensures)
