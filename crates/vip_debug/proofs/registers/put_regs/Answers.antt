use Rattle.vip_outside.proofs.PiecesLemmas.{PutsAll-nil, PutsAll-one, StreamAnswers-fault, StreamAnswers-append, StreamAnswers-one}
use Rattle.std.proofs.Common.{refl, []}
use Rattle.vip_debug.proofs.registers.put_regs.Goals as goal

pub returns-in_err-put_processor_line : goal.returns-in_err-put_processor_line
returns-in_err-put_processor_line g c =
    StreamAnswers-fault _ [] _ _ _ _ _ _ refl c.from_residual.ensures.0 (PutsAll-nil _) c.in_err-put_processor_line.ensures

pub returns : goal.returns
returns g c =
    StreamAnswers-append _ _ _ _ _ _ (PutsAll-one _ _ _ c.in_ok-put_processor_line.ensures) (StreamAnswers-one _ _ _ _ c.put_registers_line.ensures)
