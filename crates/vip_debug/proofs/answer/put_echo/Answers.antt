use Rattle.vip_outside.proofs.PiecesLemmas.{StreamAnswers-one}
use Rattle.vip_debug.proofs.answer.put_echo.Goals as goal

pub returns-in-Some : goal.returns-in-Some
returns-in-Some g c = rw c.in-Some.ensures (StreamAnswers-one _ _ _ _ c.put.ensures.answer)
