use Rattle.chip8_source.proofs.OneAnswer.{answers_agree}
use Rattle.chip8_source.proofs.laws.one_answer.Goals as goal

pub returns : goal.returns
returns c = answers_agree
