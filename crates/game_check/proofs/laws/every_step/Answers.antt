use Rattle.game_check.proofs.Games.{every_step}
use Rattle.game_check.proofs.laws.every_step.Goals as goal

pub returns : goal.returns
returns c = every_step
