use Rattle.game_check.proofs.Games.{certified_games}
use Rattle.game_check.proofs.laws.certified_games.Goals as goal

pub returns : goal.returns
returns c = certified_games
