use Rattle.std.proofs.Common.{sym, ◌∙◌}
use Rattle.vip_tools.specs.Files.{most_text}
use Rattle.vip_tools.proofs.GamesLemmas.{few-events}
use Rattle.vip_tools.proofs.games.read_line.Goals as goal

pub read_game-requires-clause-few : goal.read_game-requires-clause-few
read_game-requires-clause-few c =
    few-events c.args.line.now c.in-Some.first.now c.next.new.self most_text (sym c.new-words.ensures ∙ c.in-Some.ensures.steps) c.requires
