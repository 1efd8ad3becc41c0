use Rattle.std.proofs.Common.{◌∙◌}
use Rattle.game_check.proofs.least.search.find_claims.Goals as goal

pub returns : goal.returns
returns c =
    c.sorted.ensures c.args.edition c.args.game.now
    (rw (c.in_ok-settle.ensures.edition ∙ c.in_ok-meet.ensures.edition, c.in_ok-settle.ensures.game ∙ c.in_ok-meet.ensures.game)
    at c.in_ok-settle.ensures.found)
