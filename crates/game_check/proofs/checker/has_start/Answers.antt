use Rattle.std.proofs.Common.{◌∙◌}
use Rattle.game_check.proofs.Ordered.{start_claimed}
use Rattle.game_check.proofs.checker.has_start.Goals as goal

pub returns : goal.returns
returns c = c.is_claimed.ensures ∙ start_claimed c.args.claims.now _ c.stack_of.ensures
