use Rattle.std.proofs.Common.{arith}
use Rattle.game_check.proofs.Deciding.{open_why}
use Rattle.game_check.proofs.decision.first_open.Goals as goal

pub returns-in-Err : goal.returns-in-Err
returns-in-Err c =
    open_why c.args.edition c.args.game.now c.args.family.now c.requires _ c.loop-claim.claim-index c.claim-item.result c.in-Err.cause
    (omega (arith, c.loop-claim-test.true)) c.claim-item.is c.in-Err.ensures c.loop-claim.invariant c.open_claim.ensures.cause c.open_claim.ensures.told
