use Rattle.std.proofs.Common.{refl}
use Rattle.vip_debug.proofs.Moving.{game-makes}
use Rattle.vip_debug.proofs.game.GameTarget.move_on.Goals as goal

pub returns-clause-moved : goal.returns-clause-moved
returns-clause-moved g c some =
    let m = game-makes _ c.args.limit _ _ c.move_on.result (c.move_on.ensures.moved some) in
    (m.0, m.1, (refl, m.2))
