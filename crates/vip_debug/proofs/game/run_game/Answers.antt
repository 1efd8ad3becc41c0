use Rattle.std.proofs.Common.{None, sym, subst}
use Rattle.vip_relation.specs.State.{VipState}
use Rattle.vip_debug.specs.TargetRun.{Run}
use Rattle.vip_debug.specs.Commands.{came}
use Rattle.vip_debug.specs.BoardParts.{Arrives, HasMoved, IsShown}
use Rattle.vip_debug.specs.Game.{Leads, run_at}
use Rattle.vip_debug.proofs.Moving.{from-game, game-stays, run-here}
use Rattle.vip_debug.proofs.game.run_game.Goals as goal

pub returns-clause-comes : goal.returns-clause-comes
returns-clause-comes c =
    let after = c.vip-1.given.1 (game-stays _ _ _ c.go.ensures.moved) in
    subst (λ (x : VipState). let r = run_at c.args.vip.now c.args.vip.now.moves in Arrives c.args.limit r (came r c.args.limit c.args.running) x.board
    c.go.result) (sym after)
    (subst (λ (r : Run). Arrives c.args.limit r (came r c.args.limit c.args.running) c.go.new.target.vip.now.board c.go.result)
    (run-here c.args.vip.now c.requires.follows) c.go.ensures.comes)

pub returns-clause-moved : goal.returns-clause-moved
returns-clause-moved c =
    let after = c.vip-1.given.1 (game-stays _ _ _ c.go.ensures.moved) in
    subst (λ (x : VipState). HasMoved Leads (came (run_at c.args.vip.now c.args.vip.now.moves) c.args.limit c.args.running).moves c.args.vip.now x) (sym after)
    (subst (λ (r : Run). HasMoved Leads (came r c.args.limit c.args.running).moves c.args.vip.now c.go.new.target.vip.now)
    (run-here c.args.vip.now c.requires.follows) (from-game _ _ _ c.go.ensures.moved))

pub returns-clause-shown : goal.returns-clause-shown
returns-clause-shown c =
    λ done. subst (λ (r : Run). IsShown None c.args.running r (came r c.args.limit c.args.running).moves c.go.new.change)
    (run-here c.args.vip.now c.requires.follows) (c.go.ensures.shown done)
