use Rattle.std.proofs.Common.{◌∙◌, sym, refl, arith}
use Rattle.vip_board.proofs.Through.{rested-by, aside-by}
use Rattle.vip_board.proofs.board.Board.rest.Goals as goal

pub returns-clause-moved : goal.returns-clause-moved
returns-clause-moved g c =
    rested-by c.self.inside.cpu c.self.inside.wires c.args.self.now c.self.view_is c.requires (sym c.idle.ensures ∙ c.if-not-idle.false) c.min-count.result
    (λ k l. c.quiet_ahead.ensures k (omega (arith, l, c.min-count.ensures))) c.min-count.result c.pass.new.self refl c.pass.ensures

pub returns-clause-aside : goal.returns-clause-aside
returns-clause-aside g c k some below =
    aside-by c.self.inside.cpu c.self.inside.wires c.args.self.now c.self.view_is c.requires (sym c.idle.ensures ∙ c.if-not-idle.false) c.min-count.result
    (λ k l. c.quiet_ahead.ensures k (omega (arith, l, c.min-count.ensures))) c.min-count.result refl k some below
