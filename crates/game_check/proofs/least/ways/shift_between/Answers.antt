use Rattle.std.proofs.Common.{sym, ◌∙◌}
use Rattle.game_check.proofs.Raised.{ahead_first, ahead_second}
use Rattle.game_check.proofs.least.ways.shift_between.Goals as goal

pub returns-then-is_eq : goal.returns-then-is_eq
returns-then-is_eq c =
    ahead_first c.args.edition c.args.game.now c.args.from.now c.in-Some.instr c.in-Some.ensures.0 c.in-Some.ensures.1 c.next_points-first.result.0
    c.next_points-first.result.1 c.next_points-first.ensures c.args.to.now (rw c.order.ensures at (sym c.is_eq.ensures ∙ c.if-is_eq.true)) c.shift_of.result
    c.shift_of.ensures

pub returns-then-is_eq-2 : goal.returns-then-is_eq-2
returns-then-is_eq-2 c =
    ahead_second c.args.edition c.args.game.now c.args.from.now c.in-Some.instr c.in-Some.ensures.0 c.in-Some.ensures.1 c.next_points-first.result.0
    c.next_points-first.result.1 c.next_points-first.ensures c.args.to.now c.in-Some-second.second c.in-Some-second.is
    (rw c.order-2.ensures at (sym c.is_eq-2.ensures ∙ c.if-is_eq-2.true)) c.shift_of-then-is_eq-2.result c.shift_of-then-is_eq-2.ensures
