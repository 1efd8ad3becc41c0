use Rattle.std.proofs.Common.{ap, arith}
use Rattle.vip_board.specs.Seen.{Seen}
use Rattle.vip_debug.proofs.TargetMoving.{made-few}
use Rattle.vip_debug.proofs.moves.make_some.Goals as goal

pub returns-then-made-gt0-clause-few : goal.returns-then-made-gt0-clause-few
returns-then-made-gt0-clause-few g c =
    made-few g.T.Target.seen g.T.Target.ends g.T.Target.leads _ c.args.most c.args.target.now c.move_on-made.new.self c.move_on-made.result
    (omega (arith, c.up_to.ensures, c.min-end.ensures, c.now.ensures, ap (λ (s : Seen). s.machine.cycle) c.board.ensures)) (c.move_on-made.ensures.moved c.if-made-gt0.true)
