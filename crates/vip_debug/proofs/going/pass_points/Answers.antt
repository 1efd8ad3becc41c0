use Rattle.std.proofs.Common.{◌≡◌, ◌+◌, ◌-◌, arith, subst}
use Rattle.std.specs.Prelude.{slice_get}
use Rattle.vip_debug.specs.Parts.{FindAnswers, points_left}
use Rattle.vip_debug.proofs.Passing.{PassingPoints, points-next, found-none, found-last}
use Rattle.vip_debug.proofs.going.pass_points.Goals as goal

pub returns-then-not-pass-clause-answer : goal.returns-then-not-pass-clause-answer
returns-then-not-pass-clause-answer c =
    found-none _ _ _ _ _ c.loop-point.invariant.passing c.if-not-pass.ensures.follows (c.args.points - 1) c.loop-point.invariant.few
    c.if-not-pass.ensures.answer

pub loop-point-preserved : goal.loop-point-preserved
loop-point-preserved c =
    let next : c.loop-point._point - 1 + 1 ≡ c.loop-point._point + 1 - 1 = omega arith in
    record {
      passing =
          subst (PassingPoints c.args.limit c.args.vip.now c.pass.new.vip) next
          (points-next _ _ _ _ _ c.loop-point.invariant.passing c.if-not-pass.ensures.follows c.if-not-pass.ensures.answer);
      few = omega arith;
    }

pub returns-clause-answer : goal.returns-clause-answer
returns-clause-answer c =
    let few = c.loop-point.invariant.few in
    let all : c.loop-point._point - 1 ≡ c.args.points - 1 = omega (arith, few) in
    let found = found-last _ _ _ _ _ c.loop-point.invariant.passing c.pass-2.ensures.follows c.pass-2.result c.pass-2.ensures.answer in
    subst (λ n. FindAnswers c.args.limit c.args.vip.now c.pass-2.new.vip (slice_get (points_left c.args.vip.now c.args.limit) n) c.pass-2.result) all found
