use Rattle.std.proofs.Common.{◌≡◌, ◌+◌, ◌-◌, subst, arith}
use Rattle.vip_debug.proofs.TargetMoving.{Stepping, gone-first, some-moves, stepping-next, steps-few, few-moved, steps-all, all-moved}
use Rattle.vip_debug.proofs.moves.make_moves.Goals as goal

pub loop-left-init : goal.loop-left-init
loop-left-init g c =
    let none : 0 ≡ c.args.moves - c.from-left.result = omega (arith, c.from-left.ensures) in
    record {
      stepping =
          subst (Stepping g.T.Target.seen g.T.Target.ends g.T.Target.leads c.args.limit c.args.target.now c.args.target.now) none
          (record { gone = gone-first g.T.Target.seen g.T.Target.ends g.T.Target.leads c.args.limit c.args.target.now c.requires.boundary; here = c.requires.within });
      few = omega (arith, c.from-left.ensures);
    }

pub make_some-made-requires-clause-boundary : goal.make_some-made-requires-clause-boundary
make_some-made-requires-clause-boundary g c = c.loop-left.invariant.stepping.gone.going.stands.phase

pub make_some-made-requires-clause-within : goal.make_some-made-requires-clause-within
make_some-made-requires-clause-within g c = c.loop-left.invariant.stepping.here

pub returns-then-made-eq0-clause-comes : goal.returns-then-made-eq0-clause-comes
returns-then-made-eq0-clause-comes g c =
    steps-few g.T.Target.seen g.T.Target.ends g.T.Target.leads g.met.T.Target.leads_on c.args.limit c.args.target.now c.loop-left.target c.make_some-made.new.target
    (c.args.moves - c.loop-left.left) c.loop-left.invariant.stepping c.args.moves (omega (arith, c.loop-left-test.true, c.loop-left.invariant.few))
    (c.make_some-made.ensures.kept c.if-made-eq0.true) (c.make_some-made.ensures.end.0 c.if-made-eq0.true)

pub returns-then-made-eq0-clause-moved : goal.returns-then-made-eq0-clause-moved
returns-then-made-eq0-clause-moved g c =
    few-moved g.T.Target.seen g.T.Target.ends g.T.Target.leads g.met.T.Target.leads_on c.args.limit c.args.target.now c.loop-left.target c.make_some-made.new.target
    (c.args.moves - c.loop-left.left) c.loop-left.invariant.stepping c.args.moves (omega (arith, c.loop-left-test.true, c.loop-left.invariant.few))
    (c.make_some-made.ensures.kept c.if-made-eq0.true) (c.make_some-made.ensures.end.0 c.if-made-eq0.true)

pub loop-left-preserved : goal.loop-left-preserved
loop-left-preserved g c =
    let x = c.loop-left.target in
    let made = c.make_some-made.ensures.moved in
    let m =
    some-moves g.T.Target.seen g.T.Target.ends g.T.Target.leads _ c.args.limit x c.make_some-made.new.target c.make_some-made.result
    c.if-made-eq0.false c.make_some-made.ensures.end.1 made in
    let i = c.loop-left.invariant in
    let on : c.args.moves - c.loop-left.left + c.make_some-made.result ≡ c.args.moves - (c.loop-left.left - c.make_some-made.result) =
    omega (arith, i.few, c.make_some-made.ensures.few) in
    record {
      stepping =
          subst (Stepping g.T.Target.seen g.T.Target.ends g.T.Target.leads c.args.limit c.args.target.now c.make_some-made.new.target) on
          (stepping-next g.T.Target.seen g.T.Target.ends g.T.Target.leads g.met.T.Target.leads_on c.args.limit c.args.target.now x c.make_some-made.new.target
          (c.args.moves - c.loop-left.left) i.stepping c.make_some-made.result m);
      few = omega (arith, i.few);
    }

pub returns-clause-comes : goal.returns-clause-comes
returns-clause-comes g c =
    steps-all g.T.Target.seen g.T.Target.ends g.T.Target.leads g.met.T.Target.leads_on c.args.limit c.args.target.now c.loop-left.target c.loop-left.target
    (c.args.moves - c.loop-left.left) c.loop-left.invariant.stepping c.args.moves (omega (arith, c.loop-left-test.false))

pub returns-clause-moved : goal.returns-clause-moved
returns-clause-moved g c =
    all-moved g.T.Target.seen g.T.Target.ends g.T.Target.leads g.met.T.Target.leads_on c.args.limit c.args.target.now c.loop-left.target c.loop-left.target
    (c.args.moves - c.loop-left.left) c.loop-left.invariant.stepping c.args.moves (omega (arith, c.loop-left-test.false))
