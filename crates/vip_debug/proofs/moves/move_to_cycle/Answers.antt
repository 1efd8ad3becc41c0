use Rattle.std.proofs.Common.{◌≡◌, ◌≤◌, ℕ, min, arith}
use Rattle.vip_byte.specs.Number.{most_cycles}
use Rattle.vip_debug.proofs.TargetMoving.{some-moves, until-first, until-next, until-smaller, until-arrives, until-moved}
use Rattle.vip_debug.proofs.moves.move_to_cycle.Goals as goal

-- no limit lies above the most
ends-at : (last end cycle cycles limit : ℕ) → last ≡ min end most_cycles → end ≡ min cycle cycles → cycles ≡ limit → cycles ≤ most_cycles
    → last ≡ min cycle limit
ends-at last end cycle cycles limit is earlier same few = omega (arith, is, earlier, same, few)

pub loop-last-init : goal.loop-last-init
loop-last-init g c =
    until-first g.T.Target.seen g.T.Target.ends g.T.Target.leads c.args.limit (min c.args.cycle c.args.limit) c.args.target.now c.requires.boundary
    c.requires.within

pub move_on-requires : goal.move_on-requires
move_on-requires g c = record { boundary = c.loop-last.invariant.gone.going.stands.phase }

pub loop-last-smaller : goal.loop-last-smaller
loop-last-smaller g c =
    let last = ends-at _ _ _ _ _ c.up_to-last.ensures c.min.ensures c.cycles.ensures.value c.cycles.ensures.bound in
    let end = rw last at c.move_on.ensures.end in
    let made = rw last at c.move_on.ensures.moved in
    let m =
    some-moves g.T.Target.seen g.T.Target.ends g.T.Target.leads _ (min c.args.cycle c.args.limit) c.loop-last.target c.move_on.new.self c.move_on.result
    (λ none. omega (arith, none, c.loop-last-test.true)) (end.1) made in
    until-smaller g.T.Target.seen g.T.Target.ends g.T.Target.leads g.met.T.Target.leads_on c.args.limit c.args.cycle c.args.target.now c.loop-last.target
    c.move_on.new.self c.loop-last.invariant c.move_on.result m

pub loop-last-preserved : goal.loop-last-preserved
loop-last-preserved g c =
    let last = ends-at _ _ _ _ _ c.up_to-last.ensures c.min.ensures c.cycles.ensures.value c.cycles.ensures.bound in
    let end = rw last at c.move_on.ensures.end in
    let made = rw last at c.move_on.ensures.moved in
    let m =
    some-moves g.T.Target.seen g.T.Target.ends g.T.Target.leads _ (min c.args.cycle c.args.limit) c.loop-last.target c.move_on.new.self c.move_on.result
    (λ none. omega (arith, none, c.loop-last-test.true)) (end.1) made in
    until-next g.T.Target.seen g.T.Target.ends g.T.Target.leads g.met.T.Target.leads_on c.args.limit c.args.cycle c.args.target.now c.loop-last.target
    c.move_on.new.self c.loop-last.invariant c.move_on.result m

pub returns-clause-comes : goal.returns-clause-comes
returns-clause-comes g c =
    let last = ends-at _ _ _ _ _ c.up_to-last.ensures c.min.ensures c.cycles.ensures.value c.cycles.ensures.bound in
    let end = rw last at c.move_on.ensures.end in
    let none : c.move_on.result ≡ 0 = omega (arith, c.loop-last-test.false) in
    until-arrives g.T.Target.seen g.T.Target.ends g.T.Target.leads g.met.T.Target.leads_on c.args.limit c.args.cycle c.args.target.now c.loop-last.target
    c.move_on.new.self c.loop-last.invariant (c.move_on.ensures.kept none) (end.0 none)

pub returns-clause-moved : goal.returns-clause-moved
returns-clause-moved g c =
    let last = ends-at _ _ _ _ _ c.up_to-last.ensures c.min.ensures c.cycles.ensures.value c.cycles.ensures.bound in
    let end = rw last at c.move_on.ensures.end in
    let none : c.move_on.result ≡ 0 = omega (arith, c.loop-last-test.false) in
    until-moved g.T.Target.seen g.T.Target.ends g.T.Target.leads g.met.T.Target.leads_on c.args.limit c.args.cycle c.args.target.now c.loop-last.target
    c.move_on.new.self c.loop-last.invariant (c.move_on.ensures.kept none) (end.0 none)
