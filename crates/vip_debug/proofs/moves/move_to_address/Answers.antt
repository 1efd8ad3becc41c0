use Rattle.std.proofs.Common.{◌≡◌, ◌∙◌, refl, sym, ap, arith}
use Rattle.vip_board.specs.Seen.{Seen}
use Rattle.vip_debug.specs.TargetRun.{run_from, state_of}
use Rattle.vip_debug.specs.Commands.{starts_at}
use Rattle.vip_debug.proofs.TargetMoving.{gone-smaller, some-moves, seeking-first, seeking-next, gone-on, finds, finds-moved, finds-none, none-moved, starts-here, starts-between}
use Rattle.vip_debug.proofs.moves.move_to_address.Goals as goal

pub loop-limit-init : goal.loop-limit-init
loop-limit-init g c = seeking-first g.T.Target.seen g.T.Target.ends g.T.Target.leads c.args.limit _ c.args.target.now c.requires.boundary c.requires.within

pub move_on-requires : goal.move_on-requires
move_on-requires g c = record { boundary = c.loop-limit.invariant.gone.going.stands.phase }

pub starts_at-requires : goal.starts_at-requires
starts_at-requires g c =
    let old = run_from (g.T.Target.ends c.args.target.now) (g.T.Target.seen c.args.target.now) in
    let inv = c.loop-limit.invariant in
    let m =
    some-moves g.T.Target.seen g.T.Target.ends g.T.Target.leads _ c.args.limit c.loop-limit.target c.move_on.new.self c.move_on.result
    (λ none. omega (arith, none, c.loop-limit-test.true)) (c.move_on.ensures.end.1) c.move_on.ensures.moved in
    let on = gone-on g.T.Target.seen g.T.Target.ends g.T.Target.leads g.met.T.Target.leads_on c.args.limit _ c.args.target.now c.loop-limit.target
    c.move_on.new.self inv c.move_on.result m in
    ap (λ (s : Seen). s.phase) c.board.ensures ∙ on.going.stands.phase

pub returns-then-starts_at-clause-comes : goal.returns-then-starts_at-clause-comes
returns-then-starts_at-clause-comes g c =
    let old = run_from (g.T.Target.ends c.args.target.now) (g.T.Target.seen c.args.target.now) in
    let inv = c.loop-limit.invariant in
    let m =
    some-moves g.T.Target.seen g.T.Target.ends g.T.Target.leads _ c.args.limit c.loop-limit.target c.move_on.new.self c.move_on.result
    (λ none. omega (arith, none, c.loop-limit-test.true)) (c.move_on.ensures.end.1) c.move_on.ensures.moved in
    let on = gone-on g.T.Target.seen g.T.Target.ends g.T.Target.leads g.met.T.Target.leads_on c.args.limit _ c.args.target.now c.loop-limit.target
    c.move_on.new.self inv c.move_on.result m in
    let here = starts-here old _ on.going.stands refl _ c.board.ensures c.args.address in
    let between = starts-between g.T.Target.seen g.T.Target.ends g.T.Target.leads g.met.T.Target.leads_on c.args.limit _ c.args.target.now c.loop-limit.target c.move_on.new.self inv
    c.move_on.result m c.args.address
    (c.move_on.ensures.moved m.some).0.apart in
    finds g.T.Target.seen g.T.Target.ends g.T.Target.leads g.met.T.Target.leads_on c.args.limit (λ k. starts_at c.args.address (state_of old k))
    c.args.target.now c.loop-limit.target c.move_on.new.self inv c.move_on.result m between
    (sym here ∙ sym c.starts_at.ensures ∙ c.if-starts_at.true)

pub returns-then-starts_at-clause-moved : goal.returns-then-starts_at-clause-moved
returns-then-starts_at-clause-moved g c =
    let old = run_from (g.T.Target.ends c.args.target.now) (g.T.Target.seen c.args.target.now) in
    let inv = c.loop-limit.invariant in
    let m =
    some-moves g.T.Target.seen g.T.Target.ends g.T.Target.leads _ c.args.limit c.loop-limit.target c.move_on.new.self c.move_on.result
    (λ none. omega (arith, none, c.loop-limit-test.true)) (c.move_on.ensures.end.1) c.move_on.ensures.moved in
    let on = gone-on g.T.Target.seen g.T.Target.ends g.T.Target.leads g.met.T.Target.leads_on c.args.limit _ c.args.target.now c.loop-limit.target
    c.move_on.new.self inv c.move_on.result m in
    let here = starts-here old _ on.going.stands refl _ c.board.ensures c.args.address in
    let between = starts-between g.T.Target.seen g.T.Target.ends g.T.Target.leads g.met.T.Target.leads_on c.args.limit _ c.args.target.now c.loop-limit.target c.move_on.new.self inv
    c.move_on.result m c.args.address
    (c.move_on.ensures.moved m.some).0.apart in
    finds-moved g.T.Target.seen g.T.Target.ends g.T.Target.leads g.met.T.Target.leads_on c.args.limit (λ k. starts_at c.args.address (state_of old k))
    c.args.target.now c.loop-limit.target c.move_on.new.self inv c.move_on.result m between
    (sym here ∙ sym c.starts_at.ensures ∙ c.if-starts_at.true)

pub loop-limit-smaller : goal.loop-limit-smaller
loop-limit-smaller g c =
    let old = run_from (g.T.Target.ends c.args.target.now) (g.T.Target.seen c.args.target.now) in
    let inv = c.loop-limit.invariant in
    let m =
    some-moves g.T.Target.seen g.T.Target.ends g.T.Target.leads _ c.args.limit c.loop-limit.target c.move_on.new.self c.move_on.result
    (λ none. omega (arith, none, c.loop-limit-test.true)) (c.move_on.ensures.end.1) c.move_on.ensures.moved in
    gone-smaller g.T.Target.seen g.T.Target.ends g.T.Target.leads g.met.T.Target.leads_on c.args.limit c.args.target.now c.loop-limit.target
    c.move_on.new.self _ inv.gone c.move_on.result m

pub loop-limit-preserved : goal.loop-limit-preserved
loop-limit-preserved g c =
    let old = run_from (g.T.Target.ends c.args.target.now) (g.T.Target.seen c.args.target.now) in
    let inv = c.loop-limit.invariant in
    let m =
    some-moves g.T.Target.seen g.T.Target.ends g.T.Target.leads _ c.args.limit c.loop-limit.target c.move_on.new.self c.move_on.result
    (λ none. omega (arith, none, c.loop-limit-test.true)) (c.move_on.ensures.end.1) c.move_on.ensures.moved in
    let on = gone-on g.T.Target.seen g.T.Target.ends g.T.Target.leads g.met.T.Target.leads_on c.args.limit _ c.args.target.now c.loop-limit.target
    c.move_on.new.self inv c.move_on.result m in
    let here = starts-here old _ on.going.stands refl _ c.board.ensures c.args.address in
    let between = starts-between g.T.Target.seen g.T.Target.ends g.T.Target.leads g.met.T.Target.leads_on c.args.limit _ c.args.target.now c.loop-limit.target c.move_on.new.self inv
    c.move_on.result m c.args.address
    (c.move_on.ensures.moved m.some).0.apart in
    seeking-next g.T.Target.seen g.T.Target.ends g.T.Target.leads g.met.T.Target.leads_on c.args.limit (λ k. starts_at c.args.address (state_of old k))
    c.args.target.now c.loop-limit.target c.move_on.new.self inv c.move_on.result m between
    (sym here ∙ sym c.starts_at.ensures ∙ c.if-starts_at.false)

pub returns-clause-comes : goal.returns-clause-comes
returns-clause-comes g c =
    let none : c.move_on.result ≡ 0 = omega (arith, c.loop-limit-test.false) in
    finds-none g.T.Target.seen g.T.Target.ends g.T.Target.leads g.met.T.Target.leads_on c.args.limit _ c.args.target.now c.loop-limit.target
    c.move_on.new.self c.loop-limit.invariant (c.move_on.ensures.kept none) (c.move_on.ensures.end.0 none)

pub returns-clause-moved : goal.returns-clause-moved
returns-clause-moved g c =
    let none : c.move_on.result ≡ 0 = omega (arith, c.loop-limit-test.false) in
    none-moved g.T.Target.seen g.T.Target.ends g.T.Target.leads g.met.T.Target.leads_on c.args.limit _ c.args.target.now c.loop-limit.target
    c.move_on.new.self c.loop-limit.invariant (c.move_on.ensures.kept none) (c.move_on.ensures.end.0 none)
