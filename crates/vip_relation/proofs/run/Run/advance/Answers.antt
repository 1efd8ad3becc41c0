use Rattle.std.proofs.Common.{◌≡◌, ◌<◌, ◌≤◌, [], false, arith, refl, ap, sym, subst}
use Rattle.std.proofs.lemmas.Bool.{both_ways}
use Rattle.chip8_lang.specs.Events.{is_stop}
use Rattle.vip_board.proofs.Through.{positive}
use Rattle.vip_relation.specs.Follows.{Follows}
use Rattle.vip_relation.specs.State.{VipState, interpreter, events_left, events_waiting}
use Rattle.vip_relation.specs.Meets.{MeetsNext, HasStopped}
use Rattle.vip_relation.specs.Parts.{Runs}
use Rattle.vip_relation.specs.Kept.{state_of}
use Rattle.vip_relation.specs.declared.run.Met.TheVariants.{End, Stopped}
use Rattle.vip_relation.proofs.Advances.{Reaches, reaches-self, reaches-run, meets-entry, ends-entry, ends-before, some-left, no-stop}
use Rattle.vip_relation.proofs.run.Run.advance.Goals as goal

pub returns-then-has_stopped-clause-follows : goal.returns-then-has_stopped-clause-follows
returns-then-has_stopped-clause-follows c = subst Follows c.self.view_is c.self.invariant.follows

pub returns-then-has_stopped-clause-again : goal.returns-then-has_stopped-clause-again
returns-then-has_stopped-clause-again c stopped = record { same = refl; stop = ap Stopped c.stop_record.ensures }

pub returns-then-has_stopped-clause-next : goal.returns-then-has_stopped-clause-next
returns-then-has_stopped-clause-next c running = absurd (running (c.has_stopped.ensures.0 c.if-has_stopped.true))

pub returns-then-now-cycles-clause-follows : goal.returns-then-now-cycles-clause-follows
returns-then-now-cycles-clause-follows c = subst Follows c.self.view_is c.self.invariant.follows

pub returns-then-now-cycles-clause-again : goal.returns-then-now-cycles-clause-again
returns-then-now-cycles-clause-again c stopped = absurd (both_ways c.has_stopped.result c.if-has_stopped.false (c.has_stopped.ensures.1 stopped))

pub returns-in-Some-clause-again : goal.returns-in-Some-clause-again
returns-in-Some-clause-again c stopped = absurd (both_ways c.has_stopped.result c.if-has_stopped.false (c.has_stopped.ensures.1 stopped))

pub returns-then-run-eq0-clause-again : goal.returns-then-run-eq0-clause-again
returns-then-run-eq0-clause-again c stopped = absurd (both_ways c.has_stopped.result c.if-has_stopped.false (c.has_stopped.ensures.1 stopped))

pub returns-then-now-cycles-clause-next : goal.returns-then-now-cycles-clause-next
returns-then-now-cycles-clause-next c running =
    let over : c.args.limit < c.self.inside.board.machine.cycle = omega (arith, c.if-now-cycles.true, c.now.ensures, c.cycles.ensures.value) in
    subst (λ v. (HasStopped v → ⊥) → MeetsNext c.args.limit v v (events_left v c.args.limit) End) c.self.view_is
    (ends-before c.args.limit (state_of c.self.inside) c.self.invariant.follows over) running

pub returns-in-Some-clause-next : goal.returns-in-Some-clause-next
returns-in-Some-clause-next c running =
    let r = c.loop-met.invariant in
    meets-entry c.args.limit c.args.self.now c.loop-met.self c.meet.new.self r c.in-Some.met c.in-Some.ensures.first
    (some-left c.args.limit c.loop-met.self c.meet.new.self c.in-Some.met c.in-Some.ensures.first r.follows r.within)

pub loop-met-init : goal.loop-met-init
loop-met-init c =
    let within : c.self.inside.board.machine.cycle ≤ c.args.limit = omega (arith, c.if-now-cycles.false, c.now.ensures, c.cycles.ensures.value) in
    reaches-self c.args.limit c.args.self.now (subst (λ (v : VipState). v.board.machine.cycle ≤ c.args.limit) c.self.view_is within)
    (λ stopped. both_ways c.has_stopped.result c.if-has_stopped.false (c.has_stopped.ensures.1 stopped))
    (subst Follows c.self.view_is c.self.invariant.follows)

pub run-requires-clause-met : goal.run-requires-clause-met
run-requires-clause-met c = subst (λ v. events_waiting v ≡ []) (sym c.in_default.ensures.first.1) c.in_default.ensures.first.0

pub run-requires-clause-runs : goal.run-requires-clause-runs
run-requires-clause-runs c =
    subst (λ (v : VipState). is_stop (interpreter v) v.board.machine ≡ false) (sym c.in_default.ensures.first.1)
    (no-stop c.loop-met.self c.in_default.ensures.first.0 c.loop-met.invariant.goes_on)

pub returns-then-run-eq0-clause-next : goal.returns-then-run-eq0-clause-next
returns-then-run-eq0-clause-next c running =
    let v = c.meet.new.self in
    let r = subst (Reaches c.args.limit c.args.self.now) (sym c.in_default.ensures.first.1) c.loop-met.invariant in
    subst (λ w. MeetsNext c.args.limit c.args.self.now w (events_left c.args.self.now c.args.limit) End) (sym (c.run.ensures.kept c.if-run-eq0.true))
    (ends-entry c.args.limit c.args.self.now v r (subst (λ v. events_waiting v ≡ []) (sym c.in_default.ensures.first.1) c.in_default.ensures.first.0)
    (c.run.ensures.end c.if-run-eq0.true))

pub loop-met-preserved : goal.loop-met-preserved
loop-met-preserved c =
    let r = subst (Reaches c.args.limit c.args.self.now) (sym c.in_default.ensures.first.1) c.loop-met.invariant in
    reaches-run c.args.limit c.args.self.now c.meet.new.self c.run.new.self r (c.run.ensures.moved (positive c.run.result c.if-run-eq0.false)) c.run.ensures.follows

pub loop-met-smaller : goal.loop-met-smaller
loop-met-smaller c =
    let made : Runs c.args.limit c.meet.new.self c.run.new.self = c.run.ensures.moved (positive c.run.result c.if-run-eq0.false) in
    let same = ap (λ (v : VipState). v.board.machine.cycle) c.in_default.ensures.first.1 in
    omega (arith, same, made.passes.later, made.steps.later, made.within)
