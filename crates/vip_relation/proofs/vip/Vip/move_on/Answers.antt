use Rattle.std.proofs.Common.{◌≡◌, [], Bool, true, false, refl, sym, subst}
use Rattle.vip_relation.specs.Follows.{Follows}
use Rattle.vip_relation.specs.State.{events_waiting}
use Rattle.vip_relation.specs.Meets.{Rests}
use Rattle.vip_relation.specs.Parts.{MeetsAll}
use Rattle.vip_relation.proofs.Advances.{moves-by, rests-met, runs-met}
use Rattle.vip_relation.proofs.Telling.{tells-run}
use Rattle.vip_relation.proofs.vip.Vip.move_on.Goals as goal

not_true : (t : Bool) → t ≡ false → t ≡ true → ⊥
not_true t h g = cc

pub returns-then-rests-clause-follows : goal.returns-then-rests-clause-follows
returns-then-rests-clause-follows g c = subst Follows c.self.view_is c.self.invariant.follows

pub returns-then-rests-clause-end : goal.returns-then-rests-clause-end
returns-then-rests-clause-end g c = (λ e. subst (Rests c.args.limit) c.self.view_is (c.rests.ensures.rests.0 c.if-rests.true), λ r. refl)

pub run-made-requires-clause-met : goal.run-made-requires-clause-met
run-made-requires-clause-met g c = subst (λ v. events_waiting v ≡ []) (sym c.self-2.view_is) c.meet_all.ensures.all.met

pub run-made-requires-clause-runs : goal.run-made-requires-clause-runs
run-made-requires-clause-runs g c =
    runs-met c.args.limit c.args.self.now c.self-2.inside.run (subst (MeetsAll c.args.self.now) (sym c.self-2.view_is) c.meet_all.ensures.all)
    (λ r. not_true c.rests.result c.if-rests.false (c.rests.ensures.rests.1 (subst (Rests c.args.limit) (sym c.self.view_is) r)))

pub invariant_of-self : goal.invariant_of-self
invariant_of-self g c =
    tells-run c.self-2.inside c.self-2.invariant c.args.limit c.run-made.new.self c.run-made.result c.run-made.ensures.follows c.run-made.ensures.kept
    c.run-made.ensures.moved

pub returns-clause-end : goal.returns-clause-end
returns-clause-end g c = (
  λ e. rests-met c.args.limit c.args.self.now c.self-2.inside.run
      (subst (MeetsAll c.args.self.now) (sym c.self-2.view_is) c.meet_all.ensures.all) (c.run-made.ensures.end e),
  λ r. absurd (not_true c.rests.result c.if-rests.false (c.rests.ensures.rests.1 (subst (Rests c.args.limit) (sym c.self.view_is) r))),
)

pub returns-clause-kept : goal.returns-clause-kept
returns-clause-kept g c e =
    let r = rests-met c.args.limit c.args.self.now c.self-2.inside.run
    (subst (MeetsAll c.args.self.now) (sym c.self-2.view_is) c.meet_all.ensures.all) (c.run-made.ensures.end e) in
    absurd (not_true c.rests.result c.if-rests.false (c.rests.ensures.rests.1 (subst (Rests c.args.limit) (sym c.self.view_is) r)))

pub returns-clause-moved : goal.returns-clause-moved
returns-clause-moved g c some =
    moves-by c.args.limit (g.S.Stops.stands c.args.stops) c.args.self.now c.self-2.inside.run c.run-made.new.self c.meet_all-2.new.self c.run-made.result
    (subst (MeetsAll c.args.self.now) (sym c.self-2.view_is) c.meet_all.ensures.all) (c.run-made.ensures.moved some) (c.run-made.ensures.made some)
    c.meet_all-2.ensures.all c.meet_all-2.ensures.follows
