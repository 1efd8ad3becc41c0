use Rattle.std.proofs.Common.{◌≡◌, [], Bool, true, false, refl, sym, subst}
use Rattle.vip_board.specs.Moves.{IfDone}
use Rattle.vip_board.specs.declared.board.Moved.{Moved}
use Rattle.vip_board.specs.declared.board.Moved.TheVariants.{Done, End}
use Rattle.vip_relation.specs.State.{VipState, events_waiting}
use Rattle.vip_relation.specs.Follows.{Follows}
use Rattle.vip_relation.specs.Meets.{MovesOn, Rests}
use Rattle.vip_relation.specs.Parts.{MeetsAll, Steps}
use Rattle.vip_relation.proofs.Advances.{moves-on, rests-met, runs-met}
use Rattle.vip_relation.proofs.Telling.{tells-moved}
use Rattle.vip_relation.proofs.vip.Vip.one_move.Goals as goal

moves_by_answer : (u v w x : VipState) (r : Moved) → MeetsAll u v → IfDone r (λ name. Steps v w name) → MeetsAll w x → Follows x
    → IfDone r (λ name. MovesOn u x name)
moves_by_answer u v w x (Done name) before step after follows = moves-on u v w x name before step after follows
moves_by_answer u v w x End before step after follows = tt

not_true : (t : Bool) → t ≡ false → t ≡ true → ⊥
not_true t h g = cc

pub returns-then-rests-clause-follows : goal.returns-then-rests-clause-follows
returns-then-rests-clause-follows c = subst Follows c.self.view_is c.self.invariant.follows

pub returns-then-rests-clause-end : goal.returns-then-rests-clause-end
returns-then-rests-clause-end c = (λ e. subst (Rests c.args.limit) c.self.view_is (c.rests.ensures.rests.0 c.if-rests.true), λ r. refl)

pub step-moved-requires-clause-met : goal.step-moved-requires-clause-met
step-moved-requires-clause-met c = subst (λ v. events_waiting v ≡ []) (sym c.self-2.view_is) c.meet_all.ensures.all.met

pub step-moved-requires-clause-runs : goal.step-moved-requires-clause-runs
step-moved-requires-clause-runs c =
    runs-met c.args.limit c.args.self.now c.self-2.inside.run (subst (MeetsAll c.args.self.now) (sym c.self-2.view_is) c.meet_all.ensures.all)
    (λ r. not_true c.rests.result c.if-rests.false (c.rests.ensures.rests.1 (subst (Rests c.args.limit) (sym c.self.view_is) r)))

pub invariant_of-self : goal.invariant_of-self
invariant_of-self c =
    tells-moved c.self-2.inside c.self-2.invariant c.step-moved.new.self c.step-moved.result c.step-moved.ensures.follows c.step-moved.ensures.kept
    c.step-moved.ensures.moved

pub returns-clause-end : goal.returns-clause-end
returns-clause-end c = (
  λ e. rests-met c.args.limit c.args.self.now c.self-2.inside.run
      (subst (MeetsAll c.args.self.now) (sym c.self-2.view_is) c.meet_all.ensures.all) (c.step-moved.ensures.end.0 e),
  λ r. absurd (not_true c.rests.result c.if-rests.false (c.rests.ensures.rests.1 (subst (Rests c.args.limit) (sym c.self.view_is) r))),
)

pub returns-clause-kept : goal.returns-clause-kept
returns-clause-kept c e =
    let r = rests-met c.args.limit c.args.self.now c.self-2.inside.run
    (subst (MeetsAll c.args.self.now) (sym c.self-2.view_is) c.meet_all.ensures.all) (c.step-moved.ensures.end.0 e) in
    absurd (not_true c.rests.result c.if-rests.false (c.rests.ensures.rests.1 (subst (Rests c.args.limit) (sym c.self.view_is) r)))

pub returns-clause-moved : goal.returns-clause-moved
returns-clause-moved c =
    moves_by_answer c.args.self.now c.self-2.inside.run c.step-moved.new.self c.meet_all-2.new.self c.step-moved.result
    (subst (MeetsAll c.args.self.now) (sym c.self-2.view_is) c.meet_all.ensures.all) c.step-moved.ensures.moved c.meet_all-2.ensures.all
    c.meet_all-2.ensures.follows
