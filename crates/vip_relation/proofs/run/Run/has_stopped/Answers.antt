use Rattle.std.proofs.Common.{◌≡◌, true, false, refl, ap, sym, ◌∙◌, subst}
use Rattle.chip8_lang.specs.Events.{is_dispatch, is_stop}
use Rattle.chip8_image.specs.Interpreters.{interpreter_of}
use Rattle.vip_relation.specs.Meets.{HasStopped}
use Rattle.vip_relation.specs.Points.{point_events}
use Rattle.vip_relation.specs.Kept.{state_of, HasWaiting, IsKept, PictureWaits}
use Rattle.vip_relation.specs.State.{events_waiting}
use Rattle.vip_relation.specs.declared.point.Point.TheVariants.{Stop}
use Rattle.vip_relation.specs.declared.run.Run.TheInside.{Inside}
use Rattle.vip_relation.specs.declared.run.Waits.{Waits}
use Rattle.vip_relation.specs.declared.run.Waits.TheVariants.{Nothing, Picture, Point}
use Rattle.vip_relation.proofs.Meetings.{is-stop, no-stop-point, stop-waits}
use Rattle.vip_relation.proofs.run.Run.has_stopped.Goals as goal

never : false ≡ true → ⊥
never h = cc

module _ (a : Inside) (k : IsKept a) where
  waiting_is : (waits : Waits) → a.waits ≡ waits → HasWaiting waits (state_of a) a.point
  waiting_is waits is = subst (λ w. HasWaiting w (state_of a) a.point) is k.waiting

  stopped : a.point ≡ Stop → a.waits ≡ Nothing → HasStopped (state_of a)
  stopped at none = record {
    stop =
        is-stop (is_stop (interpreter_of a.edition) a.board.machine) (is_dispatch (interpreter_of a.edition) a.board.machine) (sym at ∙ k.point);
    met = waiting_is Nothing none;
  }

  -- a stop that waits isn't met yet
  not_met : (a.waits ≡ Nothing → ⊥) → HasStopped (state_of a) → ⊥
  not_met some s = by_waits a.waits refl
    where
      by_waits : (waits : Waits) → a.waits ≡ waits → ⊥
      by_waits Nothing is = some is
      by_waits Picture is =
          let p : PictureWaits (state_of a) a.point = waiting_is Picture is in
          let bad = sym p.events ∙ s.met in cc
      by_waits Point is =
          let waits : events_waiting (state_of a) ≡ point_events a.point a.board.machine = waiting_is Point is in
          stop-waits (is_stop (interpreter_of a.edition) a.board.machine) (is_dispatch (interpreter_of a.edition) a.board.machine) a.board.machine s.stop
          (sym (ap (λ p. point_events p a.board.machine) k.point) ∙ sym waits ∙ s.met)

  no_stop : (a.point ≡ Stop → ⊥) → HasStopped (state_of a) → ⊥
  no_stop other s =
      never
      (sym (no-stop-point (is_stop (interpreter_of a.edition) a.board.machine) (is_dispatch (interpreter_of a.edition) a.board.machine) a.point k.point other)
      ∙ s.stop)

pub returns-in-Stop-Nothing : goal.returns-in-Stop-Nothing
returns-in-Stop-Nothing c =
    (λ t. subst HasStopped c.self.view_is (stopped c.self.inside c.self.invariant c.in-Stop-Nothing.is-0 c.in-Stop-Nothing.is-1), λ s. refl)

pub returns-in_default : goal.returns-in_default
returns-in_default c =
    (λ t. absurd (never t), λ s. absurd (not_met c.self.inside c.self.invariant c.in_default.not-Nothing-1 (subst HasStopped (sym c.self.view_is) s)))

pub returns-in_default-2 : goal.returns-in_default-2
returns-in_default-2 c =
    (λ t. absurd (never t), λ s. absurd (no_stop c.self.inside c.self.invariant c.in_default.not-Stop-0 (subst HasStopped (sym c.self.view_is) s)))
