use Rattle.std.proofs.Common.{◌≡◌, ◌≤◌, [], arith, ap, sym, ◌∙◌, subst, subst₂, Some}
use Rattle.chip8_lang.specs.Events.{is_dispatch, is_stop}
use Rattle.chip8_lang.specs.Events.Event.{Picture, Dispatch, Stopped}
use Rattle.chip8_lang.specs.View.{view_at}
use Rattle.vip_relation.specs.State.{VipState, interpreter, events_waiting, screen_bytes}
use Rattle.vip_relation.specs.Stops.{stop_record}
use Rattle.vip_relation.specs.Parts.{MeetsFirst}
use Rattle.vip_relation.specs.Points.{point_events}
use Rattle.vip_relation.specs.Kept.{by_run, state_of, IsKept, HasWaiting, PictureWaits}
use Rattle.vip_relation.specs.declared.point.Point.{Point}
use Rattle.vip_relation.specs.declared.point.Point.TheVariants.{Dispatch as DispatchPoint, Stop as StopPoint}
use Rattle.vip_relation.specs.declared.run.Met.TheVariants.{Picture as PictureMet, Dispatch as DispatchMet, Stopped as StoppedMet}
use Rattle.vip_relation.specs.declared.run.Waits.TheVariants.{Picture as PictureWaiting, Point as PointWaiting}
use Rattle.vip_relation.specs.declared.run.Run.TheInside.{Inside}
use Rattle.vip_relation.proofs.ByRun.{as-run, follows-run, named-run}
use Rattle.vip_relation.proofs.Meetings.{told, waiting-less, follows-picture, meets-picture, follows-dispatch, meets-dispatch, follows-stop, meets-stop, is-stop, runs-on}
use Rattle.vip_relation.proofs.Steps.{few-met}
use Rattle.vip_relation.proofs.run.Run.meet.Goals as goal

-- ---- by the fields

picture_of : (a : Inside) → IsKept a → a.waits ≡ PictureWaiting → PictureWaits (state_of a) a.point
picture_of a k is = subst (λ w. HasWaiting w (state_of a) a.point) is k.waiting

point_waits : (a : Inside) → IsKept a → a.waits ≡ PointWaiting → (p : Point) → a.point ≡ p → events_waiting (state_of a) ≡ point_events p a.board.machine
point_waits a k is p same =
    subst (λ w. HasWaiting w (state_of a) a.point) is k.waiting ∙ ap (λ p. point_events p a.board.machine) same

-- ---- a picture

pub overflow_add-self : goal.overflow_add-self
overflow_add-self c =
    let few : c.self.inside.met ≤ 8_000_000_002 = few-met (state_of c.self.inside) c.self.invariant.follows in
    omega (arith, few)

pub invariant_of-self : goal.invariant_of-self
invariant_of-self c =
    let v = state_of c.self.inside in
    let p = picture_of c.self.inside c.self.invariant c.in-Picture-default.is-0 in
    let f = follows-picture v c.self.invariant.follows c.self.inside.point p in
    record {
      follows = follows-run (told v v.last v.shown) f;
      point = c.self.invariant.point;
      waiting =
          waiting-less v c.self.invariant.follows (Picture p.frame)
          (point_events c.self.inside.point c.self.inside.board.machine) p.events v.last v.shown;
      last = named-run (told v v.last v.shown) f c.self.inside.last c.self.invariant.last;
    }

pub returns-in-Picture-default-clause-follows : goal.returns-in-Picture-default-clause-follows
returns-in-Picture-default-clause-follows c =
    let v : VipState = state_of c.self.inside in
    follows-run (told v v.last v.shown)
    (follows-picture v c.self.invariant.follows c.self.inside.point (picture_of c.self.inside c.self.invariant c.in-Picture-default.is-0))

pub returns-in-Picture-default-clause-first : goal.returns-in-Picture-default-clause-first
returns-in-Picture-default-clause-first c =
    let v : VipState = state_of c.self.inside in
    let p = picture_of c.self.inside c.self.invariant c.in-Picture-default.is-0 in
    subst (λ old. MeetsFirst old (by_run (told v v.last v.shown)) PictureMet) c.self.view_is
    (as-run (λ new. MeetsFirst v new PictureMet) (told v v.last v.shown) (follows-picture v c.self.invariant.follows c.self.inside.point p)
    (meets-picture v c.self.invariant.follows c.self.inside.point p c.self.invariant.point))

-- ---- a dispatch point

pub overflow_add-self-in-Point-Dispatch : goal.overflow_add-self-in-Point-Dispatch
overflow_add-self-in-Point-Dispatch c =
    let few : c.self.inside.met ≤ 8_000_000_002 = few-met (state_of c.self.inside) c.self.invariant.follows in
    omega (arith, few)

-- what is told of it then
abbrev here : VipState → VipState
here v = told v (Some (view_at v.edition v.board.machine)) (screen_bytes v.edition v.board.machine)

pub invariant_of-self-in-Dispatch-1 : goal.invariant_of-self-in-Dispatch-1
invariant_of-self-in-Dispatch-1 c =
    let v : VipState = state_of c.self.inside in
    let waits = point_waits c.self.inside c.self.invariant c.in-Point-Dispatch.is-0 DispatchPoint c.in-Point-Dispatch.is-1 in
    let f = follows-dispatch v c.self.invariant.follows waits in
    record {
      follows = follows-run (here v) f;
      point = c.self.invariant.point;
      waiting = waiting-less v c.self.invariant.follows (Dispatch v.board.machine) [] waits v.last v.shown;
      last = named-run (here v) f (Some c.name_point.result) (ap Some c.name_point.ensures);
    }

pub returns-in-Point-Dispatch-clause-follows : goal.returns-in-Point-Dispatch-clause-follows
returns-in-Point-Dispatch-clause-follows c =
    let v : VipState = state_of c.self.inside in
    let waits = point_waits c.self.inside c.self.invariant c.in-Point-Dispatch.is-0 DispatchPoint c.in-Point-Dispatch.is-1 in
    follows-run (here v) (follows-dispatch v c.self.invariant.follows waits)

pub returns-in-Point-Dispatch-clause-first : goal.returns-in-Point-Dispatch-clause-first
returns-in-Point-Dispatch-clause-first c =
    let v : VipState = state_of c.self.inside in
    let waits = point_waits c.self.inside c.self.invariant c.in-Point-Dispatch.is-0 DispatchPoint c.in-Point-Dispatch.is-1 in
    let runs =
    runs-on (is_stop (interpreter v) v.board.machine) (is_dispatch (interpreter v) v.board.machine)
    (sym c.in-Point-Dispatch.is-1 ∙ c.self.invariant.point) in
    subst (λ old. MeetsFirst old (by_run (here v)) DispatchMet) c.self.view_is
    (as-run (λ new. MeetsFirst v new DispatchMet) (here v) (follows-dispatch v c.self.invariant.follows waits)
    (meets-dispatch v c.self.invariant.follows waits runs))

-- ---- a stop point

pub overflow_add-self-in-Point-Stop : goal.overflow_add-self-in-Point-Stop
overflow_add-self-in-Point-Stop c =
    let few : c.self.inside.met ≤ 8_000_000_002 = few-met (state_of c.self.inside) c.self.invariant.follows in
    omega (arith, few)

pub invariant_of-self-in-Stop-1 : goal.invariant_of-self-in-Stop-1
invariant_of-self-in-Stop-1 c =
    let v : VipState = state_of c.self.inside in
    let waits = point_waits c.self.inside c.self.invariant c.in-Point-Stop.is-0 StopPoint c.in-Point-Stop.is-1 in
    let f = follows-stop v c.self.invariant.follows waits in
    record {
      follows = follows-run (told v v.last v.shown) f;
      point = c.self.invariant.point;
      waiting = waiting-less v c.self.invariant.follows (Stopped v.board.machine) [] waits v.last v.shown;
      last = named-run (told v v.last v.shown) f c.self.inside.last c.self.invariant.last;
    }

pub returns-in-Point-Stop-clause-follows : goal.returns-in-Point-Stop-clause-follows
returns-in-Point-Stop-clause-follows c =
    let v : VipState = state_of c.self.inside in
    follows-run (told v v.last v.shown)
    (follows-stop v c.self.invariant.follows (point_waits c.self.inside c.self.invariant c.in-Point-Stop.is-0 StopPoint c.in-Point-Stop.is-1))

pub returns-in-Point-Stop-clause-first : goal.returns-in-Point-Stop-clause-first
returns-in-Point-Stop-clause-first c =
    let v : VipState = state_of c.self.inside in
    let waits = point_waits c.self.inside c.self.invariant c.in-Point-Stop.is-0 StopPoint c.in-Point-Stop.is-1 in
    let stop = c.stop_record-stop.ensures ∙ ap (λ (old : VipState). stop_record old.last old.board.machine) (sym c.self.view_is) in
    subst₂ (λ old answer. MeetsFirst old (by_run (told v v.last v.shown)) answer) c.self.view_is (ap StoppedMet (sym stop))
    (as-run (λ new. MeetsFirst v new (StoppedMet (stop_record v.last v.board.machine))) (told v v.last v.shown) (follows-stop v c.self.invariant.follows waits)
    (meets-stop v c.self.invariant.follows waits
    (is-stop (is_stop (interpreter v) v.board.machine) (is_dispatch (interpreter v) v.board.machine)
    (sym c.in-Point-Stop.is-1 ∙ c.self.invariant.point))))
