use Rattle.std.proofs.Common.{◌≡◌, Bool, true, false, ap, sym, ◌∙◌, subst}
use Rattle.std.specs.Prelude.{if◌then◌else◌, Option, None, Some}
use Rattle.chip8_lang.specs.declared.view.StopRecord.{StopRecord}
use Rattle.chip8_lang.specs.Events.{is_dispatch, is_stop}
use Rattle.vip_relation.specs.State.{VipState, interpreter}
use Rattle.vip_relation.specs.Stops.{stop_record}
use Rattle.vip_relation.specs.Kept.{state_of}
use Rattle.vip_relation.proofs.Meetings.{is-stop, no-stop-point}
use Rattle.vip_relation.proofs.run.Run.stop.Goals as goal

-- what is answered where it is a stop point and where it is none
abbrev by_stop : VipState → Bool → Option StopRecord
by_stop v stop = if stop then Some (stop_record v.last v.board.machine) else None

pub returns-in-Stop : goal.returns-in-Stop
returns-in-Stop c =
    let v : VipState = state_of c.self.inside in
    let stop : is_stop (interpreter v) v.board.machine ≡ true =
    is-stop (is_stop (interpreter v) v.board.machine) (is_dispatch (interpreter v) v.board.machine) (sym c.in-Stop.is ∙ c.self.invariant.point) in
    let record_is = c.stop_record.ensures ∙ ap (λ (old : VipState). stop_record old.last old.board.machine) (sym c.self.view_is) in
    subst (λ (old : VipState). Some c.stop_record.result ≡ by_stop old (is_stop (interpreter old) old.board.machine)) c.self.view_is
    (ap Some record_is ∙ sym (ap (by_stop v) stop))

pub returns-in_default : goal.returns-in_default
returns-in_default c =
    let v : VipState = state_of c.self.inside in
    let runs : is_stop (interpreter v) v.board.machine ≡ false =
    no-stop-point (is_stop (interpreter v) v.board.machine) (is_dispatch (interpreter v) v.board.machine) c.self.inside.point c.self.invariant.point
    c.in_default.not-Stop in
    subst (λ (old : VipState). None ≡ by_stop old (is_stop (interpreter old) old.board.machine)) c.self.view_is (sym (ap (by_stop v) runs))
