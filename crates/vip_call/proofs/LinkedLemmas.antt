-- What the output of `link` says, by the law of every schedule.
use Rattle.std.proofs.Common.{◌≤◌, length, refl, ap}
use Rattle.vip_link.specs.Laws.{AlwaysDelivers, NumbersDeliver}
use Rattle.vip_link.specs.Schedules.{schedule_by}
use Rattle.vip_words.specs.declared.request.Request.TheVariants.{Link}
use Rattle.vip_tools.proofs.JudgedLemmas.{same_value}
use Rattle.vip_verbs.specs.Outcome.{linked_after}
use Rattle.vip_call.specs.Top.{Call, BringsMessages}
use Rattle.vip_call.proofs.FilledLemmas.{are_given}

module _ (always : AlwaysDelivers) (numbers : NumbersDeliver) where
  pub brings_messages : (call : Call) → BringsMessages call
  brings_messages call asked message moves number pieces status report asks comes =
      let given = are_given call.files asked (Link message moves number) asks.shape asks.read in
      let short : length message ≤ 3000 = given.0.fits in
      let same = same_value (record { pieces = pieces; status = status; report = report }) _ comes.here in
      record {
        pair = linked_after number moves message;
        is = refl;
        written = ap (λ o. o.pieces) same;
        reported = ap (λ o. o.report) same;
        delivers = always message (schedule_by number moves) short;
        whole = λ enough. numbers message number moves short enough;
      }
