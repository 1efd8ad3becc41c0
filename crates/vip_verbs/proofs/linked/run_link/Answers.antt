use Rattle.std.proofs.Common.{[], ◌∙◌, ap}
use Rattle.vip_link.specs.Pair.{Pair}
use Rattle.vip_outside.proofs.PiecesLemmas.{FailsWithin-snoc, PutsAll-nil}
use Rattle.vip_verbs.proofs.LinkLemmas.{link-performs, pair-of}
use Rattle.vip_verbs.proofs.WorkLemmas.{failed-at}
use Rattle.vip_verbs.proofs.linked.run_link.Goals as goal

pub returns-in_err-put : goal.returns-in_err-put
returns-in_err-put g c =
    let same = pair-of _ _ _ _ c.requires (rw c.count.ensures.value at c.run.ensures) in
    failed-at _ _ _ _ _ _ c.from_residual.ensures.1
    (FailsWithin-snoc [] _ [] _ _ _ (PutsAll-nil _) (rw (c.received.ensures.value ∙ ap (λ (s : Pair). s.received) same) at c.in_err-put.ensures.answer))

pub returns : goal.returns
returns g c =
    link-performs _ _ _ _ _ _ _ (pair-of _ _ _ _ c.requires (rw c.count.ensures.value at c.run.ensures)) c.received.ensures.value c.received-2.ensures.value c.sent.ensures.value
    c.in_ok-put.ensures.answer
