use Rattle.std.proofs.Common.{[]}
use Rattle.vip_outside.proofs.PiecesLemmas.{FailsWithin-snoc, PutsAll-nil}
use Rattle.vip_verbs.proofs.WorkLemmas.{failed-at}
use Rattle.vip_verbs.proofs.work.put_told.Goals as goal

pub returns-in_err-put : goal.returns-in_err-put
returns-in_err-put g c =
    failed-at _ _ _ _ _ _ c.from_residual.ensures.1 (FailsWithin-snoc [] _ [] _ _ _ (PutsAll-nil _) (rw c.as_slice.ensures.value at c.in_err-put.ensures.answer))
