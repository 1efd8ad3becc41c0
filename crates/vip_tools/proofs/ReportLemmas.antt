-- A report that isn't empty is one piece.
use Rattle.std.proofs.Common.{◌≡◌, ℕ, List, [], ◌∷◌, ◌==◌, false, length, Result}
use Rattle.vip_outside.specs.Pieces.{StreamAnswers}
use Rattle.vip_outside.specs.Sink.{SinkMeaning, PutAnswers}
use Rattle.vip_outside.specs.declared.sink.Failed.{Failed}
use Rattle.vip_outside.proofs.PiecesLemmas.{StreamAnswers-one}
use Rattle.vip_tools.specs.Report.{report_pieces}

pub one_piece :
    (text report : List ℕ) (old new : SinkMeaning) (r : Result (Unit {0}) Failed) → text ≡ report → (length text == 0) ≡ false
    → PutAnswers text old new r → StreamAnswers (report_pieces report) old new r
one_piece [] report old new r is some put = absurd (cc)
one_piece (byte ∷ bytes) report old new r is some put = rw (← is) (StreamAnswers-one (byte ∷ bytes) old new r put)
