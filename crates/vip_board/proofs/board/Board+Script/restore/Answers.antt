use Rattle.std.proofs.Common.{◌≡◌, ℕ, [], Result, Ok, Err, sym, subst}
use Rattle.std.specs.Prelude.{IfOk}
use Rattle.vip_board.specs.Shown.{HasPicturesSince}
use Rattle.vip_board.specs.Seen.{Seen}
use Rattle.vip_board.proofs.Shown.{shows-nothing}
use Rattle.vip_board.proofs.board.Board+Script.restore.Goals as goal

shown_since : {E : Type 0} (t : ℕ) (old : Seen) → HasPicturesSince t old.rom [] old.machine.cycle old.pictures → (r : Result Seen E)
    → IfOk r (λ b. b ≡ old) → IfOk r (λ b. HasPicturesSince t b.rom [] b.machine.cycle b.pictures)
shown_since t old shown (Ok b) is = subst (λ (b : Seen). HasPicturesSince t b.rom [] b.machine.cycle b.pictures) (sym is) shown
shown_since t old shown (Err e) is = tt

pub returns-clause-pictures : goal.returns-clause-pictures
returns-clause-pictures c = shown_since c.args.t _ (shows-nothing _ c.args.t) c.stand.result c.stand.ensures.board
