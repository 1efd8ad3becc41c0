use Rattle.vip_show.proofs.Screens.{some-viewed, none-viewed}
use Rattle.vip_show.proofs.Saving.{save-fails, saves-none, saves-one, told}
use Rattle.vip_show.proofs.output.show_saved.Goals as goal

pub returns-in_default : goal.returns-in_default
returns-in_default g c = saves-none _ _ _ _ _ c.keep_last-end.ensures _ (none-viewed _ c.in_default.ensures)

pub returns-in_err-put : goal.returns-in_err-put
returns-in_err-put g c =
    save-fails _ _ _ _ _ c.keep_last-end.ensures (told _ _ (some-viewed _ _ c.in-Some.ensures).is) _ _ _ c.as_slice.ensures.value _
    c.from_residual.ensures.0 c.in_err-put.ensures.answer

pub returns : goal.returns
returns g c =
    saves-one _ _ _ _ _ c.keep_last-end.ensures (told _ _ (some-viewed _ _ c.in-Some.ensures).is) _ _ _ c.as_slice.ensures.value c.in_ok-put.ensures.answer
