use Rattle.std.proofs.Common.{◌∙◌}
use Rattle.vip_cli.proofs.ProcessLemmas.{runs, refuses}
use Rattle.vip_cli.proofs.process.Goals as goal

pub returns-in-Ok : goal.returns-in-Ok
returns-in-Ok g c =
    runs c.args.is_terminal _ _ _ _ _ _ _ c.args.args c.in-Ok.words c.as_slice-words.result.now c.vip_main-status.result _ c.in-Ok.ensures c.as_slice-words.ensures.value
    (record { finished = c.vip_main-status.ensures.finished; promises = c.vip_main-status.ensures.promises })
    (rw c.is_shown-shown.ensures at c.put_remark.ensures)
    (c.from.ensures ∙ c.number.ensures)

pub returns-in-Err : goal.returns-in-Err
returns-in-Err g c =
    refuses c.args.is_terminal _ _ _ _ c.args.args c.in-Err.refusal c.put_refusal-status.result _ c.in-Err.ensures c.put_refusal-status.ensures
    (c.from-in-Err.ensures ∙ c.number-in-Err.ensures)
