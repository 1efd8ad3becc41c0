use Rattle.std.proofs.Common.{◌∙◌, sym}
use Rattle.vip_tools.proofs.ReportLemmas.{one_piece}
use Rattle.vip_tools.proofs.report.put_end.Goals as goal

pub returns : goal.returns
returns g c =
    one_piece c.as_slice-line.result.now _ _ _ _ (c.as_slice-line.ensures.value ∙ c.end_text.ensures)
    (sym c.is_empty.ensures ∙ c.if-is_empty.false) c.put.ensures.answer
