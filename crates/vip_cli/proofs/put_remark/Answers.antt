use Rattle.std.proofs.Common.{◌∙◌, ◌==◌, ap, sym}
use Rattle.vip_cli.proofs.ProcessLemmas.{remark-put}
use Rattle.vip_cli.proofs.put_remark.Goals as goal

pub returns-then-not-is_empty : goal.returns-then-not-is_empty
returns-then-not-is_empty g c =
    remark-put c.args.shown _ c.as_bytes.result.now _ _ _ c.if-not-shown.false (c.as_bytes.ensures.value ∙ c.in-Ok.ensures)
    (ap (λ n. n == 0) c.as_bytes.ensures.len ∙ (sym c.is_empty.ensures ∙ c.if-not-is_empty.true)) c.put.ensures.answer
