use Rattle.std.proofs.Common.{◌∙◌, refl}
use Rattle.vip_tools.specs.Certificates.{ProofComes, SafeComes, count_line}
use Rattle.vip_tools.specs.Outcome.{Writes}
use Rattle.vip_tools.specs.Work.{TextAnswers}
use Rattle.vip_tools.proofs.JudgedLemmas.{refused-first}
use Rattle.vip_tools.proofs.WorkLemmas.{passed}
use Rattle.vip_tools.proofs.certificates.safe.Goals as goal

pub returns-in_err-count : goal.returns-in_err-count
returns-in_err-count c =
    passed (TextAnswers (SafeComes c.args.edition c.args.game.now c.args.certificate.now)) _ _ c.from_residual.ensures.1
    (refused-first (ProofComes c.args.edition c.args.game.now c.args.certificate.now) (λ count. Writes (count_line count)) _ c.in_err-count.ensures)

pub returns : goal.returns
returns c =
    rw (c.in_ok-text.ensures.items ∙ c.as_slice.ensures.value ∙ c.count_text.ensures)
    (record { value = c.in_ok-count.count; gives = c.in_ok-count.ensures; here = refl })
