use Rattle.vip_words.specs.Request.{map_code}
use Rattle.vip_tools.specs.Certificates.{SafeComes}
use Rattle.vip_tools.specs.Code.{GameComes}
use Rattle.vip_tools.specs.Judged.{bind}
use Rattle.vip_tools.specs.Work.{TextAnswers}
use Rattle.vip_tools.proofs.JudgedLemmas.{refused-first}
use Rattle.vip_tools.proofs.WorkLemmas.{passed, text-behind}
use Rattle.vip_verbs.proofs.preparing.safe_code.Goals as goal

pub returns-in_err-game : goal.returns-in_err-game
returns-in_err-game c =
    let comes = GameComes c.args.edition (map_code (λ bytes. bytes.items) c.args.code) in
    passed (TextAnswers (bind comes (λ game. SafeComes c.args.edition game c.args.certificate.now))) _ _ c.from_residual.ensures.1
    (refused-first comes (λ game. SafeComes c.args.edition game c.args.certificate.now) _ c.in_err-game.ensures)

pub returns : goal.returns
returns c =
    let comes = GameComes c.args.edition (map_code (λ bytes. bytes.items) c.args.code) in
    text-behind comes (λ game. SafeComes c.args.edition game c.args.certificate.now) c.in_ok-game.game.items c.in_ok-game.ensures.0 _
    (rw c.as_slice.ensures.value at c.safe.ensures)
