use Rattle.std.proofs.Common.{ap, false, subst}
use Rattle.std.specs.Prelude.{◌≡◌, IfOk}
use Rattle.asm_lex.specs.declared.shape.Isa.TheVariants.{Chip8}
use Rattle.asm_core.specs.Origins.{origins_of}
use Rattle.asm_core.specs.Sources.{source_lines}
use Rattle.vip_words.specs.declared.request.Code.TheVariants.{Source}
use Rattle.game_check.specs.Least.{IsFound}
use Rattle.vip_tools.specs.Certificates.{CertifyComes, ProofFound, certify_shown}
use Rattle.vip_tools.specs.Code.{GameComes}
use Rattle.vip_tools.specs.Judged.{RefusedBy, bind}
use Rattle.vip_tools.specs.Outcome.{Writes}
use Rattle.vip_tools.specs.Remarks.{proof_shown}
use Rattle.vip_tools.specs.Work.{TextAnswers}
use Rattle.vip_tools.proofs.JudgedLemmas.{refused-behind, refused-first}
use Rattle.vip_tools.proofs.WorkLemmas.{passed, shown-behind, text-behind}
use Rattle.vip_tools.proofs.certificates.certify_source.Goals as goal

pub returns-in_err-made : goal.returns-in_err-made
returns-in_err-made c =
    let e = c.args.edition in
    let code = Source c.args.source.items false in
    passed (TextAnswers (bind (GameComes e code) (CertifyComes e code))) _ _ c.from_residual.ensures.1
    (refused-first (GameComes e code) (CertifyComes e code) _ c.in_err-made.ensures)

pub returns-in_err-text : goal.returns-in_err-text
returns-in_err-text c =
    let e = c.args.edition in
    let code = Source c.args.source.items false in
    let game = c.in_ok-made.made.game.items in
    passed (TextAnswers (bind (GameComes e code) (CertifyComes e code))) _ _ c.from_residual-in_err-text.ensures.1
    (refused-behind (GameComes e code) (CertifyComes e code) game c.in_ok-made.ensures.0.0 _
    (refused-first (ProofFound e game) (λ text. Writes (certify_shown e code game text)) _
    (subst (λ game. RefusedBy (ProofFound e game) c.in_err-text.field-0.0) c.as_slice.ensures.value c.in_err-text.ensures)))

pub returns : goal.returns
returns c =
    let e = c.args.edition in
    let code = Source c.args.source.items false in
    let game = c.in_ok-made.made.game.items in
    let text = c.in_ok-text.text.items in
    let r = c.named_proof.result in
    let origins = ap (λ known. known.origins) c.in_ok-made.ensures.1 in
    let shown =
    subst (λ game. IfOk r (λ shown. shown.items ≡ proof_shown e game (origins_of Chip8 (source_lines c.args.source.items)) text)) c.as_slice-2.ensures.value
    (subst (λ origins. IfOk r (λ shown. shown.items ≡ proof_shown e c.as_slice-2.result.now origins text)) origins c.named_proof.ensures.shown) in
    text-behind (GameComes e code) (CertifyComes e code) game c.in_ok-made.ensures.0.0 r
    (shown-behind (ProofFound e game) (certify_shown e code game) text (subst (λ game. IsFound e game text) c.as_slice.ensures.value c.in_ok-text.ensures) r
    shown c.named_proof.ensures.memory)
