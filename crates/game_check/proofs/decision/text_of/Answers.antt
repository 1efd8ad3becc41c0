use Rattle.std.proofs.Common.{◌≡◌, ◌<◌, ◌++◌, length, take, sym, ap, ◌∙◌, arith}
use Rattle.game_check.specs.Least.{family_text, line_text}
use Rattle.game_check.proofs.Written.{text_more, text_none, words_more}
use Rattle.game_check.proofs.decision.text_of.Goals as goal

pub loop-claim-init : goal.loop-claim-init
loop-claim-init c = (c.new-text.ensures.items ∙ sym text_none, λ k d within. absurd (omega (arith, within)))

pub loop-claim-preserved : goal.loop-claim-preserved
loop-claim-preserved c =
    let claims = c.args.claims.now in
    let k = c.loop-claim.claim-index in
    let within : k < length claims = omega (arith, c.loop-claim-test.true) in
    let line : c.as_slice.result.now ≡ line_text c.claim-item.result = c.as_slice.ensures.value ∙ c.put_line.ensures.text in (
      c.in_ok-extend_from_slice.ensures.items ∙ ap (λ text. text ++ c.as_slice.result.now) c.loop-claim.invariant.0
          ∙ ap (λ more. family_text (take k claims) ++ more) line ∙ text_more claims k c.claim-item.result within c.claim-item.is,
      words_more claims k c.claim-item.result within c.claim-item.is c.loop-claim.invariant.1 c.put_line.ensures.words,
    )
