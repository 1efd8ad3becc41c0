use Rattle.std.proofs.Common.{rules, arith, ◌∙◌}
use Rattle.std.proofs.lemmas.Fn.{always_returns_same}
use Rattle.game_check.specs.Grammar.{order}
use Rattle.game_check.proofs.Ordered.{answers_rise, claimed_here, claimed_nowhere}
use Rattle.game_check.proofs.checker.closed.is_claimed.Goals as goal

pub returns-in-Ok : goal.returns-in-Ok
returns-in-Ok c =
    let claims = c.args.claims.now in
    let point = c.args.point.now in
    let found = c.in-Ok.ensures.position (λ claim. order claim.point point) (always_returns_same _ _ _ (λ a r f' called. search rules)) in
    c.has_range.ensures
    ∙ claimed_here claims c.requires c.args.low c.args.high point c.in-Ok.place c.index-claims-place.result c.in-Ok.ensures.bound c.index-claims-place.is found
    (omega arith)

pub returns-in-Err : goal.returns-in-Err
returns-in-Err c =
    let claims = c.args.claims.now in
    let point = c.args.point.now in
    let cut = c.in-Err.ensures.position (λ claim. order claim.point point) (always_returns_same _ _ _ (λ a r f' called. search rules)) in
    claimed_nowhere claims c.requires c.args.low c.args.high point c.in-Err.field-0 (cut (answers_rise claims c.requires c.args.low c.args.high point))
