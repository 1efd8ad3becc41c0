use Rattle.std.proofs.Common.{◌∙◌, leb, sym, ap}
use Rattle.std.specs.List.{sum_by}
use Rattle.std.proofs.lemmas.Bool.{leb-false}
use Rattle.game_check.specs.Least.{line_bytes, most_bytes}
use Rattle.game_check.specs.Searching.{AreMet}
use Rattle.game_check.proofs.Deciding.{less_left, settles, too_long}
use Rattle.game_check.proofs.least.least_family.Goals as goal

pub round-requires : goal.round-requires
round-requires c = c.loop-family.invariant.kept

pub returns-then-not-branch : goal.returns-then-not-branch
returns-then-not-branch c =
    settles c.args.edition c.args.game.now c.loop-family.family c.round.new.self c.in_ok-round.field-0 c.in_ok-round.ensures.grown c.if-not-branch.true
    c.loop-family.invariant.edition c.loop-family.invariant.game c.loop-family.invariant.kept (c.in_ok-round.ensures.closed c.if-not-branch.true)
    (ap (λ claims. leb (sum_by line_bytes claims) most_bytes) (sym c.as_slice.ensures.value) ∙ sym c.fits.ensures ∙ c.loop-family-test.true)

pub loop-family-smaller : goal.loop-family-smaller
loop-family-smaller c =
    less_left c.loop-family.family c.round.new.self c.in_ok-round.field-0 c.in_ok-round.ensures.grown c.if-not-branch.false c.loop-family.invariant.kept
    (ap (λ claims. leb (sum_by line_bytes claims) most_bytes) (sym c.as_slice.ensures.value) ∙ sym c.fits.ensures ∙ c.loop-family-test.true)

pub loop-family-preserved : goal.loop-family-preserved
loop-family-preserved c = record {
  edition = c.in_ok-round.ensures.grown.edition ∙ c.loop-family.invariant.edition;
  game = c.in_ok-round.ensures.grown.game ∙ c.loop-family.invariant.game;
  kept = c.in_ok-round.ensures.grown.kept;
}

pub returns : goal.returns
returns c =
    let are : AreMet c.args.edition c.args.game.now c.loop-family.family.claims.items =
    rw (c.loop-family.invariant.edition, c.loop-family.invariant.game) at c.loop-family.invariant.kept in
    too_long c.args.edition c.args.game.now c.loop-family.family.claims.items are
    (leb-false (sum_by line_bytes c.loop-family.family.claims.items) most_bytes
    (ap (λ claims. leb (sum_by line_bytes claims) most_bytes) (sym c.as_slice.ensures.value) ∙ sym c.fits.ensures ∙ c.loop-family-test.false))
