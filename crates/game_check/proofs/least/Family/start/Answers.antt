use Rattle.std.proofs.Common.{arith, sym, subst}
use Rattle.std.specs.List.{All}
use Rattle.std.proofs.lemmas.List.Elements.{All-get_or}
use Rattle.game_check.specs.Least.{IsMet}
use Rattle.game_check.proofs.least.Family.start.Goals as goal

pub meet-requires-clause-met : goal.meet-requires-clause-met
meet-requires-clause-met c =
    let P = IsMet c.args.edition c.args.game.now in
    let slice = c.as_slice-claim-items.result.now in
    let all : All P slice = rw c.as_slice-claim-items.ensures.value c.in_ok-claims.ensures.met in
    rw (c.loop-claim.invariant.edition, c.loop-claim.invariant.game)
    (subst P (sym c.copy.ensures)
    (subst P (sym c.claim-item.is) (All-get_or P slice c.loop-claim.claim-index c.claim-item.result (omega (arith, c.loop-claim-test.true)) all)))
