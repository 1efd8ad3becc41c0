use Rattle.std.proofs.Common.{ap, arith, sym, ◌∙◌}
use Rattle.game_check.specs.Least.{IsMet}
use Rattle.game_check.specs.Searching.{IsAhead, IsProper}
use Rattle.game_check.proofs.Covering.{found_all, point_is}
use Rattle.game_check.proofs.Ordered.{is_eq-true}
use Rattle.game_check.proofs.Raised.{ahead_itself, ahead_on, lifted_met}
use Rattle.game_check.proofs.least.search.Search.lifted.Goals as goal
use Rattle.game_check.proofs.least.search.Search.lifted.Goals.{else-loop-test, then-loop-test+in-Some-source_of+in-Some-claim_at+in-Some-shift_between+then-place-start}

pub loop-init : goal.loop-init
loop-init c = ahead_itself c.args.self.now.edition c.args.self.now.game.now c.copy-claim.result.point c.in-Some.first.point (ap (λ x. x.point) c.copy-claim.ensures)

pub loop-preserved : goal.loop-preserved
loop-preserved c =
    ahead_on c.args.self.now.edition c.args.self.now.game.now _ _ _ _ _ c.in-Some-shift_between.ensures c.loop.invariant

pub returns-then-is_eq : goal.returns-then-is_eq
returns-then-is_eq c =
    let e = c.args.self.now.edition in
    let game = c.args.self.now.game.now in
    let first = c.in-Some.first in
    let there = rw c.as_slice.ensures.value at c.in-Some.ensures in
    let met : IsMet e game first = found_all c.args.self.now.claims.items c.args.start first there (IsMet e game) c.requires.met in
    let proper : IsProper first = found_all c.args.self.now.claims.items c.args.start first there IsProper c.requires.proper in
    let same = point_is c.loop-test.claim.point first.point (is_eq-true _ (rw c.order.ensures at (sym c.is_eq.ensures ∙ c.if-is_eq.true))) in
    let ahead : IsAhead e game c.loop-test.claim.point first.point c.loop-test.rises =
    elim c.loop-test.branch [
      | else-loop-test w ↦ rw (w.claim-is, w.rises-is) c.loop.invariant
      | then-loop-test+in-Some-source_of+in-Some-claim_at+in-Some-shift_between+then-place-start w ↦
          rw (w.claim-is, w.rises-is) (ahead_on e game _ _ _ _ _ w.in-Some-shift_between.ensures c.loop.invariant)
    ] in (
      lifted_met e game first c.loop-test.claim met proper same (rw c.if-rises.true at ahead),
      record { rises = omega (arith, proper.low); low = proper.low; high = omega arith },
    )
