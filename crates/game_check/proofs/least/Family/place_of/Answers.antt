use Rattle.std.proofs.Common.{arith, rules}
use Rattle.std.proofs.lemmas.Fn.{always_returns_same}
use Rattle.game_check.specs.Grammar.{order}
use Rattle.game_check.proofs.Ordered.{answers_rise}
use Rattle.game_check.proofs.least.Family.place_of.Goals as goal

pub returns-in-Ok-clause-found : goal.returns-in-Ok-clause-found
returns-in-Ok-clause-found c =
    let found = c.in-Ok.ensures.position (λ claim. order claim.point c.args.point.now) (always_returns_same _ _ _ (λ a r f' called. search rules)) in
    record {
      within = rw c.as_slice.ensures.value at c.in-Ok.ensures.bound;
      here = λ d. rw c.as_slice.ensures.value at (found d);
    }

pub returns-in-Err-clause-none : goal.returns-in-Err-clause-none
returns-in-Err-clause-none c =
    let claims = c.args.self.now.claims.items in
    let cut = c.in-Err.ensures.position (λ claim. order claim.point c.args.point.now) (always_returns_same _ _ _ (λ a r f' called. search rules)) in
    let split = (rw c.as_slice.ensures.value at cut) (answers_rise claims c.requires.in_order 0 0 c.args.point.now) in
    record {
      within = rw c.as_slice.ensures.value at c.in-Err.ensures.bound;
      before = λ k d below. split.0 k d (omega arith) below;
      behind = split.1;
    }
