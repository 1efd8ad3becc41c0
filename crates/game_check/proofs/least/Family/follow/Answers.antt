use Rattle.std.proofs.Common.{◌≡◌, Some, sym, subst, ◌∙◌}
use Rattle.game_check.specs.Least.{IsCovered, IsFollowed, IsMet}
use Rattle.game_check.specs.Searching.{IsProper}
use Rattle.game_check.proofs.Covering.{first_met, first_proper, followed_all, found_all, second_met, second_proper}
use Rattle.game_check.proofs.least.Family.follow.Goals as goal

pub meet-requires-clause-met : goal.meet-requires-clause-met
meet-requires-clause-met c =
    first_met c.args.self.now.edition c.args.self.now.game.now c.in-Some.claim c.in-Some-ways_of.first c.in-Some-ways_of.second c.in-Some-ways_of.ensures.0
    (found_all c.args.self.now.claims.items c.args.place c.in-Some.claim (rw c.as_slice.ensures.value at c.in-Some.ensures) (IsMet c.args.self.now.edition c.args.self.now.game.now) c.requires.met)
    c.in-Some-ways_of.ensures.1

pub meet-requires-clause-proper : goal.meet-requires-clause-proper
meet-requires-clause-proper c =
    first_proper c.args.self.now.edition c.args.self.now.game.now c.in-Some.claim c.in-Some-ways_of.first c.in-Some-ways_of.second c.in-Some-ways_of.ensures.0
    (found_all c.args.self.now.claims.items c.args.place c.in-Some.claim (rw c.as_slice.ensures.value at c.in-Some.ensures) IsProper c.requires.proper)

pub meet-requires-in-Some-second-clause-met : goal.meet-requires-in-Some-second-clause-met
meet-requires-in-Some-second-clause-met c =
    rw (c.in_ok-grew.ensures.grown.edition, c.in_ok-grew.ensures.grown.game)
    (second_met c.args.self.now.edition c.args.self.now.game.now c.in-Some.claim c.in-Some-ways_of.first c.in-Some-ways_of.second c.in-Some-ways_of.ensures.0
    (found_all c.args.self.now.claims.items c.args.place c.in-Some.claim (rw c.as_slice.ensures.value at c.in-Some.ensures) (IsMet c.args.self.now.edition c.args.self.now.game.now) c.requires.met)
    c.in-Some-ways_of.ensures.1 c.in-Some-second.second c.in-Some-second.is)

pub meet-requires-in-Some-second-clause-proper : goal.meet-requires-in-Some-second-clause-proper
meet-requires-in-Some-second-clause-proper c =
    second_proper c.args.self.now.edition c.args.self.now.game.now c.in-Some.claim c.in-Some-ways_of.first c.in-Some-ways_of.second c.in-Some-ways_of.ensures.0
    (found_all c.args.self.now.claims.items c.args.place c.in-Some.claim (rw c.as_slice.ensures.value at c.in-Some.ensures) IsProper c.requires.proper) c.in-Some-second.second
    c.in-Some-second.is

pub returns-else-branch-clause-followed : goal.returns-else-branch-clause-followed
returns-else-branch-clause-followed c = λ stays d there going.
    let claims = c.args.self.now.claims.items in
    let one : c.in-Some.claim ≡ d = same_some ((rw c.as_slice.ensures.value at c.in-Some.ensures) ∙ sym there) in
    subst (IsFollowed c.args.self.now.game.now claims) one
    (followed_all c.args.self.now.edition c.args.self.now.game.now c.in-Some.claim c.in-Some-ways_of.first c.in-Some-ways_of.second
    c.in-Some-ways_of.ensures.0 claims (c.in_ok-grew.ensures.covered stays)
    (λ r is.
    subst (IsCovered claims) (same_some (sym c.in-Some-second.is ∙ is))
    (rw (c.in_ok-grew.ensures.grown.same stays) at (c.in_ok-meet.ensures.covered (c.if-branch.false)))))
  where
    same_some : {A : Type 0} {a b : A} → Some a ≡ Some b → a ≡ b
    same_some h = cc
