use Rattle.game_check.specs.Least.{IsMet}
use Rattle.game_check.specs.Searching.{IsProper}
use Rattle.game_check.proofs.Covering.{first_met, first_proper, found_all, second_met, second_proper}
use Rattle.game_check.proofs.least.search.Search.follow.Goals as goal

pub meet-requires-clause-met : goal.meet-requires-clause-met
meet-requires-clause-met c =
    first_met c.args.self.now.edition c.args.self.now.game.now c.in-Some.claim c.in-Some-ways_of.first c.in-Some-ways_of.second c.in-Some-ways_of.ensures.0
    (found_all c.args.self.now.claims.items c.args.place c.in-Some.claim (rw c.as_slice.ensures.value at c.in-Some.ensures)
    (IsMet c.args.self.now.edition c.args.self.now.game.now) c.requires.met)
    c.in-Some-ways_of.ensures.1

pub meet-requires-clause-proper : goal.meet-requires-clause-proper
meet-requires-clause-proper c =
    first_proper c.args.self.now.edition c.args.self.now.game.now c.in-Some.claim c.in-Some-ways_of.first c.in-Some-ways_of.second c.in-Some-ways_of.ensures.0
    (found_all c.args.self.now.claims.items c.args.place c.in-Some.claim (rw c.as_slice.ensures.value at c.in-Some.ensures) IsProper c.requires.proper)

pub meet-requires-in-Some-second-clause-met : goal.meet-requires-in-Some-second-clause-met
meet-requires-in-Some-second-clause-met c =
    rw (c.in_ok-meet.ensures.edition, c.in_ok-meet.ensures.game)
    (second_met c.args.self.now.edition c.args.self.now.game.now c.in-Some.claim c.in-Some-ways_of.first c.in-Some-ways_of.second c.in-Some-ways_of.ensures.0
    (found_all c.args.self.now.claims.items c.args.place c.in-Some.claim (rw c.as_slice.ensures.value at c.in-Some.ensures)
    (IsMet c.args.self.now.edition c.args.self.now.game.now) c.requires.met)
    c.in-Some-ways_of.ensures.1 c.in-Some-second.second c.in-Some-second.is)

pub meet-requires-in-Some-second-clause-proper : goal.meet-requires-in-Some-second-clause-proper
meet-requires-in-Some-second-clause-proper c =
    second_proper c.args.self.now.edition c.args.self.now.game.now c.in-Some.claim c.in-Some-ways_of.first c.in-Some-ways_of.second c.in-Some-ways_of.ensures.0
    (found_all c.args.self.now.claims.items c.args.place c.in-Some.claim (rw c.as_slice.ensures.value at c.in-Some.ensures) IsProper c.requires.proper)
    c.in-Some-second.second c.in-Some-second.is
