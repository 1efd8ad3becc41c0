use Rattle.std.proofs.lemmas.List.Sorted.{All-permutation}
use Rattle.game_check.specs.Least.{IsMet}
use Rattle.game_check.specs.Searching.{IsProper}
use Rattle.game_check.proofs.least.search.sorted.Goals as goal

pub returns : goal.returns
returns c = λ e game are. record {
  met = All-permutation (IsMet e game) c.args.claims.items c.sort_unstable_by.new.self.items c.sort_unstable_by.ensures.permutation are.met;
  proper = All-permutation IsProper c.args.claims.items c.sort_unstable_by.new.self.items c.sort_unstable_by.ensures.permutation are.proper;
}
