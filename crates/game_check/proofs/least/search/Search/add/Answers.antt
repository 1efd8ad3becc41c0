use Rattle.std.proofs.Common.{refl}
use Rattle.std.proofs.lemmas.List.Elements.{All-push}
use Rattle.game_check.specs.Least.{IsMet}
use Rattle.game_check.specs.Searching.{IsProper}
use Rattle.game_check.proofs.least.search.Search.add.Goals as goal

pub returns : goal.returns
returns c = record {
  edition = refl;
  game = refl;
  found = rw c.in_ok-push-2.ensures.items (record {
    met = All-push (IsMet c.args.self.now.edition c.args.self.now.game.now) c.args.self.now.claims.items c.args.claim c.requires.found.met c.requires.met;
    proper = All-push IsProper c.args.self.now.claims.items c.args.claim c.requires.found.proper c.requires.proper;
  });
}
