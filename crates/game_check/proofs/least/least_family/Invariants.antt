use Rattle.std.proofs.Common.{◌≡◌, ◌+◌, ◌-◌, ◌*◌}
use Rattle.game_check.specs.Least.{most_bytes}
use Rattle.game_check.specs.Searching.{HasMet, weights}
use Rattle.game_check.proofs.least.least_family.Given as goal

abbrev pub invariant-loop-family : goal.invariant-loop-family
invariant-loop-family l = record {
  edition : l.family.edition ≡ l.fn.edition;
  game : l.family.game.now ≡ l.fn.game;
  kept : HasMet l.family;
}

-- a claim weighs at most 20000 hex, and has 15 bytes at least
abbrev pub decreases-loop-family : goal.decreases-loop-family
decreases-loop-family l = 0x20000 * most_bytes + 1 - weights l.family.claims.items
