use Rattle.std.proofs.Common.{◌≡◌, [], ◌++◌, take}
use Rattle.std.specs.List.{flat_map}
use Rattle.vip_verbs.specs.Outcome.{digest_line}
use Rattle.vip_verbs.proofs.digest.lines.Given as goal

abbrev pub invariant-loop-game : goal.invariant-loop-game
invariant-loop-game l = l.text.items ≡ [] ++ flat_map (digest_line l.limit) (take l.game-index l.games)
