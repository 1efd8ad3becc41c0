use Rattle.std.proofs.Common.{map}
use Rattle.vip_byte.proofs.ReadingLemmas.{IsReadUpTo}
use Rattle.vip_tools.specs.Games.{games_format}
use Rattle.vip_tools.proofs.games.read_games.Given as goal

abbrev pub invariant-loop-line : goal.invariant-loop-line
invariant-loop-line l = IsReadUpTo games_format l.text (map (λ line. line.now) l.yielded) l.line-iterator l.games.items l.number
