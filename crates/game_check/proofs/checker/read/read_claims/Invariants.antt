use Rattle.std.proofs.Common.{◌≤◌, length, map}
use Rattle.vip_byte.proofs.ReadingLemmas.{IsReadUpTo}
use Rattle.game_check.specs.Grammar.{claim_format}
use Rattle.game_check.specs.Order.{IsAscending}
use Rattle.game_check.proofs.checker.read.read_claims.Given as goal

abbrev pub invariant-loop-line : goal.invariant-loop-line
invariant-loop-line l =
    IsReadUpTo claim_format l.text (map (λ line. line.now) l.yielded) l.line-iterator l.claims.items l.number
    × IsAscending l.claims.items
    × (length l.claims.items ≤ l.number)
