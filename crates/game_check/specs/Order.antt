-- What holds of the claims of a certificate that is in order.
use Rattle.std.specs.Prelude.{◌≡◌, List}
use Rattle.std.specs.List.{AllPairs}
use Rattle.std.specs.declared.cmp.Ordering.TheVariants.{Less}
use Rattle.game_check.specs.declared.claim.Claim.{Claim}
use Rattle.game_check.specs.Grammar.{order}

-- each comes before all those behind it
abbrev pub IsAscending : List Claim → Type 0
IsAscending = AllPairs (λ a b. order a.point b.point ≡ Less)
