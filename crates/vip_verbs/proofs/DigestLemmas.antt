-- What is told of a run is the line of its game.
use Rattle.std.proofs.Common.{◌≡◌, ℕ, refl}
use Rattle.vip_relation.specs.State.{VipState}
use Rattle.vip_relation.specs.State.Start.{Reset}
use Rattle.vip_show.specs.Digests.{IsDigested}
use Rattle.vip_show.specs.declared.digests.Digests.{Digests}
use Rattle.vip_tools.specs.Games.{Game}
use Rattle.vip_verbs.specs.Opening.{IsStarted}
use Rattle.vip_verbs.specs.Outcome.{digest_line}
use Rattle.vip_verbs.specs.Prepared.{told_line}

pub line-told : (limit : ℕ) (game : Game) (v : VipState) (digests : Digests) → IsStarted game.edition (Reset game.bytes) game.keys v → IsDigested v limit digests
    → told_line limit digests ≡ digest_line limit game
line-told limit game v digests starts told = rw (told.trace, told.pictures, told.points, told.ending, starts.is) refl
