-- What the output of `link` says of two boards that are joined.
use Rattle.std.specs.Prelude.{◌≡◌, ℕ, ◌+◌, ◌*◌, ◌≤◌, List, [], ◌∷◌, length}
use Rattle.vip_link.specs.Laws.{Delivers}
use Rattle.vip_link.specs.Pair.{Pair}
use Rattle.vip_tools.specs.Report.{linked_report}
use Rattle.vip_verbs.specs.Outcome.{linked_after}

-- Of both boards after the moves that were asked for: what A sent is a prefix of the message, and what B received a prefix of that, which lies in
-- its RAM, and both displays are off; the output is what B received, and the report says how many bytes were sent and received. 1,320 moves for each
-- byte and 2,640 more are enough for the whole message, by the schedule of every number.
pub record BringsMessage (message : List ℕ) (moves number : ℕ) (pieces : List (List ℕ)) (report : List ℕ) : Type 0 where
  pub pair : Pair
  pub is : pair ≡ linked_after number moves message
  pub written : pieces ≡ pair.received ∷ []
  pub reported : report ≡ linked_report (length pair.sent) (length pair.received)
  pub delivers : Delivers message pair
  pub whole : 1320 * (length message + 2) ≤ moves → pair.received ≡ message
