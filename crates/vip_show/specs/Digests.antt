-- The digests of a run.
use Rattle.std.specs.Prelude.{◌≡◌, ℕ, true, false, List, [], ◌++◌, Option, unwrap_or}
use Rattle.sha2.specs.Hashers.{Holds256}
use Rattle.sha2.specs.Sha256.{sha256}
use Rattle.sha2.specs.declared.Sha256.{Sha256}
use Rattle.asm_core.specs.Origins.{no_origins}
use Rattle.vip_outside.specs.Pieces.{joined}
use Rattle.vip_relation.specs.State.{VipState, events_left, events_to}
use Rattle.vip_text.specs.Endings.{ending_in}
use Rattle.vip_text.specs.declared.trace.TraceColumns.{TraceColumns}
use Rattle.vip_show.specs.Answers.{run_pictures, run_trace}
use Rattle.vip_show.specs.Endings.{ending_of}
use Rattle.vip_show.specs.Output.{count_of, is_dispatch_event}
use Rattle.vip_show.specs.declared.digests.Digests.{Digests}

-- what the trace shows: the tick and the cycle of each line, and the screen behind the lines
abbrev pub digested_columns : TraceColumns
digested_columns = record { time = true; words = false; screen = true }

-- a piece, where there is one, goes to the end of whatever message a hasher holds
abbrev pub AddsPiece : Option (List ℕ) → Sha256 → Sha256 → Type 0
AddsPiece piece old new = (message : List ℕ) → Holds256 old message → Holds256 new (message ++ unwrap_or piece [])

-- SHA-256 of what `show_trace` and `show_pictures` put of a run that begins, all pieces as one message; how many dispatch points it has, and how it ends
pub record IsDigested (v : VipState) (limit : ℕ) (digests : Digests) : Type 0 where
  pub trace : digests.trace ≡ sha256 (joined (run_trace no_origins digested_columns v limit))
  pub pictures : digests.pictures ≡ sha256 (joined (run_pictures v limit))
  pub points : digests.points ≡ count_of is_dispatch_event (events_left v limit)
  pub ending : ending_in digests.end ≡ ending_of v.edition (events_to v limit)
