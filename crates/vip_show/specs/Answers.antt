-- What the calls answer of a run that begins.
use Rattle.std.specs.Prelude.{◌≡◌, ℕ, if◌then◌else◌, List, [], ◌∷◌, ◌++◌, length, Result, Ok, Err}
use Rattle.asm_core.specs.Origins.{Origins}
use Rattle.vip_outside.specs.Sink.{SinkMeaning}
use Rattle.vip_outside.specs.Pieces.{PutsAll, FailsWithin}
use Rattle.vip_outside.specs.declared.sink.Failed.{Failed}
use Rattle.vip_relation.specs.Follows.{last_dispatch}
use Rattle.vip_relation.specs.Meets.{HasStopped}
use Rattle.vip_relation.specs.State.{VipState, events_left, events_to, first_events, first_screen, first_view, interpreter, machine_of, run_of}
use Rattle.vip_relation.specs.State.Start.{Saved}
use Rattle.vip_text.specs.Endings.{ending_in}
use Rattle.vip_text.specs.declared.ending.RunEnd.{RunEnd}
use Rattle.vip_show.specs.Endings.{ending_of}
use Rattle.vip_text.specs.Summaries.{summary_line}
use Rattle.vip_text.specs.declared.trace.TraceColumns.{TraceColumns}
use Rattle.vip_show.specs.Output.{count_of, is_dispatch_event, is_picture_event, lit_at, picture_pieces, screen_piece, trace_lines}

-- no event was met but those of the start, of which is told
pub record IsFresh (v : VipState) : Type 0 where
  pub met : v.met ≡ length (first_events v.start)
  pub last : v.last ≡ first_view v.edition v.start
  pub screen : v.shown ≡ first_screen v.edition v.start
  -- no move was made from a saved machine
  pub stands : (file : List ℕ) → v.start ≡ Saved file → v.board.machine ≡ machine_of v.start
  pub runs : HasStopped v → ⊥

-- the pieces went out whole, and the run ended as its events say
pub record ShowsRun (v : VipState) (limit : ℕ) (pieces : List (List ℕ)) (old new : SinkMeaning) (end : RunEnd) : Type 0 where
  pub puts : PutsAll pieces old new
  pub ending : ending_in end ≡ ending_of v.edition (events_to v limit)

abbrev pub ShowAnswers : VipState → ℕ → List (List ℕ) → SinkMeaning → SinkMeaning → Result RunEnd Failed → Type 0
ShowAnswers v limit pieces old new (Ok end) = ShowsRun v limit pieces old new end
ShowAnswers v limit pieces old new (Err e) = FailsWithin pieces old new

-- What is written of a run that begins: of its events behind the start. The last dispatch point is the start's where there is no other.
abbrev pub run_trace : Origins → TraceColumns → VipState → ℕ → List (List ℕ)
run_trace origins columns v limit =
    trace_lines origins v.edition columns (events_left v limit)
    ++ (if columns.screen then screen_piece v.edition (last_dispatch (events_to v limit)) else [])

abbrev pub run_pictures : VipState → ℕ → List (List ℕ)
run_pictures v limit = picture_pieces (interpreter v).rom (run_of v limit) (events_left v limit)

abbrev pub summary_of : ℕ → VipState → ℕ → List ℕ
summary_of number v limit =
    summary_line number
    (count_of is_dispatch_event (events_left v limit))
    (count_of is_picture_event (events_left v limit))
    (lit_at v.edition (last_dispatch (events_to v limit)))

abbrev pub run_summary : ℕ → VipState → ℕ → List (List ℕ)
run_summary number v limit = summary_of number v limit ∷ []
