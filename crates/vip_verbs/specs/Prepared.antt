-- A verb that is ready: what it comes to, and what its work answers.
use Rattle.std.specs.Prelude.{◌≡◌, ◌≤◌, ℕ, List, [], ◌∷◌, ◌++◌, Option, Some, None, Result, Ok, Err, Vec, length, codes, decimal}
use Rattle.std.specs.declared.alloc.Global.{Global}
use Rattle.hex.specs.Hex.{encode_lower}
use Rattle.machine.specs.Keys.{Event as KeyEvent}
use Rattle.asm_listing.specs.declared.report_text.CheckText.{CheckText}
use Rattle.vip_board.specs.Seen.{Seen}
use Rattle.vip_outside.specs.Files.{FilesMeaning}
use Rattle.vip_outside.specs.Pieces.{PutsAll, FailsWithin}
use Rattle.vip_outside.specs.Sink.{SinkMeaning}
use Rattle.vip_outside.specs.declared.sink.Failed.{Failed}
use Rattle.vip_link.specs.Laws.{most_bytes}
use Rattle.vip_link.specs.Links.{Linking, started as joined}
use Rattle.vip_debug.specs.declared.run.DebugEnd.{DebugEnd}
use Rattle.vip_debug.specs.declared.run.DebugEnd.TheVariants as debugger
use Rattle.vip_relation.specs.Meets.{HasStopped}
use Rattle.vip_relation.specs.State.{Start, VipState, begun, events_to}
use Rattle.vip_show.specs.Answers.{run_trace, run_pictures, run_summary}
use Rattle.vip_show.specs.Endings.{ending_of}
use Rattle.vip_show.specs.declared.digests.Digests.{Digests}
use Rattle.vip_show.specs.Profile.{profile_pieces}
use Rattle.vip_show.specs.StateOutput.{saved_file}
use Rattle.vip_text.specs.Endings.{Ending}
use Rattle.vip_text.specs.declared.ending.RunEnd.{RunEnd}
use Rattle.vip_text.specs.declared.ending.RunEnd.TheVariants as end
use Rattle.vip_words.specs.Request.{Asked}
use Rattle.vip_tools.specs.declared.ended.Ended.{Ended}
use Rattle.vip_tools.specs.declared.ended.Ended.TheVariants.{Ran}
use Rattle.vip_tools.specs.declared.fault.PerformFault.{PerformFault}
use Rattle.vip_tools.specs.declared.fault.PerformFault.TheVariants.{NoDispatch, WriteFault}
use Rattle.vip_tools.specs.declared.refusal.Refusal.{Refusal}
use Rattle.vip_tools.specs.declared.status.Status.TheVariants.{Done, NoDispatch as undispatched}
use Rattle.vip_tools.specs.Report.{ended_report, no_dispatch}
use Rattle.vip_tools.specs.Status.{checked_status, ended_status}
use Rattle.vip_tools.specs.Files.{FilesRefused, IsLoaded, Loaded, ReadsSome, needed}
use Rattle.vip_tools.specs.Judged.{By, Cause, Judged, RefusedBy, cause_of}
use Rattle.vip_tools.specs.Judged.Cause.{Elsewhere, Memory}
use Rattle.vip_tools.specs.Judged.Verdict.{Given, Refused}
use Rattle.vip_tools.specs.Outcome.{Outcome, Output, Shown}
use Rattle.vip_verbs.specs.Outcome.{HasOutcome, debugged_to, limit_from, linked, linked_after, ran, ran_with, saved_pieces}
use Rattle.vip_verbs.specs.Programs.{IsBegun, IsStanding, program_debugged, program_pictured, program_profiled, program_saved, program_traced}
use Rattle.vip_verbs.specs.declared.prepared.Prepared.{Prepared}
use Rattle.vip_verbs.specs.declared.prepared.Prepared.TheVariants.{Run, Program, Resumed, Link, Text, Checked}
use Rattle.vip_verbs.specs.declared.prepared.ReadyBoardShow.{ReadyBoardShow}
use Rattle.vip_verbs.specs.declared.prepared.ReadyBoardShow.TheVariants as board
use Rattle.vip_verbs.specs.declared.prepared.ReadyProgramShow.{ReadyProgramShow}
use Rattle.vip_verbs.specs.declared.prepared.ReadyProgramShow.TheVariants as program
use Rattle.vip_verbs.specs.declared.prepared.ReadyShow.{ReadyShow}
use Rattle.vip_verbs.specs.declared.prepared.ReadyShow.TheVariants as show

-- ---- what it comes to

-- how a run ends by its events
abbrev pub ended_by : ℕ → VipState → Ending
ended_by limit v = ending_of v.edition (events_to v limit)

-- a run that is shown so up to a limit
abbrev pub shown_as : ReadyShow → VipState → ℕ → Outcome
shown_as (show.Trace columns origins) v limit = ran limit (run_trace origins columns v limit) (ended_by limit v)
shown_as show.Pictures v limit = ran limit (run_pictures v limit) (ended_by limit v)
shown_as (show.Commands commands looks) v limit = debugged_to looks limit (limit_from v.start limit) commands v
shown_as show.State v limit = ran_with limit (ended_by limit v) (saved_pieces (saved_file v.edition (events_to v limit)))
shown_as (show.Profile counts page) v limit = ran limit (profile_pieces page v.edition (events_to v limit)) (ended_by limit v)
shown_as (show.Summary number) v limit = ran limit (run_summary number v limit) (ended_by limit v)

-- a program's board that is shown so, and a program
abbrev pub board_shown_as : ReadyBoardShow → Seen → ℕ → Outcome
board_shown_as (board.Commands commands origins) s limit = program_debugged origins commands limit s
board_shown_as board.State s limit = program_saved limit s

abbrev pub program_shown_as : ReadyProgramShow → Seen → ℕ → Outcome
program_shown_as (program.Trace origins) board limit = program_traced origins limit board
program_shown_as program.Pictures board limit = program_pictured limit board
program_shown_as (program.Profile counts page) board limit = program_profiled page limit board
program_shown_as (program.Board shown) board limit = board_shown_as shown board limit

-- what a verb that is ready comes to
abbrev pub outcome_of : Prepared → Outcome
outcome_of (Run run limit shown) = shown_as shown run limit
outcome_of (Program board limit shown) = program_shown_as shown board limit
outcome_of (Resumed board limit shown) = board_shown_as shown board limit
outcome_of (Link link number moves) = linked (linked_after number moves link.message)
outcome_of (Text text) = Shown (text.items ∷ []) Done []
outcome_of (Checked told) = Shown (told.text.items ∷ []) (checked_status told.faulty) []

-- ---- what it needs to be ready

-- a run that begins under a script, from a reset or from a file
pub record IsBeginning (v : VipState) : Type 0 where
  pub start : Start
  pub script : List KeyEvent
  pub is : v ≡ begun v.edition start script
  pub runs : HasStopped v → ⊥

-- two boards before their first move
pub record IsJoined (l : Linking) : Type 0 where
  pub is : l ≡ joined l.message
  pub short : length l.message ≤ most_bytes

abbrev pub IsReady : Prepared → Type 0
IsReady (Run run limit shown) = IsBeginning run
IsReady (Program board limit shown) = IsBegun board
IsReady (Resumed board limit shown) = IsStanding board
IsReady (Link link number moves) = IsJoined link
IsReady (Text text) = Unit {0}
IsReady (Checked told) = Unit {0}

-- ---- the answers

-- what is ready comes to what the request does, or the request comes to a refusal
abbrev pub PrepareAnswers : Judged Output → Result Prepared Refusal → Type 0
PrepareAnswers J (Ok p) = IsReady p × J (outcome_of p)
PrepareAnswers J (Err refusal) = RefusedBy J refusal

-- the line of a run up to a limit of which this is told
abbrev pub told_line : ℕ → Digests → List ℕ
told_line limit digests =
    encode_lower digests.trace
    ++ (codes " " ++ (encode_lower digests.pictures ++ (codes " " ++ (decimal digests.points ++ (codes " " ++ ended_report (Ran limit digests.end))))))

-- a text is ready
abbrev pub texted : Result (Vec ℕ Global) Refusal → Result Prepared Refusal
texted (Ok text) = Ok (Text text)
texted (Err refusal) = Err refusal

-- what is told of a source is ready
abbrev pub checked : Result CheckText Refusal → Result Prepared Refusal
checked (Ok told) = Ok (Checked told)
checked (Err refusal) = Err refusal

-- all files were read, each once and in their order, and no other; and of the request that was so loaded this holds
pub record OfLoaded (asked : Asked) (old new : FilesMeaning) (Here : Loaded → Type 0) : Type 0 where
  pub request : Loaded
  pub loaded : IsLoaded old new asked request
  pub here : Here request

-- what opening answers: a file is refused, or of what was loaded the contents are
abbrev pub NotOpened : Asked → FilesMeaning → FilesMeaning → Refusal → Cause → Type 0
NotOpened asked old new refusal Elsewhere = FilesRefused old new (needed asked) refusal
NotOpened asked old new refusal Memory = ReadsSome (needed asked) old new
NotOpened asked old new refusal cause = OfLoaded asked old new (λ request. By (HasOutcome request) cause)

abbrev pub OpenAnswers : Asked → FilesMeaning → FilesMeaning → Result Prepared Refusal → Type 0
OpenAnswers asked old new (Ok p) = IsReady p × OfLoaded asked old new (λ request. HasOutcome request (outcome_of p))
OpenAnswers asked old new (Err refusal) = NotOpened asked old new refusal (cause_of refusal)

-- the output went out whole, and this is its end
pub record Performs (output : Output) (old new : SinkMeaning) (ended : Ended) : Type 0 where
  pub puts : PutsAll output.pieces old new
  pub status_is : output.status ≡ ended_status ended
  pub report_is : output.report ≡ ended_report ended

-- how a run up to a limit ended, one that is saved, and one under the debugger
abbrev pub run_ended : ℕ → Result RunEnd Failed → Result Ended PerformFault
run_ended limit (Ok end) = Ok (Ran limit end)
run_ended limit (Err failed) = Err WriteFault

abbrev pub save_ended : ℕ → Result (Option RunEnd) Failed → Result Ended PerformFault
save_ended limit (Ok None) = Err NoDispatch
save_ended limit (Ok (Some end)) = Ok (Ran limit end)
save_ended limit (Err failed) = Err WriteFault

abbrev pub DebugEnds : ℕ → DebugEnd → Result Ended PerformFault → Type 0
DebugEnds limit debugger.Done answer = answer ≡ Ok (Ran limit end.AtLimit)
DebugEnds limit (debugger.Stopped stop) answer = answer ≡ Ok (Ran limit (end.AtStop stop))
DebugEnds limit debugger.WriteFault answer = answer ≡ Err WriteFault

-- What the work of a verb answers: its output went out whole, or up to a fault; or it is refused, for want of a dispatch point, and nothing was put.
abbrev pub PerformAnswers : Outcome → SinkMeaning → SinkMeaning → Result Ended PerformFault → Type 0
PerformAnswers (Given output) old new (Ok ended) = Performs output old new ended
PerformAnswers (Given output) old new (Err WriteFault) = FailsWithin output.pieces old new
PerformAnswers (Refused status report) old new (Err NoDispatch) = (status ≡ undispatched) × (report ≡ no_dispatch) × (new ≡ old)
PerformAnswers _ old new _ = ⊥
