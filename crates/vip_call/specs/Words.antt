-- What is answered from the words on.
use Rattle.std.specs.Prelude.{◌≡◌, ◌⊎◌, ℕ, List, Some, None, Result, Ok, Err}
use Rattle.std.specs.Borrow.{Bor}
use Rattle.vip_outside.specs.Files.{FilesMeaning}
use Rattle.vip_outside.specs.Sink.{SinkMeaning}
use Rattle.vip_outside.specs.Pieces.{PutsAll, FailsWithin}
use Rattle.chip8_source.specs.declared.fault.ImageFault.{ImageFault}
use Rattle.vip_link.specs.Checked.{ComparesLink}
use Rattle.vip_words.specs.Asked.{asked_by}
use Rattle.vip_words.specs.Request.{Asked, asked_of}
use Rattle.vip_words.specs.Rules.{Word}
use Rattle.vip_words.specs.declared.request.Request.{Request}
use Rattle.vip_tools.specs.declared.ended.Ended.{Ended}
use Rattle.vip_tools.specs.declared.fault.PerformFault.{PerformFault}
use Rattle.vip_tools.specs.declared.fault.PerformFault.TheVariants.{NoDispatch, WriteFault}
use Rattle.vip_tools.specs.declared.refusal.Refusal.{Refusal}
use Rattle.vip_tools.specs.declared.refusal.Refusal.TheVariants.{Usage, NoMemory}
use Rattle.vip_tools.specs.Report.{report_pieces, write_fault}
use Rattle.vip_tools.specs.Reported.{IsPut, RefusalAnswers}
use Rattle.vip_tools.specs.Status.{ended_status, fault_status}
use Rattle.vip_tools.specs.declared.status.Status.{Status}
use Rattle.vip_tools.specs.declared.status.Status.TheVariants.{NoDispatch as undispatched}
use Rattle.vip_tools.specs.Judged.Verdict.{Given, Refused}
use Rattle.vip_tools.specs.Outcome.{Outcome, Output}
use Rattle.vip_tools.specs.Files.{needed, ReadsSome}
use Rattle.vip_verbs.specs.Prepared.{OpenAnswers, outcome_of}
use Rattle.vip_verbs.specs.Outcome.{RomIs}
use Rattle.vip_verbs.specs.declared.prepared.Prepared.{Prepared}
use Rattle.vip_verbs.specs.declared.prepared.Prepared.TheVariants.{Run, Link}

-- what is understood
abbrev pub UnderstoodAnswers : List (List ℕ) → Result (Request (Bor Word)) Refusal → Type 0
UnderstoodAnswers words (Ok request) = asked_by words ≡ Some (asked_of request)
UnderstoodAnswers words (Err Usage) = asked_by words ≡ None
UnderstoodAnswers words (Err NoMemory) = Unit {0}
UnderstoodAnswers words (Err _) = ⊥

-- the words ask for this, of which this holds
pub record OfWords (words : List (List ℕ)) (Here : Asked → Type 0) : Type 0 where
  pub asked : Asked
  pub words_are : asked_by words ≡ Some asked
  pub here : Here asked

-- Opening: the words are refused, and nothing is read; or it is that of what they ask for. Where no memory is found, some of the files may have been read.
abbrev pub OpensWords : List (List ℕ) → FilesMeaning → FilesMeaning → Result Prepared Refusal → Type 0
OpensWords words old new (Err Usage) = (asked_by words ≡ None) × (new ≡ old)
OpensWords words old new (Err NoMemory) = (new ≡ old) ⊎ OfWords words (λ asked. ReadsSome (needed asked) old new)
OpensWords words old new answer = OfWords words (λ asked. OpenAnswers asked old new answer)

-- The comparison of the ROMs of what was opened: that of the run's edition, those of two boards that are joined, and else none.
abbrev pub RomsAnswer : Prepared → Result (Unit {0}) ImageFault → Type 0
RomsAnswer (Run run limit shown) answer = RomIs run.edition answer
RomsAnswer (Link link number moves) answer = ComparesLink answer
RomsAnswer _ answer = answer ≡ Ok tt

-- the output went out whole, and then its report
pub record Reports (output : Output) (out out' err err' : SinkMeaning) (ended : Ended) : Type 0 where
  pub whole : PutsAll output.pieces out out'
  pub reported : PutsAll (report_pieces output.report) err err'
  pub status_is : output.status ≡ ended_status ended

-- a fault of the output, which is reported; or of the report
abbrev pub Faults : Output → SinkMeaning → SinkMeaning → SinkMeaning → SinkMeaning → Type 0
Faults output out out' err err' =
    (FailsWithin output.pieces out out' × IsPut write_fault err err') ⊎ (PutsAll output.pieces out out' × FailsWithin (report_pieces output.report) err err')

-- What performing answers; it can't be want of memory. A run that is to be saved and has no dispatch point is refused, with no output: whether its
-- report could be written or not, the answer is the same.
abbrev pub PerformsAnswer : Outcome → SinkMeaning → SinkMeaning → SinkMeaning → SinkMeaning → Result Ended PerformFault → Type 0
PerformsAnswer (Given output) out out' err err' (Ok ended) = Reports output out out' err err' ended
PerformsAnswer (Given output) out out' err err' (Err WriteFault) = Faults output out out' err err'
PerformsAnswer (Refused status report) out out' err err' (Err NoDispatch) = (status ≡ undispatched) × (out' ≡ out) × IsPut report err err'
PerformsAnswer _ out out' err err' _ = ⊥

abbrev pub performed_status : Result Ended PerformFault → Status
performed_status (Ok ended) = ended_status ended
performed_status (Err fault) = fault_status fault

-- The status of what was performed, which is never want of memory.
pub record Finishes (o : Outcome) (out out' err err' : SinkMeaning) (status : Status) : Type 0 where
  pub answer : Result Ended PerformFault
  pub performs : PerformsAnswer o out out' err err' answer
  pub is : status ≡ performed_status answer

-- What is answered once something was opened, or nothing: what was performed; or a refusal, with no output.
abbrev pub FinishAnswers : Result Prepared Refusal → SinkMeaning → SinkMeaning → SinkMeaning → SinkMeaning → Status → Type 0
FinishAnswers (Ok p) out out' err err' status = Finishes (outcome_of p) out out' err err' status
FinishAnswers (Err refusal) out out' err err' status = (out' ≡ out) × RefusalAnswers refusal err err' status
