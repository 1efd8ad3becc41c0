-- What a verb that is opened answers, from the answers of its parts, and what its work does.
use Rattle.std.proofs.Common.{◌≡◌, ℕ, max, true, false, List, [], refl, sym, ap, subst, Result, Ok, Err, IsErrAnd}
use Rattle.std.specs.Prelude.{Option, Some, None, Vec}
use Rattle.std.specs.declared.alloc.Global.{Global}
use Rattle.std.proofs.Math.Nat.{max-zero}
use Rattle.chip8_lang.specs.declared.view.Edition.{Edition}
use Rattle.chip8_lang.specs.declared.view.Edition.TheVariants.{Tall, Usual}
use Rattle.chip8_source.specs.Compared.{SourceGivesRom}
use Rattle.chip8_lang.specs.declared.view.StopRecord.{StopRecord}
use Rattle.chip8_lang.specs.Events.{is_stop}
use Rattle.machine.specs.Keys.{Event as KeyEvent}
use Rattle.vip_words.specs.Request.{Asked}
use Rattle.vip_words.specs.Spoken.{Spoken}
use Rattle.vip_words.specs.declared.request.PlainShow.TheVariants as plain
use Rattle.vip_words.specs.declared.request.Show.{Show}
use Rattle.vip_words.specs.declared.request.Show.TheVariants as show
use Rattle.vip_words.specs.declared.request.Start as asked
use Rattle.vip_words.specs.declared.request.Start.TheVariants as asking
use Rattle.vip_debug.specs.Answers.{at_start, begun as begun_there, place_of, place_after, written, DebugAnswers}
use Rattle.vip_debug.specs.declared.looks.Looks.{Looks}
use Rattle.vip_debug.specs.declared.run.DebugEnd.{DebugEnd}
use Rattle.vip_debug.specs.declared.run.DebugEnd.TheVariants as debugger
use Rattle.vip_outside.specs.Files.{FilesMeaning}
use Rattle.vip_outside.specs.Sink.{SinkMeaning}
use Rattle.vip_outside.specs.Pieces.{PutsAll, FailsWithin}
use Rattle.vip_relation.specs.State.{Start, VipState, begun, interpreter, machine_of, state_after}
use Rattle.vip_relation.specs.State.Start.{Reset, Saved}
use Rattle.vip_outside.specs.declared.sink.Failed.{Failed}
use Rattle.vip_show.specs.Answers.{IsFresh, ShowAnswers}
use Rattle.vip_show.specs.StateOutput.{SavedAnswers}
use Rattle.vip_show.proofs.Fresh.{fresh-begun}
use Rattle.vip_text.specs.Endings.{Ending}
use Rattle.vip_text.specs.Endings.Ending.{AtLimit}
use Rattle.vip_tools.specs.declared.ended.Ended.{Ended}
use Rattle.vip_tools.specs.declared.fault.PerformFault.{PerformFault}
use Rattle.vip_tools.specs.declared.fault.PerformFault.TheVariants.{WriteFault}
use Rattle.vip_tools.specs.declared.status.Status.{Status}
use Rattle.vip_tools.specs.declared.refusal.Refusal.{Refusal}
use Rattle.vip_tools.specs.declared.refusal.Refusal.TheVariants.{Unread, TooLarge, State, NoMemory}
use Rattle.vip_tools.specs.Report.{end_report}
use Rattle.vip_tools.specs.Status.{end_status}
use Rattle.vip_text.specs.declared.ending.RunEnd.{RunEnd}
use Rattle.vip_tools.specs.Files.{FilesRefused, IsLoaded, Loaded, files_of, needed}
use Rattle.vip_tools.proofs.JudgedLemmas.{behind, by-each, by-tail, refused-behind, refused-first, refused-so}
use Rattle.vip_tools.proofs.FilesLemmas.{reads-all}
use Rattle.vip_tools.specs.Judged.{By, Cause, Judged, RefusedBy, bind, cause_of, each, only}
use Rattle.vip_tools.specs.Judged.Cause.{Elsewhere, Memory, Fault, Nothing}
use Rattle.vip_tools.specs.Judged.Verdict.{Given}
use Rattle.vip_tools.specs.Opening.{CommandsCome, ScriptComes}
use Rattle.vip_words.specs.declared.debug_commands.Speaks.TheVariants.{Chip8}
use Rattle.vip_words.specs.declared.request.Code.{Code}
use Rattle.vip_tools.specs.Code.{GameComes, Known}
use Rattle.vip_tools.specs.Outcome.{Ends, Outcome, Output, Shown}
use Rattle.vip_tools.specs.Sources.{CheckComes}
use Rattle.vip_tools.specs.Work.{CheckAnswers, TextAnswers}
use Rattle.asm_lex.specs.declared.shape.Isa.{Isa}
use Rattle.asm_listing.specs.declared.report_text.CheckText.{CheckText}
use Rattle.vip_verbs.specs.Opening.{BeginComes, BeginsAt, CommandsIn, IsBeginning as IsBegin, IsShow, IsStarted, IsWhole, Started}
use Rattle.vip_verbs.specs.Outcome.{HasOutcome, RomComes, RomIs, RunStart, RunTo, ShowComes, StartComes, debug_ending, debugged, debugged_to, limit_from, looks_of, ran, ran_with, saved_pieces, stopped_by}
use Rattle.vip_verbs.specs.Prepared.{DebugEnds, IsBeginning, NotOpened, OpenAnswers, PerformAnswers, PrepareAnswers, ended_by, checked, run_ended, save_ended, shown_as, texted}
use Rattle.vip_verbs.specs.declared.opening.Beginning.{Beginning}
use Rattle.vip_verbs.specs.declared.opening.Beginning.TheVariants as beginning
use Rattle.vip_verbs.specs.declared.prepared.Prepared.{Prepared}
use Rattle.vip_verbs.specs.declared.prepared.ReadyShow.{ReadyShow}

-- ---- a run that begins

-- the ROM of each edition is what its source gives
pub rom-given : SourceGivesRom → (e : Edition) → RomIs e (Ok tt)
rom-given given Usual = given.0
rom-given given Tall = given.1

pub beginning-of : (e : Edition) (s : Start) (script : List KeyEvent) (v : VipState) → IsStarted e s script v → IsBeginning v
beginning-of e s script v starts = record { start = s; script = script; is = rw starts.is refl; runs = starts.runs }

-- it is what begins with its own edition, start and script
pub begun-of : (v : VipState) → IsBeginning v → v ≡ begun v.edition v.start v.board.script
begun-of v begins = subst (λ (u : VipState). u ≡ begun u.edition u.start u.board.script) (sym begins.is) refl

-- it is a fresh one
pub fresh-of : (v : VipState) → IsBeginning v → IsFresh v
fresh-of v begins = fresh-begun v v.edition begins.start begins.script begins.is begins.runs

-- what holds of every edition and start holds of those of a run whose bytes are whole
pub begins-all : (Q : Edition → Start → Type 0) (at : Beginning) → IsWhole at → ((e : Edition) (s : Start) → Q e s) → BeginsAt at Q
begins-all Q (beginning.Reset game edition) whole all =
    record { value = record { edition = edition; start = Reset game.items }; gives = refl; here = all edition (Reset game.items) }
begins-all Q (beginning.Saved file) whole all =
    record {
      value = record { edition = whole.0; start = Saved file.items };
      gives = record { accepted = whole.1; saved = refl };
      here = all whole.0 (Saved file.items);
    }

-- what comes of the bytes with which a run begins comes of the run
module _ (Here : Edition → Start → Judged Output) (start : asked.Start (List ℕ)) (at : Beginning) (is : IsBegin start at) where
  pub begun-comes : (o : Outcome) → BeginsAt at (λ e s. Here e s o) → bind (StartComes start) (λ s. Here s.edition s.start) o
  begun-comes o x = behind (StartComes start) (λ s. Here s.edition s.start) x.value (is x.value x.gives) o x.here

  pub refused-begun : (refusal : Refusal) → BeginsAt at (λ e s. RefusedBy (Here e s) refusal) → RefusedBy (bind (StartComes start) (λ s. Here s.edition s.start)) refusal
  refused-begun refusal x = refused-behind (StartComes start) (λ s. Here s.edition s.start) x.value (is x.value x.gives) refusal x.here

-- with the game of its code
abbrev game_start : Edition → List ℕ → Judged RunStart
game_start edition game = only (record { edition = edition; start = Reset game })

pub game-begins : {Z : Type 0} (edition : Edition) (code : Code (List ℕ)) (game : Vec ℕ Z) → GameComes edition code (Given game.items)
    → (s : RunStart) → s ≡ record { edition = edition; start = Reset game.items } → StartComes (asking.Game code edition) (Given s)
game-begins edition code game comes s is = record { value = game.items; gives = comes; here = is }

pub refused-game : (edition : Edition) (code : Code (List ℕ)) (refusal : Refusal) → RefusedBy (GameComes edition code) refusal
    → RefusedBy (StartComes (asking.Game code edition)) refusal
refused-game edition code = refused-first (GameComes edition code) (game_start edition)

-- ---- its script, and what is shown of it

module _ (e : Edition) (s : Start) (keys : Option (List ℕ)) (known : Known) (limit : ℕ) where
  -- what is shown of it isn't ready
  pub refused-show : (asked : Show (List ℕ)) (refusal : Refusal) → RefusedBy (CommandsIn known limit asked) refusal → RefusedBy (ShowComes known e s keys limit asked) refusal
  refused-show (show.Commands text echo columns) refusal by =
      refused-first (CommandsCome Chip8 known.names echo limit text) (λ commands. RunTo e keys (λ script. debugged (looks_of known columns) commands e s script limit)) refusal by
  refused-show asked refusal by = by-each (λ (commands : List Spoken). commands ≡ []) (ShowComes known e s keys limit asked) (cause_of refusal) by

  -- it is ready, so it comes to what it makes of its script
  module _ (ready : ReadyShow) where
    abbrev Comes : Judged Output
    Comes = RunTo e keys (λ script. shown_as ready (begun e s script) limit)

    comes-as : (asked : Show (List ℕ)) → IsShow known limit asked ready → (o : Outcome) → Comes o → ShowComes known e s keys limit asked o
    comes-as (show.Commands text echo columns) is o come =
        behind (CommandsCome Chip8 known.names echo limit text) (λ commands. RunTo e keys (λ script. debugged (looks_of known columns) commands e s script limit)) is.0 is.2 o
        (rw (is.4, is.3) at come)
    comes-as (show.Plain (plain.Trace columns)) is o come = rw (is.2, is.1) at come
    comes-as (show.Plain plain.Pictures) is o come = rw is at come
    comes-as (show.Plain plain.State) is o come = rw is at come
    comes-as (show.Plain plain.Profile) is o come = rw (is.3, is.2) at come
    comes-as (show.Plain (plain.Summary number)) is o come = rw is at come

    pub run-comes : (asked : Show (List ℕ)) → IsShow known limit asked ready → (v : VipState) → BeginComes e s keys (Given v)
        → ShowComes known e s keys limit asked (shown_as ready v limit)
    run-comes asked is v begins =
        comes-as asked is _
        (subst (λ w. Comes (shown_as ready w limit)) (sym begins.here.here.is)
        (behind (ScriptComes keys) (λ script. bind (RomComes e) (λ _. Ends (shown_as ready (begun e s script) limit))) begins.value begins.gives _
        (behind (RomComes e) (λ _. Ends (shown_as ready (begun e s begins.value) limit)) tt begins.here.gives _ refl)))

    pub refused-begin : (asked : Show (List ℕ)) → IsShow known limit asked ready → (refusal : Refusal) → RefusedBy (BeginComes e s keys) refusal
        → RefusedBy (ShowComes known e s keys limit asked) refusal
    refused-begin asked is refusal by =
        refused-so Comes (ShowComes known e s keys limit asked) (comes-as asked is) refusal
        (by-tail (ScriptComes keys) (Started e s) (λ script. bind (RomComes e) (λ _. Ends (shown_as ready (begun e s script) limit)))
        (λ script. by-tail (RomComes e) (λ _. each (IsStarted e s script)) (λ _. Ends (shown_as ready (begun e s script) limit))
        (λ _. by-each (IsStarted e s script) (Ends (shown_as ready (begun e s script) limit))))
        (cause_of refusal) by)

-- ---- what the debugger answers of a machine that begins

module _ (looks : Looks) (limit : ℕ) (commands : List Spoken) (v w : VipState) (old new : SinkMeaning) (begins : IsBeginning v) where
  abbrev Answered : DebugEnd → Type 0
  Answered end = DebugAnswers looks (begun_there v) (max limit v.board.machine.cycle) commands (place_of v) w old new end

  abbrev Answers_to : ℕ → VipState → DebugEnd → Type 0
  Answers_to last u end = DebugAnswers looks u last commands (at_start u) w old new end

  -- it begins before the first move, and the limit isn't in its past
  from-begun : (e : Edition) (s : Start) (script : List KeyEvent) (end : DebugEnd)
      → Answers_to (max limit (machine_of s).cycle) (begun e s script) end → Answers_to (limit_from s limit) (begun e s script) end
  from-begun e (Reset game) script end answers = rw max-zero at answers
  from-begun e (Saved file) script end answers = answers

  from-start : (end : DebugEnd) → Answered end → Answers_to (limit_from v.start limit) v end
  from-start end =
      subst
      (λ u. DebugAnswers looks (begun_there u) (max limit u.board.machine.cycle) commands (place_of u) w old new end → Answers_to (limit_from u.start limit) u end)
      (sym begins.is)
      (from-begun v.edition begins.start begins.script end)

  abbrev last : ℕ
  last = limit_from v.start limit

  pub debug-done : Answered debugger.Done → (AtLimit ≡ debug_ending v last commands) × PutsAll (written looks v last commands (at_start v)) old new
  debug-done answers =
      let here = from-start debugger.Done answers in
      let runs : is_stop (interpreter v) (state_after v (place_after v last commands (at_start v)).moves) ≡ false = rw here.0.stands.machine at here.1 in
      (rw runs refl, here.0.puts)

  pub debug-stopped :
      (stop : StopRecord) → Answered (debugger.Stopped stop)
      → (stopped_by stop ≡ debug_ending v last commands) × PutsAll (written looks v last commands (at_start v)) old new
  debug-stopped stop answers =
      let here = from-start (debugger.Stopped stop) answers in
      let stops : is_stop (interpreter v) (state_after v (place_after v last commands (at_start v)).moves) ≡ true = rw here.0.stands.machine at here.1 in
      (rw stops (ap stopped_by here.2), here.0.puts)

  pub debug-fails : Answered debugger.WriteFault → FailsWithin (written looks v last commands (at_start v)) old new
  debug-fails answers = (from-start debugger.WriteFault answers).0

-- ---- the work

-- a run that was shown, by its pieces
pub show-performs :
    (limit : ℕ) (pieces : List (List ℕ)) (v : VipState) (old new : SinkMeaning) (r : Result RunEnd Failed) → ShowAnswers v limit pieces old new r
    → PerformAnswers (ran limit pieces (ended_by limit v)) old new (run_ended limit r)
show-performs limit pieces v old new (Ok end) shows = record {
  puts = shows.puts;
  status_is = ap end_status (sym shows.ending);
  report_is = ap (end_report limit) (sym shows.ending);
}
show-performs limit pieces v old new (Err failed) fails = fails

-- a put that failed, of which the fault is passed on
pub failed-at :
    (pieces : List (List ℕ)) (status : Status) (report : List ℕ) (old new : SinkMeaning) (r : Result Ended PerformFault)
    → IsErrAnd r (λ fault. fault ≡ WriteFault) → FailsWithin pieces old new → PerformAnswers (Shown pieces status report) old new r
failed-at pieces status report old new (Ok ended) bad fails = absurd bad
failed-at pieces status report old new (Err fault) bad fails = rw bad fails

-- a run that was saved, or refused
pub save-performs :
    (limit : ℕ) (ending : Ending) (file : Option (List ℕ)) (old new : SinkMeaning) (r : Result (Option RunEnd) Failed)
    → SavedAnswers file ending old new r → PerformAnswers (ran_with limit ending (saved_pieces file)) old new (save_ended limit r)
save-performs limit ending None old new (Ok None) same = (refl, refl, same)
save-performs limit ending None old new (Ok (Some end)) saves = absurd saves
save-performs limit ending None old new (Err failed) fails = absurd fails
save-performs limit ending (Some file) old new (Ok None) same = absurd same
save-performs limit ending (Some file) old new (Ok (Some end)) saves = record {
  puts = saves.0;
  status_is = ap end_status (sym saves.1);
  report_is = ap (end_report limit) (sym saves.1);
}
save-performs limit ending (Some file) old new (Err failed) fails = fails

module _ (looks : Looks) (limit : ℕ) (commands : List Spoken) (v w : VipState) (old new : SinkMeaning) (begins : IsBeginning v) where
  abbrev Comes-to : Outcome
  Comes-to = debugged_to looks limit (limit_from v.start limit) commands v

  -- commands that were run
  pub debug-performs :
      (end : DebugEnd) (r : Result Ended PerformFault) → Answered looks limit commands v w old new begins end → DebugEnds limit end r
      → PerformAnswers Comes-to old new r
  debug-performs debugger.Done r answers is =
      let done = debug-done looks limit commands v w old new begins answers in
      rw is (record { puts = done.1; status_is = ap end_status (sym done.0); report_is = ap (end_report limit) (sym done.0) })
  debug-performs (debugger.Stopped stop) r answers is =
      let stopped = debug-stopped looks limit commands v w old new begins stop answers in
      rw is (record { puts = stopped.1; status_is = ap end_status (sym stopped.0); report_is = ap (end_report limit) (sym stopped.0) })
  debug-performs debugger.WriteFault r answers is = rw is (debug-fails looks limit commands v w old new begins answers)

-- ---- what is opened

module _ (J : Judged Output) where
  pub text-answers : (r : Result (Vec ℕ Global) Refusal) → TextAnswers J r → PrepareAnswers J (texted r)
  text-answers (Ok text) answers = (tt, answers)
  text-answers (Err refusal) answers = answers

pub checked-answers : (isa : Isa) (name source : List ℕ) (r : Result CheckText Refusal) → CheckAnswers isa name source r
    → PrepareAnswers (CheckComes isa name source) (checked r)
checked-answers isa name source (Ok told) answers = (tt, answers)
checked-answers isa name source (Err refusal) answers = answers

module _ (asked : Asked) (old new : FilesMeaning) where
  -- a file is refused
  pub files-refused : (refusal : Refusal) → FilesRefused old new (needed asked) refusal → OpenAnswers asked old new (Err refusal)
  files-refused (Unread name) answer = answer
  files-refused (TooLarge kind) answer = answer
  files-refused (State fault) answer = answer
  files-refused NoMemory answer = answer
  files-refused _ answer = absurd answer

  -- all were read
  module _ (request : Loaded) (loaded : IsLoaded old new asked request) where
    not-opened : (refusal : Refusal) (c : Cause) → By (HasOutcome request) c → NotOpened asked old new refusal c
    not-opened refusal Elsewhere by = absurd by
    not-opened refusal Memory by = reads-all old new (needed asked) (files_of (needed request)) loaded.loads.read loaded.loads.reads
    not-opened refusal (Fault status report) by = record { request = request; loaded = loaded; here = by }
    not-opened refusal (Nothing report) by = record { request = request; loaded = loaded; here = by }

    pub open-answers : (r : Result Prepared Refusal) → PrepareAnswers (HasOutcome request) r → OpenAnswers asked old new r
    open-answers (Ok p) answers = (answers.0, record { request = request; loaded = loaded; here = answers.1 })
    open-answers (Err refusal) answers = not-opened refusal (cause_of refusal) answers
