-- What a request writes and reports of a run is that of a transcript of CHIP-8.
use Rattle.std.proofs.Common.{◌≡◌, ◌⊎◌, inl, inr, ℕ, ◌-◌, ◌<◌, ◌≤◌, true, false, List, [], ◌∷◌, ◌++◌, length, Option, Some, None, Ok, refl, sym, ap, subst, ◌∙◌, arith}
use Rattle.std.specs.Prelude.{max}
use Rattle.std.specs.List.{last_or}
use Rattle.std.specs.Option.{option_map}
use Rattle.std.proofs.lemmas.Bool.{cases_lt}
use Rattle.machine.specs.Board.{Machine}
use Rattle.machine.specs.Keys.{Event as KeyEvent}
use Rattle.machine.specs.Pictures.{windows_ended}
use Rattle.chip8_lang.specs.declared.view.Edition.{Edition}
use Rattle.chip8_lang.specs.Events.{Event, events_behind, is_stop}
use Rattle.rom_law.specs.Language.{end_cycle}
use Rattle.rom_board.specs.Laws.{EveryRun, EveryTime}
use Rattle.rom_board.proofs.Passed.{before_point, events_to_stop, no_stop_before}
use Rattle.chip8_image.specs.Interpreters.{interpreter_of}
use Rattle.vip_byte.specs.Number.{most_cycles}
use Rattle.vip_relation.specs.Follows.{Fits, last_dispatch}
use Rattle.vip_relation.specs.State.{Start, begun, machine_of}
use Rattle.vip_relation.specs.State.Start.{Reset, Saved}
use Rattle.vip_relation.proofs.Beginning.{begins-running}
use Rattle.vip_relation.proofs.Past.{state}
use Rattle.vip_debug.specs.Answers.{moves_until, at_start, written}
use Rattle.vip_debug.specs.declared.looks.Looks.{Looks}
use Rattle.vip_debug.proofs.Reaching.{last_until}
use Rattle.vip_text.specs.Endings.{Ending}
use Rattle.vip_text.specs.StateFile.{shown}
use Rattle.vip_show.specs.Output.{picture_pieces}
use Rattle.vip_show.specs.StateOutput.{saved_file}
use Rattle.vip_show.specs.Written.{file_of}
use Rattle.vip_words.specs.Request.{Asked}
use Rattle.vip_words.specs.Spoken.{Spoken}
use Rattle.vip_words.specs.declared.request.Request.TheVariants as request
use Rattle.vip_words.specs.declared.request.Show.{Show}
use Rattle.vip_words.specs.declared.request.PlainShow.TheVariants as plain
use Rattle.vip_words.specs.declared.request.Show.TheVariants as show
use Rattle.vip_tools.specs.declared.status.Status.{Status}
use Rattle.vip_tools.specs.declared.status.Status.TheVariants.{Done, NoDispatch, Stopped as Stops, WriteFault}
use Rattle.vip_tools.specs.Files.{Loaded, needed, script_files, shape_of, show_files}
use Rattle.vip_tools.specs.Judged.Verdict.{Given}
use Rattle.vip_tools.specs.Outcome.{Output, script_in}
use Rattle.vip_tools.specs.Report.{end_report}
use Rattle.vip_tools.specs.Status.{end_status}
use Rattle.vip_tools.proofs.JudgedLemmas.{same_value}
use Rattle.vip_tools.specs.Code.{Known}
use Rattle.vip_verbs.specs.Outcome.{known_in, HasOutcome, RunTo, ShowComes, debug_ending, events_shown, limit_from, looks_of, ran, ran_with, run_ending, saved_pieces}
use Rattle.vip_show.specs.Runs.{events_in, run_of}
use Rattle.vip_call.specs.Commands.{AllAnswered}
use Rattle.vip_call.specs.Transcribed.{IsRun, IsShown, IsStateOf, LacksPoint, Transcribed, Transcribes, all_points, first_cycle, shown_from}
use Rattle.vip_call.specs.Transcript.{GoesOn, Point, Shows, last_point, profile_of, summary_text, trace_text}
use Rattle.vip_call.specs.Top.{Asks, Call, Says, TellsTimed, Writes, WritesExactly}
use Rattle.vip_call.proofs.AskedLemmas.{IsLimited, asked_limited}
use Rattle.vip_call.proofs.DebuggedLemmas.{answers, over_at}
use Rattle.vip_call.proofs.FilledLemmas.{AreGiven, are_given}
use Rattle.vip_call.proofs.GivenStarts.{begun_so, from_start}
use Rattle.vip_call.proofs.LanguageLemmas.{is_chip8}
use Rattle.vip_call.proofs.LimitLemmas.{late_limit, nothing_by, same_events, same_ending}
use Rattle.vip_call.proofs.Outcomes.{RomsGiven, unsaved}
use Rattle.vip_call.proofs.ResumedLemmas.{FromFile as FromAccepted}
use Rattle.vip_call.proofs.SavedLemmas.{SavesShown}
use Rattle.vip_call.proofs.TimedLemmas.{TimeFromFile, boots, timed_pictures, timed_points}
use Rattle.vip_call.proofs.TranscriptLemmas.{Boots, begins, file_point_is, game_pictures, goes_on, last_is_last, late_pictures, later_pictures, point_of, points_of, profiled_is, summed_is, traced_is}

-- the points behind the start, and with the start's they are all
abbrev points_shown : Edition → Start → List KeyEvent → ℕ → List Point
points_shown e s script limit = points_of e (events_shown e s script limit)

all_are : (e : Edition) (s : Start) (script : List KeyEvent) (limit : ℕ)
    → points_of e (events_in e s script limit) ≡ all_points e s (points_shown e s script limit)
all_are e (Reset game) script limit = refl
all_are e (Saved f) script limit = ap (λ p. p ∷ points_shown e (Saved f) script limit) (file_point_is e f)

cycle_is : (e : Edition) (s : Start) → (machine_of s).cycle ≡ first_cycle e s
cycle_is e (Reset game) = refl
cycle_is e (Saved f) = ap (λ (p : Point). p.cycle) (file_point_is e f)

-- so many pictures come from a cycle on
abbrev Counted : Edition → ℕ → List KeyEvent → Start → ℕ → Type 0
Counted e limit script s t =
    length (picture_pieces (interpreter_of e).rom (run_of e s script limit) (events_shown e s script limit))
    ≡ windows_ended (end_cycle limit (events_shown e s script limit)) - windows_ended t

module _ (every : EveryRun) (from : FromAccepted) (time : EveryTime) (time_from : TimeFromFile) (saves : SavesShown) where
  module _ (e : Edition) (s : Start) (fits : Fits e s) (limit : ℕ) where
    abbrev over : List KeyEvent → ℕ
    over script = end_cycle limit (events_shown e s script limit)

    abbrev files : List KeyEvent → List (List ℕ)
    files script = picture_pieces (interpreter_of e).rom (run_of e s script limit) (events_shown e s script limit)

    -- how many pictures there are
    files_counted : (script : List KeyEvent) → length (files script) ≡ windows_ended (over script) - windows_ended (first_cycle e s)
    files_counted script = by_start s fits
      where
        by_start : (s : Start) → Fits e s → Counted e limit script s (first_cycle e s)
        by_start (Reset game) fits =
            game_pictures e script limit (run_of e (Reset game) script limit) (run_ending e (Reset game) script limit) game
            (events_in e (Reset game) script limit)
            (is_chip8 every from e (Reset game) fits script limit)
        by_start (Saved f) fits = subst (Counted e limit script (Saved f)) (cycle_is e (Saved f)) (by_test (cases_lt limit (shown f).cycle))
          where
            by_test : (limit < (shown f).cycle) ⊎ ((shown f).cycle ≤ limit) → Counted e limit script (Saved f) (shown f).cycle
            by_test (inl before) =
                subst
                (λ (es : List Event). length (picture_pieces (interpreter_of e).rom (run_of e (Saved f) script limit) es)
                ≡ windows_ended (end_cycle limit es) - windows_ended (shown f).cycle)
                (sym (nothing_by e script (shown f) limit (omega (arith, before))))
                (late_pictures e script limit (run_of e (Saved f) script limit) (run_ending e (Saved f) script limit) (shown f) before)
            by_test (inr behind) =
                later_pictures e script limit (run_of e (Saved f) script limit) (run_ending e (Saved f) script limit) (shown f)
                (events_behind (interpreter_of e) script (shown f) limit) behind (is_chip8 every from e (Saved f) fits script limit).events

    -- the points, in the language's time
    timed :
        (script : List KeyEvent)
        → Shows e script limit (shown_from e s script limit) (points_shown e s script limit) (run_ending e s script limit) (over script)
    timed script = timed_points time time_from every from e s fits script limit

    -- so it is a run of CHIP-8
    chip8 : (script : List KeyEvent) → IsRun e s script limit (points_shown e s script limit) (run_ending e s script limit) (over script)
    chip8 script = by_start s fits (timed script)
      where
        by_start :
            (s : Start) → Fits e s
            → Shows e script limit (shown_from e s script limit) (points_shown e s script limit) (run_ending e s script limit)
            (end_cycle limit (events_shown e s script limit))
            → IsRun e s script limit (points_shown e s script limit) (run_ending e s script limit) (end_cycle limit (events_shown e s script limit))
        by_start (Reset game) fits x =
            begins e script limit (run_of e (Reset game) script limit) (run_ending e (Reset game) script limit) game (events_in e (Reset game) script limit)
            (is_chip8 every from e (Reset game) fits script limit) (boots e script limit game _ _ _ x)
        by_start (Saved f) fits x =
            subst
            (λ p. GoesOn e script limit p (points_shown e (Saved f) script limit) (run_ending e (Saved f) script limit)
            (end_cycle limit (events_shown e (Saved f) script limit)))
            (file_point_is e f)
            (goes_on e script limit (run_of e (Saved f) script limit) (run_ending e (Saved f) script limit) (windows_ended (shown f).cycle) (shown f)
            (events_behind (interpreter_of e) script (shown f) limit) (is_chip8 every from e (Saved f) fits script limit).events)

    -- the answers of the debugger's commands
    answered :
        (looks : Looks) (script : List KeyEvent) (commands : List Spoken)
        → AllAnswered e looks (max limit (first_cycle e s)) (all_points e s (points_shown e s script limit)) (run_ending e s script limit) (over script)
        (debug_ending (begun e s script) (limit_from s limit) commands) commands (first_cycle e s)
        (written looks (begun e s script) (limit_from s limit) commands (at_start (begun e s script)))
    answered looks script commands =
        subst (λ t. AllAnswered e looks last (all_points e s (points_shown e s script limit)) (run_ending e s script limit) (over script) told commands t pieces)
        (cycle_is e s)
        (subst (λ t. AllAnswered e looks t (all_points e s (points_shown e s script limit)) (run_ending e s script limit) (over script) told commands
        (machine_of s).cycle pieces) (limit_is s limit)
        (subst (λ ps. AllAnswered e looks to ps (run_ending e s script limit) (over script) told commands (machine_of s).cycle pieces)
        (ap (points_of e) (same_events e s script limit) ∙ all_are e s script limit)
        (subst (λ z. AllAnswered e looks to (points_of e (events_in e s script to)) z (over script) told commands (machine_of s).cycle pieces)
        (same_ending e s script limit)
        (answers e s script begins to late (over script) over_is looks commands))))
      where
        begins : is_stop (interpreter_of e) (machine_of s) ≡ false
        begins = begins-running e s fits

        to : ℕ
        to = limit_from s limit

        last : ℕ
        last = max limit (first_cycle e s)

        late : (machine_of s).cycle ≤ to
        late = late_limit s limit

        told : Ending
        told = debug_ending (begun e s script) to commands

        pieces : List (List ℕ)
        pieces = written looks (begun e s script) to commands (at_start (begun e s script))

        limit_is : (s : Start) (limit : ℕ) → limit_from s limit ≡ max limit (first_cycle e s)
        limit_is (Reset game) limit = omega arith
        limit_is (Saved f) limit = ap (max limit) (cycle_is e (Saved f))

        shown_over : (s : Start) → end_cycle limit (events_shown e s script limit) ≡ end_cycle limit (events_in e s script limit)
        shown_over (Reset game) = refl
        shown_over (Saved f) = refl

        made : ℕ
        made = moves_until (begun e s script) to

        over_is :
            is_stop (interpreter_of e) (state (interpreter_of e) s script made) ≡ true
            → end_cycle limit (events_shown e s script limit) ≡ (state (interpreter_of e) s script made).cycle
        over_is stop =
            let h = last_until e s script begins to late in
            shown_over s
            ∙ ap (end_cycle limit)
            (sym (same_events e s script limit) ∙ events_to_stop (interpreter_of e) s script begins to made h.within stop h.runs)
            ∙ over_at limit (before_point (interpreter_of e) s script made) (state (interpreter_of e) s script made)
            (no_stop_before (interpreter_of e) s script made h.runs)

  module _ (known : Known) (e : Edition) (s : Start) (fits : Fits e s) (keys : Option (List ℕ)) (limit : ℕ) (asked_show : Show (List ℕ)) (output : Output) where
    -- these pieces and this end were told
    told_run :
        (script : List KeyEvent) → script_in keys ≡ Ok script → (pieces : List (List ℕ)) (told : Ending)
        → IsShown e s (points_shown e s script limit) known limit (shown_from e s script limit) (run_ending e s script limit)
        (end_cycle limit (events_shown e s script limit)) told asked_show pieces
        → Given output ≡ ran limit pieces told → Transcribed known e s keys limit asked_show output.pieces output.status output.report
    told_run script reads pieces told is_shown is =
        let same = same_value output (record { pieces = pieces; status = end_status told; report = end_report limit told }) is in
        subst (λ (o : Output). Transcribed known e s keys limit asked_show o.pieces o.status o.report) (sym same)
        (record {
          script = script;
          reads = reads;
          points = points_shown e s script limit;
          ending = run_ending e s script limit;
          over = end_cycle limit (events_shown e s script limit);
          timed = timed e s fits limit script;
          chip8 = chip8 e s fits limit script;
          reported = told;
          shown = is_shown;
          status_is = refl;
          report_is = refl;
        })

    transcribed_run :
        (pieces : List KeyEvent → List (List ℕ)) (told : List KeyEvent → Ending)
        → ((script : List KeyEvent)
        → IsShown e s (points_shown e s script limit) known limit (shown_from e s script limit) (run_ending e s script limit)
        (end_cycle limit (events_shown e s script limit)) (told script) asked_show (pieces script))
        → RunTo e keys (λ script. ran limit (pieces script) (told script)) (Given output)
        → Transcribed known e s keys limit asked_show output.pieces output.status output.report
    transcribed_run pieces told is_shown comes = told_run comes.value comes.gives (pieces comes.value) (told comes.value) (is_shown comes.value) comes.here.here

  transcribed_state :
      (known : Known) (e : Edition) (s : Start) (fits : Fits e s) (keys : Option (List ℕ)) (limit : ℕ) → limit ≤ most_cycles → (output : Output) (script : List KeyEvent)
      → script_in keys ≡ Ok script → (file : Option (List ℕ)) → saved_file e (events_in e s script limit) ≡ file
      → Given output ≡ ran_with limit (run_ending e s script limit) (saved_pieces file)
      → Transcribed known e s keys limit (show.Plain plain.State) output.pieces output.status output.report
  transcribed_state known e s fits keys limit few output script reads None saved is = absurd (cc)
  transcribed_state known e s fits keys limit few output script reads (Some file) saved is =
      told_run known e s fits keys limit (show.Plain plain.State) output script reads (file ∷ []) (run_ending e s script limit) (state, refl) is
    where
      state : IsStateOf e (last_point (all_points e s (points_shown e s script limit))) (file ∷ [])
      state =
          let x = saves e s fits script limit few file saved in
          record {
            file = file;
            written = refl;
            accepted = x.0;
            shows =
                ap last_point (sym (all_are e s script limit)) ∙ last_is_last e (events_in e s script limit)
                ∙ ap (λ last. option_map (point_of e) last) x.1 ∙ ap Some (file_point_is e file);
          }

  transcribed_as :
      (known : Known) (e : Edition) (s : Start) (fits : Fits e s) (keys : Option (List ℕ)) (limit : ℕ) → limit ≤ most_cycles → (asked_show : Show (List ℕ)) (output : Output)
      → ShowComes known e s keys limit asked_show (Given output) → Transcribed known e s keys limit asked_show output.pieces output.status output.report
  transcribed_as known e s fits keys limit few (show.Plain (plain.Trace columns)) output comes =
      transcribed_run known e s fits keys limit (show.Plain (plain.Trace columns)) output _ _
      (λ script. (
        traced_is e known.origins columns (events_shown e s script limit) (events_in e s script limit)
            ∙ ap (λ ps. trace_text e known.origins columns (points_shown e s script limit) (last_point ps)) (all_are e s script limit),
        refl,
      ))
      comes
  transcribed_as known e s fits keys limit few (show.Plain plain.Pictures) output comes =
      transcribed_run known e s fits keys limit (show.Plain plain.Pictures) output _ _
      (λ script. (timed_pictures time time_from e s fits script limit, refl)) comes
  transcribed_as known e s fits keys limit few (show.Commands text echo columns) output comes =
      transcribed_run known e s fits keys limit (show.Commands text echo columns) output _ _
      (λ script. rw comes.gives (answered e s fits limit (looks_of known columns) script comes.value)) comes.here
  transcribed_as known e s fits keys limit few (show.Plain plain.State) output comes =
      transcribed_state known e s fits keys limit few output comes.value comes.gives (saved_file e (events_in e s comes.value limit)) refl comes.here.here
  transcribed_as known e s fits keys limit few (show.Plain plain.Profile) output comes =
      transcribed_run known e s fits keys limit (show.Plain plain.Profile) output _ _
      (λ script. (profiled_is e known.origins (events_in e s script limit) ∙ ap (profile_of e known.origins) (all_are e s script limit), refl)) comes
  transcribed_as known e s fits keys limit few (show.Plain (plain.Summary number)) output comes =
      transcribed_run known e s fits keys limit (show.Plain (plain.Summary number)) output _ _
      (λ script. (
        summed_is e number (windows_ended (over e s fits limit script) - windows_ended (first_cycle e s)) (interpreter_of e).rom (run_of e s script limit)
            (events_shown e s script limit) (events_in e s script limit) (files_counted e s fits limit script)
            ∙ ap (λ ps. summary_text e number (windows_ended (over e s fits limit script) - windows_ended (first_cycle e s)) (points_shown e s script limit)
            (last_point ps))
            (all_are e s script limit),
        refl,
      ))
      comes

  transcribes :
      (loaded : Loaded) (output : Output) → AreGiven (needed loaded) → IsLimited (shape_of loaded) → HasOutcome loaded (Given output)
      → Transcribes loaded output.pieces output.status output.report
  transcribes (request.Run run) output given few comes =
      from_start (λ e s. Transcribed (known_in run.start) e s run.keys run.limit run.show output.pieces output.status output.report) run.start
      (begun_so output (λ e s. ShowComes (known_in run.start) e s run.keys run.limit run.show)
      (λ e s. Transcribed (known_in run.start) e s run.keys run.limit run.show output.pieces output.status output.report)
      (λ e s fits comes. transcribed_as _ e s fits run.keys run.limit few run.show output comes)
      run.start (show_files run.show ++ script_files run.keys) given comes)
  transcribes _ output given few comes = tt

  -- ---- a run without a point

  -- no point is the last one only where there is none
  none_last : (points : List Point) → last_point points ≡ None → points ≡ []
  none_last [] is = refl
  none_last (p ∷ ps) is = absurd (some_last p ps is)
    where
      some_last : (p : Point) (ps : List Point) → last_or (Some p) ps ≡ None → ⊥
      some_last p [] is = cc
      some_last p (q ∷ qs) is = some_last q qs is

  lacks :
      (e : Edition) (s : Start) → Fits e s → (script : List KeyEvent) (limit : ℕ) → saved_file e (events_in e s script limit) ≡ None
      → LacksPoint limit s
  lacks e s fits script limit is = by_start s fits none
    where
      last_none : (last : Option Machine) → option_map (file_of e) last ≡ None → option_map (point_of e) last ≡ None
      last_none None is = refl
      last_none (Some b) is = cc

      none : all_points e s (points_shown e s script limit) ≡ []
      none =
          none_last _
          (ap last_point (sym (all_are e s script limit)) ∙ last_is_last e (events_in e s script limit)
          ∙ last_none (last_dispatch (events_in e s script limit)) is)

      by_start : (s : Start) → Fits e s → all_points e s (points_shown e s script limit) ≡ [] → LacksPoint limit s
      by_start (Reset game) fits none =
          subst (Boots limit) none (boots e script limit game _ _ _ (timed e (Reset game) fits limit script))
      by_start (Saved f) fits none = cc

  -- ---- a call

  limited : (call : Call) (asked : Asked) (loaded : Loaded) → Asks call asked loaded → IsLimited (shape_of loaded)
  limited call asked loaded asks = subst IsLimited asks.shape (asked_limited call.words asked asks.words)

  went_out : (status : Status) (call : Call) → WritesExactly status call → Writes Transcribes status call
  went_out status call s =
      record {
        asked = s.asked;
        loaded = s.loaded;
        asks = s.asks;
        files = s.files;
        pieces = s.pieces;
        report = s.report;
        comes =
            transcribes s.loaded (record { pieces = s.pieces; status = status; report = s.report })
            (are_given call.files s.asked s.loaded s.asks.shape s.asks.read) (limited call s.asked s.loaded s.asks) s.comes;
        out = s.out;
        err = s.err;
      }

  pub tells_timed : RomsGiven → (status : Status) (call : Call) → Says status call → TellsTimed status call
  tells_timed roms Done call s = went_out Done call s
  tells_timed roms Stops call s = went_out Stops call s
  tells_timed roms NoDispatch call s =
      record {
        asked = s.asked;
        loaded = s.loaded;
        asks = s.asks;
        none = unsaved roms lacks s.loaded s.report (are_given call.files s.asked s.loaded s.asks.shape s.asks.read) s.comes;
      }
  tells_timed roms WriteFault call s =
      record {
        asked = s.asked;
        loaded = s.loaded;
        asks = s.asks;
        files = s.files;
        pieces = s.pieces;
        status = s.status;
        report = s.report;
        comes =
            transcribes s.loaded (record { pieces = s.pieces; status = s.status; report = s.report })
            (are_given call.files s.asked s.loaded s.asks.shape s.asks.read) (limited call s.asked s.loaded s.asks) s.comes;
        fault = s.fault;
      }
  tells_timed roms _ call s = tt
