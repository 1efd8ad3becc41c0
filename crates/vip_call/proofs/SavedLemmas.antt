-- What was saved of a run goes on as that run, by the law of runs that are joined and by that of the debugger's commands behind a dispatch point.
use Rattle.std.proofs.Common.{◌≡◌, ℕ, ◌≤◌, Bool, true, List, [], ◌∷◌, ◌++◌, Ok, Option, Some, None, false, append_assoc, append-nil, refl, sym, ap, ap₂, subst, subst₂, ◌∙◌, arith}
use Rattle.std.specs.List.{flat_map}
use Rattle.std.specs.Prelude.{if◌then◌else◌, option_and_then}
use Rattle.std.specs.Option.{option_map}
use Rattle.std.proofs.lemmas.Grind.{flat_map-append}
use Rattle.machine.specs.Board.{Machine}
use Rattle.machine.specs.Memory.{mapped_address}
use Rattle.machine.specs.Keys.{Event as KeyEvent}
use Rattle.chip8_lang.specs.declared.view.Edition.{Edition}
use Rattle.chip8_lang.specs.Events.{Event, events_behind, is_dispatch, is_stop}
use Rattle.chip8_lang.specs.Events.Event.{Picture, Dispatch, Stopped}
use Rattle.chip8_lang.specs.View.{view_at}
use Rattle.chip8_image.specs.Interpreters.{interpreter_of}
use Rattle.rom_board.specs.Saved.{AgreeBefore, Joins, IsGoneOnWith, SavedJoins}
use Rattle.rom_board.proofs.Joined.{file_dispatches}
use Rattle.rom_board.proofs.Passed.{last_after, last_of_events}
use Rattle.vip_byte.specs.Number.{most_cycles}
use Rattle.vip_byte.specs.Text.{newline}
use Rattle.vip_relation.specs.Follows.{Fits, last_dispatch}
use Rattle.vip_relation.specs.State.{Start, VipState, begun, machine_of, state_after}
use Rattle.vip_relation.specs.State.Start.{Reset, Saved}
use Rattle.vip_show.specs.Output.{picture_pieces, screen_piece, trace_lines, trace_piece}
use Rattle.vip_show.specs.StateOutput.{saved_file}
use Rattle.vip_show.specs.Written.{file_of}
use Rattle.vip_show.proofs.OneAnswer.{one_edition}
use Rattle.vip_text.specs.Endings.Ending.{AtLimit}
use Rattle.vip_text.specs.StateFile.{shown, IsAccepted}
use Rattle.asm_core.specs.Origins.{Origins, gave, line_told, line_with, no_origins, origin_at, source_end}
use Rattle.asm_core.specs.declared.table.Cell.{Cell}
use Rattle.vip_text.specs.Traces.{opcode_bytes, record_text}
use Rattle.vip_text.specs.declared.trace.TraceColumns.{TraceColumns}
use Rattle.vip_program.specs.Program.{resumed, started}
use Rattle.vip_debug.specs.Answers.{moves_until, pieces, place_after, at_start, written}
use Rattle.vip_debug.specs.declared.looks.Looks.{Looks}
use Rattle.vip_debug.specs.Fold.{echoed}
use Rattle.vip_debug.specs.Behind.{AnswersAs, GoesOnBehind}
use Rattle.vip_words.specs.Spoken.{Spoken}
use Rattle.vip_words.specs.declared.debug_commands.Command.TheVariants.{Runs}
use Rattle.vip_words.specs.declared.debug_commands.Running.TheVariants.{To}
use Rattle.vip_words.specs.declared.request.Memory.{Memory}
use Rattle.vip_words.specs.declared.request.ProgramShow.{ProgramShow}
use Rattle.vip_words.specs.declared.request.ProgramShow.TheVariants.{Board}
use Rattle.vip_words.specs.declared.request.Request.TheVariants as request
use Rattle.vip_words.specs.declared.request.Show.{Show}
use Rattle.vip_words.specs.declared.request.PlainShow.TheVariants.{State}
use Rattle.vip_words.specs.declared.request.Show.TheVariants as show
use Rattle.vip_tools.specs.Files.{Loaded, needed, script_files, shape_of, show_files}
use Rattle.vip_tools.specs.Judged.Verdict.{Given}
use Rattle.vip_tools.specs.Outcome.{Outcome, Output, script_in}
use Rattle.vip_tools.specs.Report.{end_report}
use Rattle.vip_tools.specs.Status.{end_status}
use Rattle.vip_tools.proofs.JudgedLemmas.{behind-each, same_value}
use Rattle.vip_tools.specs.Code.{Known, nothing_known}
use Rattle.vip_verbs.specs.Outcome.{known_in, HasOutcome, IsSavedIn, ShowComes, ending_where, events_shown, limit_from, ran, ran_with, run_ending, saved_pieces, stopped_by}
use Rattle.vip_verbs.specs.Programs.{ProgramShowComes, memory_in}
use Rattle.vip_show.specs.Runs.{events_in, run_of}
use Rattle.vip_call.specs.Saved.{Continues, GoesOn, GoesOnAsRun, IsProgramSaved, IsSaved, SavesOne}
use Rattle.vip_call.proofs.BoardLemmas.{board_saved}
use Rattle.vip_call.proofs.BoardStarts.{FitsImage, image_fits, resumed_fits, started_fits}
use Rattle.vip_call.specs.Top.{Call, ContinuesSaved}
use Rattle.vip_relation.proofs.Beginning.{begins-running}
use Rattle.vip_words.specs.declared.request.Start.TheVariants as beginning
use Rattle.vip_call.proofs.AskedLemmas.{IsLimited, asked_limited}
use Rattle.vip_call.proofs.DebuggedLemmas.{found_point}
use Rattle.vip_call.proofs.FilledLemmas.{AreGiven, are_given}
use Rattle.vip_call.proofs.GivenStarts.{begun_so}
use Rattle.vip_call.proofs.LimitLemmas.{nothing_by, starts_early}

-- what is saved of a run is an accepted file, which shows the machine state at its last dispatch point
abbrev pub SavesShown : Type 0
SavesShown =
    (e : Edition) (s : Start) → Fits e s → (script : List KeyEvent) (limit : ℕ) → limit ≤ most_cycles → (file : List ℕ)
    → saved_file e (events_in e s script limit) ≡ Some file
    → IsAccepted e file × (last_dispatch (events_in e s script limit) ≡ Some (shown file))

pub saves_shown : SavedJoins → SavesShown
saves_shown law e s fits script limit few file saved = let x = law e s fits script limit few file saved in (x.accepted, x.shows)

-- ---- lists

lines_joined : (origins : Origins) (e : Edition) (columns : TraceColumns) (xs ys : List Event)
    → trace_lines origins e columns (xs ++ ys) ≡ trace_lines origins e columns xs ++ trace_lines origins e columns ys
unfolding trace_lines
lines_joined origins e columns xs ys = flat_map-append (trace_piece origins e columns) xs ys

-- the lines are the same without the screen behind them
lines_alike : (origins : Origins) (e : Edition) (columns : TraceColumns) (es : List Event)
    → trace_lines origins e (record columns { screen = false }) es ≡ trace_lines origins e columns es
unfolding trace_lines record_text
lines_alike origins e columns es = refl

-- no line ends in one of a source where no texts are told
no_line : (texts : List (List ℕ)) (cell : Option Cell) → texts ≡ [] → option_and_then (line_with texts) cell ≡ None
no_line texts None untold = refl
no_line texts (Some cell) untold = rw untold refl

no_end : (origins : Origins) → origins.texts ≡ [] → (latch : Bool) (address : ℕ) (bytes : List ℕ) → source_end origins latch address bytes ≡ []
no_end origins untold latch address [] = refl
no_end origins untold latch address (byte ∷ bytes) = by_test (gave origins latch address (byte ∷ bytes))
  where
    by_test : (is : Bool)
        → line_told (if is then option_and_then (line_with origins.texts) (origin_at origins (mapped_address latch address)) else None) ≡ []
    by_test true = ap line_told (no_line origins.texts (origin_at origins (mapped_address latch address)) untold)
    by_test false = refl

-- so the lines are those of no source
lines_untold : (origins : Origins) → origins.texts ≡ [] → (e : Edition) (columns : TraceColumns) (es : List Event)
    → trace_lines origins e columns es ≡ trace_lines no_origins e columns es
unfolding trace_lines
lines_untold origins untold e columns es = ap (λ piece. flat_map piece es) (λ i event. pieces event i)
  where
    pieces : (event : Event) → trace_piece origins e columns event ≡ trace_piece no_origins e columns event
    pieces (Dispatch b) =
        let view = view_at e b in
        ap (λ end. (record_text columns view ++ end ++ newline) ∷ [])
        (no_end origins untold false view.pc (opcode_bytes view.opcode) ∙ sym (no_end no_origins refl false view.pc (opcode_bytes view.opcode)))
    pieces (Picture m) = refl
    pieces (Stopped b) = refl

last_after_both : (last : Option Machine) (xs ys : List Event) → last_after last (xs ++ ys) ≡ last_after (last_after last xs) ys
unfolding last_after
last_after_both last [] ys = refl
last_after_both last (Picture m ∷ xs) ys = last_after_both last xs ys
last_after_both last (Dispatch b ∷ xs) ys = last_after_both (Some b) xs ys
last_after_both last (Stopped b ∷ xs) ys = last_after_both last xs ys

-- behind events whose last dispatch point is this one
last_behind : (xs ys : List Event) (b : Machine) → last_dispatch xs ≡ Some b → last_dispatch (xs ++ ys) ≡ last_dispatch (Dispatch b ∷ ys)
unfolding last_after
last_behind xs ys b is =
    sym (last_of_events (xs ++ ys)) ∙ last_after_both None xs ys ∙ ap (λ last. last_after last ys) (last_of_events xs ∙ is) ∙ last_of_events (Dispatch b ∷ ys)

-- the events that are shown, by all of them
shown_joined : (e : Edition) (s : Start) (script : List KeyEvent) (t limit : ℕ) (behind : List Event)
    → events_in e s script limit ≡ events_in e s script t ++ behind → events_shown e s script limit ≡ events_shown e s script t ++ behind
shown_joined e (Reset game) script t limit behind is = is
shown_joined e (Saved f) script t limit behind is = cc

-- no picture is lost with the first dispatch point
same_pictures : (e : Edition) (s : Start) (script : List KeyEvent) (limit : ℕ)
    → picture_pieces (interpreter_of e).rom (run_of e s script limit) (events_shown e s script limit)
    ≡ picture_pieces (interpreter_of e).rom (run_of e s script limit) (events_in e s script limit)
unfolding picture_pieces
same_pictures e (Reset game) script limit = refl
same_pictures e (Saved f) script limit = refl

limit_late : (s : Start) (limit : ℕ) → (machine_of s).cycle ≤ limit → limit_from s limit ≡ limit
limit_late (Reset game) limit late = refl
limit_late (Saved f) limit late = omega (arith, late)

-- ---- a run that goes on

module _ (joins : SavedJoins) (commands_behind : GoesOnBehind) where
  module _
      (e : Edition) (s : Start) (fits : Fits e s) (script : List KeyEvent) (limit : ℕ) (few : limit ≤ most_cycles) (file : List ℕ)
      (saved_is : saved_file e (events_in e s script limit) ≡ Some file) (other : List KeyEvent) (later : ℕ)
      (agree : AgreeBefore (shown file).cycle script other) (behind : (shown file).cycle ≤ later) where
    abbrev t : ℕ
    t = (shown file).cycle

    x : IsGoneOnWith e s script limit file
    x = joins e s fits script limit few file saved_is

    j : Joins e s file other later
    j = x.joins other agree later behind

    -- the file is that of its machine
    same_file : file_of e (shown file) ≡ file
    same_file =
        let both : Some (file_of e (shown file)) ≡ Some file = ap (option_map (file_of e)) (sym x.shows) ∙ saved_is in cc

    -- up to the file's cycle the last dispatch point is the file's
    first_saved : saved_file e (events_in e s other t) ≡ Some file
    first_saved =
        (x.joins other agree t (omega arith)).file
        ∙ ap (λ es. saved_file e (Dispatch (shown file) ∷ es)) (nothing_by e other (shown file) t (omega arith))
        ∙ ap Some same_file

    first_last : last_dispatch (events_in e s other t) ≡ Some (shown file)
    first_last = (joins e s fits other t (omega (arith, x.accepted.cycle.most)) file first_saved).shows

    same_last : last_dispatch (events_in e s other later) ≡ last_dispatch (events_in e (Saved file) other later)
    same_last =
        ap last_dispatch j.events
        ∙ last_behind (events_in e s other t) (events_behind (interpreter_of e) other (shown file) later) (shown file) first_last

    goes_on : GoesOn e s file other later
    goes_on = record {
      lines = lines;
      pictures = λ origins.
          ap₂ (ran later)
          (same_pictures e s other later ∙ j.pictures
          ∙ ap₂ (λ a b. a ++ b) (sym (same_pictures e s other t)) (sym (same_pictures e (Saved file) other later)))
          j.ending;
      state = λ origins. ap₂ (λ ending file. ran_with later ending (saved_pieces file)) j.ending j.file;
      answers = answers;
    }
      where
        lines :
            (origins : Origins) (columns : TraceColumns)
            → origins.texts ≡ []
            → ran later
            (trace_lines origins e columns (events_shown e s other later)
            ++ (if columns.screen then screen_piece e (last_dispatch (events_in e s other later)) else []))
            (run_ending e s other later)
            ≡ ran later
            ((trace_lines origins e (record columns { screen = false }) (events_shown e s other t) ++ [])
            ++ (trace_lines no_origins e columns (events_shown e (Saved file) other later)
            ++ (if columns.screen then screen_piece e (last_dispatch (events_in e (Saved file) other later)) else [])))
            (run_ending e (Saved file) other later)
        lines origins columns untold =
            let own : List Event = events_behind (interpreter_of e) other (shown file) later in
            ap₂ (ran later)
            (ap₂ (λ ls last. ls ++ (if columns.screen then screen_piece e last else []))
            (ap (trace_lines origins e columns) (shown_joined e s other t later own j.events)
            ∙ lines_joined origins e columns (events_shown e s other t) own
            ∙ ap₂ (λ ls rest. ls ++ rest)
            (sym (append-nil (trace_lines origins e (record columns { screen = false }) (events_shown e s other t)) ∙ lines_alike origins e columns (events_shown e s other t)))
            (lines_untold origins untold e columns own))
            same_last
            ∙ append_assoc (trace_lines origins e (record columns { screen = false }) (events_shown e s other t) ++ []) (trace_lines no_origins e columns own)
            (if columns.screen then screen_piece e (last_dispatch (events_in e (Saved file) other later)) else []))
            j.ending

        answers :
            (looks : Looks) (echo : Option (List ℕ)) (commands : List Spoken)
            → let to : Spoken = record { command = Runs (To t); echo = echo } in
            ran later
            (written looks (begun e s other) (limit_from s later) (to ∷ commands) (at_start (begun e s other)))
            (ending_where (begun e s other) (place_after (begun e s other) (limit_from s later) (to ∷ commands) (at_start (begun e s other))).moves)
            ≡ ran later
            (written looks (begun e s other) (limit_from s later) (to ∷ []) (at_start (begun e s other))
            ++ written looks (begun e (Saved file) other) (limit_from (Saved file) later) commands (at_start (begun e (Saved file) other)))
            (ending_where (begun e (Saved file) other)
            (place_after (begun e (Saved file) other) (limit_from (Saved file) later) commands (at_start (begun e (Saved file) other))).moves)
        answers looks echo commands =
            subst₂
            (λ last last'. ran later (written looks v last (to ∷ commands) (at_start v)) (ending_where v (place_after v last (to ∷ commands) (at_start v)).moves)
            ≡ ran later (written looks v last (to ∷ []) (at_start v) ++ written looks u last' commands (at_start u))
            (ending_where u (place_after u last' commands (at_start u)).moves))
            (sym limit_is) (sym limit_there)
            (ap₂ (ran later)
            (ap (λ ps. first ++ ps) a.pieces ∙ ap (λ ps. ps ++ written looks u later commands (at_start u)) (sym (append-nil first)))
            (ap₂ (λ (b : Machine) stop. if is_stop (interpreter_of e) b then stopped_by stop else AtLimit) a.machine a.stop))
          where
            to : Spoken
            to = record { command = Runs (To t); echo = echo }

            v : VipState
            v = begun e s other

            u : VipState
            u = begun e (Saved file) other

            first : List (List ℕ)
            first = echoed to (pieces looks v later to.command (at_start v))

            early : (machine_of s).cycle ≤ t
            early = starts_early e s other t (shown file) first_last refl

            limit_there : limit_from (Saved file) later ≡ later
            limit_there = limit_late (Saved file) later behind

            limit_is : limit_from s later ≡ later
            limit_is = limit_late s later (omega (arith, early, behind))

            found : state_after v (moves_until v t) ≡ shown file
            found = found_point e s other (begins-running e s fits) t (shown file) early first_last refl

            a : AnswersAs looks v u later t commands
            a =
                commands_behind e s fits other other t later early behind
                (ap (is_dispatch (interpreter_of e)) found ∙ file_dispatches e file x.accepted) file (sym found) (λ c l k. refl) looks commands

  comes_so :
      (e : Edition) (file : List ℕ) → IsAccepted e file → (other : Option (List ℕ)) (later : ℕ) (shown_as : Show (List ℕ)) (o : Outcome)
      → HasOutcome (request.Run (record { start = beginning.State file; keys = other; limit = later; show = shown_as })) o
      → ShowComes nothing_known e (Saved file) other later shown_as o
  comes_so e file accepted other later shown_as o x =
      let at = behind-each (IsSavedIn file) (λ s. ShowComes nothing_known s.edition s.start other later shown_as) o x in
      subst (λ d. ShowComes nothing_known d (Saved file) other later shown_as o) (one_edition at.value.edition e file at.gives.accepted accepted)
      (subst (λ s. ShowComes nothing_known at.value.edition s other later shown_as o) at.gives.saved at.here)

  -- ---- a command

  module _ (e : Edition) (s : Start) (fits : Fits e s) (keys : Option (List ℕ)) (limit : ℕ) (few : limit ≤ most_cycles) (output : Output) where
    saves_one :
        (script : List KeyEvent) → script_in keys ≡ Ok script → (f : Option (List ℕ)) → saved_file e (events_in e s script limit) ≡ f
        → Given output ≡ ran_with limit (run_ending e s script limit) (saved_pieces f) → SavesOne e s keys limit output.pieces
    saves_one script reads None is h = absurd (cc)
    saves_one script reads (Some file) is h =
        let ending = run_ending e s script limit in
        record {
          file = file;
          written = ap (λ o. o.pieces) (same_value output (record { pieces = file ∷ []; status = end_status ending; report = end_report limit ending }) h);
          goes_on = goes_on_as;
        }
      where
        goes_on_as : GoesOnAsRun e s keys limit file
        goes_on_as =
            let x = joins e s fits script limit few file is in
            record {
              accepted = x.accepted;
              script = script;
              reads = reads;
              shows = x.shows;
              rest = λ other later agree behind. goes_on e s fits script limit few file is other later agree behind;
              comes = comes_so e file x.accepted;
            }

  is_saved :
      (known : Known) (e : Edition) (s : Start) → Fits e s → (keys : Option (List ℕ)) (limit : ℕ) → limit ≤ most_cycles → (shown_as : Show (List ℕ)) (output : Output)
      → ShowComes known e s keys limit shown_as (Given output) → IsSaved e s keys limit shown_as output.pieces
  is_saved known e s fits keys limit few (show.Plain State) output x =
      saves_one e s fits keys limit few output x.value x.gives (saved_file e (events_in e s x.value limit)) refl x.here.here
  is_saved known e s fits keys limit few _ output x = tt

  is_program_saved :
      (known : Known) (memory : Memory) (image : List ℕ × List ℕ) → FitsImage image → (keys : Option (List ℕ)) (limit : ℕ) → limit ≤ most_cycles
      → (output : Output) (shown : ProgramShow (List ℕ)) → ProgramShowComes known memory image.0 image.1 keys limit shown (Given output)
      → IsProgramSaved (started (memory_in memory) image.0 image.1) keys limit shown output.pieces
  is_program_saved known memory image fits keys limit few output (Board shown) comes =
      board_saved (started (memory_in memory) image.0 image.1 []) (started_fits memory image.0 image.1 fits.rom fits.ram) keys limit few output known shown comes
  is_program_saved known memory image fits keys limit few output _ comes = tt

  shows : (loaded : Loaded) (output : Output) → AreGiven (needed loaded) → IsLimited (shape_of loaded) → HasOutcome loaded (Given output) → Continues loaded output.pieces
  shows (request.Run run) output given few comes =
      begun_so output (λ e s. ShowComes (known_in run.start) e s run.keys run.limit run.show) (λ e s. IsSaved e s run.keys run.limit run.show output.pieces)
      (λ e s fits comes. is_saved _ e s fits run.keys run.limit few run.show output comes)
      run.start (show_files run.show ++ script_files run.keys) given comes
  shows (request.Program run) output given few comes =
      let fits = image_fits run.memory run.code given.0 comes.value comes.gives in
      record {
        value = comes.value;
        gives = comes.gives;
        here = is_program_saved _ run.memory comes.value fits run.keys run.limit few output run.show comes.here;
      }
  shows (request.Resumed run) output given few comes =
      board_saved (resumed run.state []) (resumed_fits run.state given.0.bytes given.0.right) run.keys run.limit few output nothing_known run.show comes
  shows _ output given few comes = tt

  pub continues_saved : (call : Call) → ContinuesSaved call
  continues_saved call asked loaded pieces status report asks comes =
      shows loaded (record { pieces = pieces; status = status; report = report }) (are_given call.files asked loaded asks.shape asks.read)
      (subst IsLimited asks.shape (asked_limited call.words asked asks.words)) comes
