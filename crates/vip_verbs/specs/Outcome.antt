-- What each command comes to, by the contents of its files.
use Rattle.std.specs.Prelude.{◌≡◌, ℕ, List, [], ◌∷◌, ◌++◌, drop, if◌then◌else◌, Option, Some, None, option_map, unwrap_or, Result, Ok, Err, length, max, codes, decimal}
use Rattle.std.specs.List.{flat_map}
use Rattle.hex.specs.Hex.{encode_lower}
use Rattle.sha2.specs.Sha256.{sha256}
use Rattle.machine.specs.Keys.{Event as KeyEvent}
use Rattle.chip8_lang.specs.declared.view.Edition.{Edition}
use Rattle.chip8_lang.specs.declared.view.Edition.TheVariants.{Usual}
use Rattle.chip8_lang.specs.declared.view.StopRecord.{StopRecord}
use Rattle.chip8_lang.specs.Events.{Event, is_stop}
use Rattle.asm_core.specs.Sources.{source_lines}
use Rattle.chip8_source.specs.Compared.{Compares}
use Rattle.chip8_source.specs.declared.fault.ImageFault.{ImageFault}
use Rattle.vip_link.specs.Checked.{ComparesLink}
use Rattle.vip_link.specs.Laws.{after}
use Rattle.vip_link.specs.Pair.{Pair}
use Rattle.vip_link.specs.Schedules.{schedule_by}
use Rattle.vip_words.specs.Spoken.{Spoken}
use Rattle.vip_words.specs.declared.debug_commands.Speaks.TheVariants.{Chip8}
use Rattle.vip_words.specs.Why.{why_line}
use Rattle.vip_words.specs.declared.request.OwnText.{OwnText}
use Rattle.vip_words.specs.declared.request.OwnText.TheVariants as own
use Rattle.vip_words.specs.declared.request.PlainShow.{PlainShow}
use Rattle.vip_words.specs.declared.request.PlainShow.TheVariants as plain
use Rattle.vip_words.specs.declared.request.RunRequest.{RunRequest}
use Rattle.vip_words.specs.declared.request.Request.TheVariants as request
use Rattle.vip_words.specs.declared.request.Show.{Show}
use Rattle.vip_words.specs.declared.request.Show.TheVariants as show
use Rattle.vip_words.specs.declared.request.TextVerb.{TextVerb}
use Rattle.vip_words.specs.declared.request.TextVerb.TheVariants as text
use Rattle.vip_words.specs.declared.request.Start as asked
use Rattle.vip_words.specs.declared.request.Start.TheVariants as beginning
use Rattle.vip_debug.specs.Answers.{at_start, place_after, stop_by, written}
use Rattle.chip8_image.specs.Interpreters.{interpreter_of}
use Rattle.vip_relation.specs.Follows.{last_dispatch}
use Rattle.vip_relation.specs.State.{Start, VipState, begun, first_events, interpreter, state_after}
use Rattle.vip_relation.specs.State.Start.{Reset, Saved}
use Rattle.vip_outside.specs.Pieces.{joined}
use Rattle.vip_show.specs.Digests.{digested_columns}
use Rattle.vip_show.specs.Endings.{ending_of}
use Rattle.asm_core.specs.Origins.{Origins, no_origins}
use Rattle.vip_show.specs.Output.{count_of, is_dispatch_event, is_picture_event, lit_at, picture_pieces, screen_piece, trace_lines}
use Rattle.vip_show.specs.Profile.{profile_pieces}
use Rattle.vip_show.specs.Runs.{events_in, run_of}
use Rattle.vip_show.specs.StateOutput.{saved_file}
use Rattle.vip_debug.specs.declared.looks.Looks.{Looks}
use Rattle.vip_text.specs.declared.trace.TraceColumns.{TraceColumns}
use Rattle.vip_text.specs.StateFile.{shown as saved_machine, IsAccepted}
use Rattle.vip_text.specs.Bounds.{bounds_table}
use Rattle.vip_text.specs.Summaries.{summary_line}
use Rattle.vip_text.specs.Endings.{Ending}
use Rattle.vip_text.specs.Endings.Ending.{AtLimit, AtStop}
use Rattle.vip_link.specs.Roms.{receiver_text, sender_text}
use Rattle.vip_words.specs.declared.request.BuiltIn.{BuiltIn}
use Rattle.vip_words.specs.declared.request.BuiltIn.TheVariants.{Interpreter, Receiver, Sender}
use Rattle.vip_tools.specs.Files.{Loaded}
use Rattle.vip_tools.specs.Status.{end_status}
use Rattle.vip_tools.specs.Report.{end_report, no_dispatch, linked_report}
use Rattle.vip_tools.specs.declared.status.Status.TheVariants.{NoDispatch, Done}
use Rattle.vip_tools.specs.Certificates.{CertifyComes, CyclesComes, SafeComes, TimingComes}
use Rattle.asm_lex.specs.declared.shape.Isa.TheVariants.{Chip8 as Chip8Words}
use Rattle.vip_tools.specs.Code.{GameComes, Known, known_of, nothing_known}
use Rattle.vip_tools.specs.Demo.{made_game}
use Rattle.vip_tools.specs.Games.{Game}
use Rattle.vip_tools.specs.Help.{help_text, version_text}
use Rattle.vip_tools.specs.Judged.{Judged, Of, bind, each, judged, only}
use Rattle.vip_tools.specs.Judged.Verdict.{Refused}
use Rattle.vip_tools.specs.Opening.{CommandsCome, GamesCome, ScriptComes, rom_refusal}
use Rattle.vip_tools.specs.Outcome.{Ends, Outcome, Output, Shown, Writes, rom_text}
use Rattle.vip_tools.specs.Sources.{AsmComes, CheckComes, DisComes, ListComes}
use Rattle.vip_verbs.specs.Programs.{ProgramRunComes, ResumedRunComes}

-- ---- a run

-- the events of a run that are shown, without the dispatch point of a saved state, which counts as met
abbrev pub events_shown : Edition → Start → List KeyEvent → ℕ → List Event
events_shown e s script limit = drop (length (first_events s)) (events_in e s script limit)

-- how it ends, by its events
abbrev pub run_ending : Edition → Start → List KeyEvent → ℕ → Ending
run_ending e s script limit = ending_of e (events_in e s script limit)

-- what an edition's built-in source gives, compared with its ROM
abbrev pub RomIs : Edition → Result (Unit {0}) ImageFault → Type 0
RomIs e answer = Compares (source_lines (rom_text e)) (interpreter_of e).rom answer

abbrev pub RomComes : Edition → Judged (Unit {0})
RomComes e = judged (λ done. RomIs e (Ok done)) (λ fault. RomIs e (Err fault)) rom_refusal

-- where a run begins
pub record RunStart : Type 0 where
  pub edition : Edition
  pub start : Start

-- at an accepted file of a saved state, in its own edition
pub record IsSavedIn (file : List ℕ) (s : RunStart) : Type 0 where
  pub accepted : IsAccepted s.edition file
  pub saved : s.start ≡ Saved file

-- With a game, in the edition that is asked for, by what comes of its code; from an accepted file of a saved state; with a game that the program makes, in the
-- usual edition. A file with a fault was refused when it was read.
abbrev pub StartComes : asked.Start (List ℕ) → Judged RunStart
StartComes (beginning.Game code edition) = bind (GameComes edition code) (λ game. only (record { edition = edition; start = Reset game }))
StartComes (beginning.State file) = each (IsSavedIn file)
StartComes (beginning.Made made) = only (record { edition = Usual; start = Reset (made_game made) })

-- what is known of the code with which a run begins
abbrev pub known_in : asked.Start (List ℕ) → Known
known_in (beginning.Game code edition) = known_of Chip8Words code
known_in _ = nothing_known

-- of the edition and the start of a run this holds
abbrev pub OfRun : asked.Start (List ℕ) → (Edition → Start → Type 0) → Type 0
OfRun start Here = Of (StartComes start) (λ s. Here s.edition s.start)

-- A run comes to the first fault of its script, to a ROM that isn't what its source gives, or to what it makes of its script.
abbrev pub RunTo : Edition → Option (List ℕ) → (List KeyEvent → Outcome) → Judged Output
RunTo e keys outcome = bind (ScriptComes keys) (λ script. bind (RomComes e) (λ _. Ends (outcome script)))

-- ---- what is shown of a run

-- the file of a state, as what is written
abbrev pub saved_pieces : Option (List ℕ) → Option (List (List ℕ))
saved_pieces = option_map (λ file. file ∷ [])

-- its output up to a limit, and its ending
abbrev pub ran : ℕ → List (List ℕ) → Ending → Outcome
ran limit pieces ending = Shown pieces (end_status ending) (end_report limit ending)

-- What is written of it, by what a source gave: the lines behind its start, and the screen at the last dispatch point, which is the saved one where none came; the pictures; the file
-- of the last dispatch point, where there is one; where its time goes; one line that counts.
abbrev pub pieces_of : Origins → PlainShow → Edition → Start → List KeyEvent → ℕ → Option (List (List ℕ))
pieces_of origins (plain.Trace columns) e s script limit =
    Some (
    trace_lines origins e columns (events_shown e s script limit)
    ++ (if columns.screen then screen_piece e (last_dispatch (events_in e s script limit)) else [])
    )
pieces_of origins plain.Pictures e s script limit = Some (picture_pieces (interpreter_of e).rom (run_of e s script limit) (events_shown e s script limit))
pieces_of origins plain.State e s script limit = saved_pieces (saved_file e (events_in e s script limit))
pieces_of origins plain.Profile e s script limit = Some (profile_pieces origins e (events_in e s script limit))
pieces_of origins (plain.Summary number) e s script limit =
    let shown = events_shown e s script limit in
    Some (
    summary_line number (count_of is_dispatch_event shown) (count_of is_picture_event shown) (lit_at e (last_dispatch (events_in e s script limit)))
    ∷ []
    )

-- that, with its end; where there is no state to save it is refused
abbrev pub ran_with : ℕ → Ending → Option (List (List ℕ)) → Outcome
ran_with limit ending None = Refused NoDispatch no_dispatch
ran_with limit ending (Some pieces) = ran limit pieces ending

abbrev pub shown_by : Origins → PlainShow → Edition → Start → List KeyEvent → ℕ → Outcome
shown_by origins shown e s script limit = ran_with limit (run_ending e s script limit) (pieces_of origins shown e s script limit)

-- the answers of the debugger's commands. It ends where they leave the board: with the stop, where that is a stop point, and else as at the limit.
abbrev pub stopped_by : StopRecord → Ending
stopped_by stop = AtStop stop.stop stop.pc stop.opcode

abbrev pub ending_where : VipState → ℕ → Ending
ending_where v moves = if is_stop (interpreter v) (state_after v moves) then stopped_by (stop_by v moves) else AtLimit

-- a limit before the cycle of a saved state stands there: no move is made
abbrev pub limit_from : Start → ℕ → ℕ
limit_from (Reset game) limit = limit
limit_from (Saved file) limit = max limit (saved_machine file).cycle

abbrev pub debug_ending : VipState → ℕ → List Spoken → Ending
debug_ending v limit commands = ending_where v (place_after v limit commands (at_start v)).moves

-- how answers are shown, by what is known of the code
abbrev pub looks_of : Known → TraceColumns → Looks
looks_of known columns = record { columns = columns; origins = known.origins }

-- the answers begin before the first move
abbrev pub debugged_to : Looks → ℕ → ℕ → List Spoken → VipState → Outcome
debugged_to looks limit last commands v = ran limit (written looks v last commands (at_start v)) (debug_ending v last commands)

abbrev pub debugged : Looks → List Spoken → Edition → Start → List KeyEvent → ℕ → Outcome
debugged looks commands e s script limit = debugged_to looks limit (limit_from s limit) commands (begun e s script)

-- A run from a start, of whose code this is known, under a script file up to a limit that is shown so. Under the debugger it comes to the first fault of its
-- commands, or else, as other runs do, to what their answers come to.
abbrev pub ShowComes : Known → Edition → Start → Option (List ℕ) → ℕ → Show (List ℕ) → Judged Output
ShowComes known e s keys limit (show.Plain shown) = RunTo e keys (λ script. shown_by known.origins shown e s script limit)
ShowComes known e s keys limit (show.Commands text echo columns) =
    bind (CommandsCome Chip8 known.names echo limit text) (λ commands. RunTo e keys (λ script. debugged (looks_of known columns) commands e s script limit))

abbrev pub RunComes : RunRequest (List ℕ) → Judged Output
RunComes run = bind (StartComes run.start) (λ s. ShowComes (known_in run.start) s.edition s.start run.keys run.limit run.show)

-- ---- the games of a list

-- SHA-256 of what is written, as one text, in hexadecimal digits
abbrev pub text_digest : Option (List (List ℕ)) → List ℕ
text_digest pieces = encode_lower (sha256 (joined (unwrap_or pieces [])))

-- The line of a game, which is run from reset up to a limit: the digests of what `trace`, with `--at` and `--screen`, and `play` write of its run, how many
-- dispatch points it has, and the report of its end.
abbrev pub digest_line : ℕ → Game → List ℕ
digest_line limit game =
    let e = game.edition in
    let s = Reset game.bytes in
    text_digest (pieces_of no_origins (plain.Trace digested_columns) e s game.keys limit)
    ++ (codes " "
    ++ (text_digest (pieces_of no_origins plain.Pictures e s game.keys limit)
    ++ (codes " "
    ++ (decimal (count_of is_dispatch_event (events_shown e s game.keys limit)) ++ (codes " " ++ end_report limit (run_ending e s game.keys limit))))))

-- a line each, in order
abbrev pub DigestComes : ℕ → List ℕ → Judged Output
DigestComes limit list = bind (GamesCome list) (λ games. Writes (flat_map (digest_line limit) games))

-- ---- two boards that are joined

-- both boards after so many moves by the schedule of a number, where A sends a message to B
abbrev pub linked_after : ℕ → ℕ → List ℕ → Pair
linked_after number moves message = after (schedule_by number moves) message

-- the bytes that B received, and the report says how many were sent and received
abbrev pub linked : Pair → Outcome
linked s = Shown (s.received ∷ []) Done (linked_report (length s.sent) (length s.received))

-- the first of both ROMs that isn't what its source gives
abbrev pub LinkRomsCome : Judged (Unit {0})
LinkRomsCome = judged (λ done. ComparesLink (Ok done)) (λ fault. ComparesLink (Err fault)) rom_refusal

abbrev pub LinkComes : List ℕ → ℕ → ℕ → Judged Output
LinkComes message moves number = bind LinkRomsCome (λ _. Ends (linked (linked_after number moves message)))

-- ---- a text of the program's own

abbrev pub built_in_text : BuiltIn → List ℕ
built_in_text (Interpreter e) = rom_text e
built_in_text Sender = sender_text
built_in_text Receiver = receiver_text

abbrev pub own_text : OwnText → List ℕ
own_text (own.Source text) = built_in_text text
own_text own.Bounds = bounds_table
own_text (own.Help verb) = help_text verb
own_text own.Version = version_text
own_text (own.Why words) = why_line words

-- ---- a text that is made of a file

abbrev pub TextVerbComes : TextVerb → List ℕ → Judged Output
TextVerbComes (text.Asm isa raw) source = AsmComes isa raw source
TextVerbComes (text.Check name isa) source = CheckComes isa name source
TextVerbComes (text.List isa) source = ListComes isa source
TextVerbComes (text.Dis place) bytes = DisComes place.isa place.address bytes
TextVerbComes (text.Timing entry p k) source = TimingComes source entry p k
TextVerbComes (text.Digest limit) list = DigestComes limit list

-- ---- a request

-- what a request comes to whose files were read
abbrev pub HasOutcome : Loaded → Judged Output
HasOutcome (request.Run run) = RunComes run
HasOutcome (request.Program run) = ProgramRunComes run
HasOutcome (request.Resumed run) = ResumedRunComes run
HasOutcome (request.Link message moves number) = LinkComes message moves number
HasOutcome (request.Text verb file) = TextVerbComes verb file
HasOutcome (request.Cycles source certificate exits) = CyclesComes source certificate exits
HasOutcome (request.Safe code certificate edition) = bind (GameComes edition code) (λ game. SafeComes edition game certificate)
HasOutcome (request.Certify code edition) = bind (GameComes edition code) (CertifyComes edition code)
HasOutcome (request.Own text) = Writes (own_text text)
