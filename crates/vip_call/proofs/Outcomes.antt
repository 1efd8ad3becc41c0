-- What a request comes to is one outcome; which statuses come, and who may give up. Each source gives its ROM, so no ROM is refused.
use Rattle.std.proofs.Common.{◌≡◌, ◌≤◌, ℕ, Bool, List, [], ◌∷◌, ◌++◌, length, inl, inr, refl, sym, subst, ◌∙◌, arith, Option, Some, None, Ok, Err}
use Rattle.std.specs.List.{flat_map}
use Rattle.machine.specs.Keys.{Event as KeyEvent}
use Rattle.chip8_lang.specs.State.{memory_size}
use Rattle.chip8_lang.specs.declared.view.Edition.{Edition}
use Rattle.chip8_lang.specs.declared.view.Edition.TheVariants.{Usual, Tall}
use Rattle.asm_lex.specs.declared.shape.Isa.{Isa}
use Rattle.asm_lex.specs.declared.shape.Isa.TheVariants.{Cdp1802, Chip8 as Chip8Words}
use Rattle.asm_core.specs.Made.{Made, IsAssembly, IsFirstOf}
use Rattle.asm_core.specs.Sources.{NoFault, IsFirstFault, source_lines}
use Rattle.asm_core.specs.declared.fault.AsmCause.{AsmCause}
use Rattle.asm_core.specs.declared.fault.AsmFault.{AsmFault}
use Rattle.asm_core.specs.declared.fault.AsmFault.TheVariants as asm
use Rattle.chip8_source.specs.Compared.{Compares, SourceGivesRom}
use Rattle.chip8_source.proofs.OneAnswer.{answers_agree}
use Rattle.chip8_source.specs.declared.fault.ImageFault.{ImageFault}
use Rattle.chip8_source.specs.declared.fault.ImageFault.TheVariants as image
use Rattle.chip8_image.specs.Interpreters.{interpreter_of}
use Rattle.cycle_check.specs.Closed.{checked}
use Rattle.cycle_check.specs.declared.fault.CertFault.{CertFault}
use Rattle.cycle_check.specs.declared.fault.CertFault.TheVariants as cert
use Rattle.cycle_check.specs.declared.fault.TimingFault.{TimingFault}
use Rattle.cycle_check.specs.declared.fault.TimingFault.TheVariants as timing
use Rattle.game_check.specs.Least.{HasNone, IsWhy}
use Rattle.game_check.specs.Proof.{proof_of}
use Rattle.game_check.specs.declared.fault.FindFault.{FindFault}
use Rattle.game_check.specs.declared.fault.FindFault.TheVariants as find
use Rattle.game_check.specs.declared.fault.Obstacle.TheVariants as obstacle
use Rattle.game_check.specs.declared.fault.ProofFault.{ProofFault}
use Rattle.game_check.specs.declared.fault.ProofFault.TheVariants as proof
use Rattle.vip_board.specs.Seen.{Seen}
use Rattle.vip_keypad.specs.declared.script.ScriptFault.{ScriptFault}
use Rattle.vip_keypad.specs.declared.script.ScriptFault.TheVariants as script
use Rattle.vip_link.specs.Checked.{ComparesLink}
use Rattle.vip_link.specs.Roms.{sender_rom, receiver_rom, sender_text, receiver_text}
use Rattle.vip_program.specs.Program.{resumed, started}
use Rattle.vip_relation.specs.State.{Start}
use Rattle.vip_relation.specs.State.Start.{Reset}
use Rattle.vip_relation.specs.Follows.{Fits}
use Rattle.vip_show.proofs.OneAnswer.{one_edition}
use Rattle.vip_show.specs.StateOutput.{saved_file}
use Rattle.vip_text.specs.Endings.{Ending}
use Rattle.vip_text.specs.Endings.Ending.{AtLimit, AtStop}
use Rattle.vip_words.specs.DebugGrammar.{commands_of}
use Rattle.vip_words.specs.declared.debug_commands.Speaks.TheVariants.{Chip8, Machine as Processor}
use Rattle.vip_words.specs.declared.debug_commands.CommandFault.{CommandFault}
use Rattle.vip_words.specs.declared.debug_commands.CommandFault.TheVariants as command
use Rattle.vip_words.specs.declared.request.Code.{Code}
use Rattle.vip_words.specs.declared.request.Code.TheVariants.{Bytes, Source}
use Rattle.vip_words.specs.declared.request.Entry.{Entry}
use Rattle.vip_words.specs.declared.request.Memory.{Memory}
use Rattle.vip_words.specs.declared.request.OwnText.TheVariants as own
use Rattle.vip_words.specs.declared.request.PlainShow.TheVariants as plain
use Rattle.vip_words.specs.declared.request.BoardShow.{BoardShow}
use Rattle.vip_words.specs.declared.request.BoardShow.TheVariants as board_show
use Rattle.vip_words.specs.declared.request.ProgramShow.{ProgramShow}
use Rattle.vip_words.specs.declared.request.ProgramShow.TheVariants as program_show
use Rattle.vip_words.specs.declared.request.Request.TheVariants as request
use Rattle.vip_words.specs.declared.request.Show.{Show}
use Rattle.vip_words.specs.declared.request.Show.TheVariants as show
use Rattle.vip_words.specs.declared.request.Start as asked
use Rattle.vip_words.specs.declared.request.Start.TheVariants as beginning
use Rattle.vip_words.specs.declared.request.TextVerb.{TextVerb}
use Rattle.vip_words.specs.declared.request.TextVerb.TheVariants as text
use Rattle.vip_tools.specs.Certificates.{EntryComes, ProofComes, ProofFound, RoutineComes, RoutineFound, SafeComes, CertifyComes, CyclesComes, SourceRom, TimingComes, cert_refusal, certify_shown, count_line, exits_asked, find_refusal, proof_refusal, rom_in, routine_text, timing_refusal, timing_shown}
use Rattle.asm_core.specs.Origins.{no_origins}
use Rattle.vip_tools.specs.Code.{FitComes, GameComes, ImageComes, IsFitGame, IsLarge, Known, LaidComes, known_of, nothing_known}
use Rattle.vip_tools.specs.Files.{Loaded, needed, script_files, show_files}
use Rattle.vip_tools.specs.Judged.{Judged, bind, cause_of, each, judged, only}
use Rattle.vip_tools.specs.Judged.Cause.{Fault}
use Rattle.vip_tools.specs.Judged.Verdict.{Given, Refused, GivenUp}
use Rattle.vip_tools.specs.Games.{games_of}
use Rattle.vip_tools.specs.Opening.{CommandsCome, GamesCome, ScriptComes, SourceComes, command_refusal, games_refusal, rom_refusal, script_refusal, source_refusal}
use Rattle.vip_tools.specs.Outcome.{Ends, Outcome, Output, Shown, Writes, rom_text, script_in}
use Rattle.vip_tools.specs.Sources.{IsBytes, TextOf}
use Rattle.asm_listing.specs.Listing.{IsListing}
use Rattle.vip_tools.specs.Status.{end_status}
use Rattle.vip_tools.specs.declared.refusal.Refusal.{Refusal}
use Rattle.vip_tools.specs.declared.status.Status.{Status}
use Rattle.vip_tools.specs.declared.status.Status.TheVariants.{BadSource, Done, NoCertificate, NoDispatch}
use Rattle.vip_tools.proofs.CodeLemmas.{one_game}
use Rattle.vip_tools.proofs.JudgedLemmas.{Agree, AgreeOn, AllSound, Any, IsFine, Sound, alone_agree, alone_sound, bind_agree, bind_sound, each_agree, each_sound, judged_agree, judged_sound, only_agree, result_agree, same_agree, search_agree}
use Rattle.vip_verbs.specs.Outcome.{HasOutcome, IsSavedIn, LinkRomsCome, RomComes, RomIs, RunStart, RunTo, ShowComes, StartComes, TextVerbComes, digest_line, known_in, linked, linked_after, pieces_of, ran_with, run_ending, saved_pieces, shown_by}
use Rattle.vip_show.specs.Runs.{events_in}
use Rattle.vip_verbs.proofs.WorkLemmas.{rom-given}
use Rattle.vip_verbs.specs.Programs.{BoardShowComes, ProgramComes, ProgramShowComes, RunsOn, memory_in, program_debugged, program_pictured, program_profiled, program_saved, program_traced}
use Rattle.vip_call.specs.Top.{Call, DecidesCertify, IsCheck, IsOfRom, IsSearch}
use Rattle.vip_call.specs.Transcribed.{LacksPoint, SavesNone}
use Rattle.vip_call.proofs.FilledLemmas.{AreGiven}
use Rattle.vip_call.proofs.GivenStarts.{from_start, start_fits}

pub record RomsGiven : Type 0 where
  pub games : (e : Edition) → RomIs e (Ok tt)
  pub links : ComparesLink (Ok tt)

pub roms_given : SourceGivesRom → ComparesLink (Ok tt) → RomsGiven
roms_given games links = record { games = rom-given games; links = links }

-- ---- faults

-- a source is assembled, or has a first fault
no_fault : (f : ℕ → Option AsmCause) (n i : ℕ) (c : AsmCause) → NoFault f n → IsFirstFault f n i c → ⊥
no_fault f n i c none first = let here = none i first.inside in let there = first.here in cc

assembles_or_not : (isa : Isa) (source : List (List ℕ)) (made : Made) → IsAssembly isa source made → (f : AsmFault) → IsFirstOf isa source f
    → (status : Status) (report : List ℕ) → cause_of (source_refusal f) ≡ Fault status report → ⊥
assembles_or_not isa source made fine (asm.Fault line cause) (i, at, inl first) status report tells = no_fault _ _ i cause fine.no_fault_1 first
assembles_or_not isa source made fine (asm.Fault line cause) (i, at, inr first) status report tells = no_fault _ _ i cause fine.no_fault_2 first.1
assembles_or_not isa source made fine asm.NoMemory first status report tells = cc

source_status : (f : AsmFault) (status : Status) (report : List ℕ) → cause_of (source_refusal f) ≡ Fault status report → status ≡ BadSource
source_status (asm.Fault line cause) status report tells = cc
source_status asm.NoMemory status report tells = cc

-- a ROM that its source gives is no fault
rom_or_not : (f : ImageFault) → f ≡ image.NoMemory → (status : Status) (report : List ℕ) → cause_of (rom_refusal f) ≡ Fault status report → ⊥
rom_or_not image.NoMemory is status report tells = cc
rom_or_not (image.BadRomSource line cause) is status report tells = cc
rom_or_not (image.RomDiffers address assembled here) is status report tells = cc

fine_or_not : (source : List (List ℕ)) (rom : List ℕ) (f : ImageFault) → Compares source rom (Ok tt) → Compares source rom (Err f)
    → (status : Status) (report : List ℕ) → cause_of (rom_refusal f) ≡ Fault status report → ⊥
fine_or_not source rom f fine bad status report tells =
    elim (answers_agree source rom (Ok tt) (Err f) fine bad) [
      | inl same ↦ cc
      | inr (inl none) ↦ cc
      | inr (inr none) ↦ rom_or_not f (cc) status report tells
    ]

-- no routine and no game without a certificate is a fault
timing_never : (f : TimingFault) (status : Status) (report : List ℕ) → cause_of (timing_refusal f) ≡ Fault status report → ⊥
timing_never (timing.NotFound obstacle) status report tells = cc
timing_never timing.NoMemory status report tells = cc

-- ---- one outcome

-- outcomes are compared by their status
abbrev pub SameEnd : Output → Output → Type 0
SameEnd o p = o.status ≡ p.status

abbrev pub OneEnd : Judged Output → Judged Output → Type 0
OneEnd = AgreeOn SameEnd

agree_self : (o : Outcome) → Agree SameEnd o o
agree_self (Given output) = refl
agree_self (Refused status report) = refl
agree_self (GivenUp report) = tt

ends_once : (o : Outcome) → OneEnd (Ends o) (Ends o)
ends_once o v w x y = alone_agree SameEnd o o v w (agree_self o) x y

writes_once : (a b : List ℕ) → OneEnd (Writes a) (Writes b)
writes_once a b v w x y = alone_agree SameEnd (Shown (a ∷ []) Done []) (Shown (b ∷ []) Done []) v w refl x y

-- behind a value that is one
once_behind : {A : Type 0} (J : Judged A) (K : A → Judged Output) → AgreeOn (λ a b. a ≡ b) J J → ((a : A) → OneEnd (K a) (K a)) → OneEnd (bind J K) (bind J K)
once_behind J K one rest = bind_agree (λ a b. a ≡ b) SameEnd J J K K one (λ a b x y same. same_agree SameEnd K rest a b same)

-- behind any value
any_behind : {A : Type 0} (J J' : Judged A) (K K' : A → Judged Output) → AgreeOn Any J J' → ((a b : A) → OneEnd (K a) (K' b)) → OneEnd (bind J K) (bind J' K')
any_behind J J' K K' one rest = bind_agree Any SameEnd J J' K K' one (λ a b x y same. rest a b)

source_once : (isa : Isa) (text : List ℕ) → AgreeOn Any (SourceComes isa text) (SourceComes isa text)
source_once isa text =
    judged_agree Any _ _ _ _ source_refusal (λ a b x y. tt) (λ made f s r is bad tells. assembles_or_not isa (source_lines text) made is f bad s r tells)
    (λ made f s r is bad tells. assembles_or_not isa (source_lines text) made is f bad s r tells)
    (λ f g s t r q x y z w. source_status f s r z ∙ sym (source_status g t q w))

text_once : (isa : Isa) (source : List ℕ) (IsText : Made → List ℕ → Type 0) → OneEnd (TextOf isa source IsText) (TextOf isa source IsText)
text_once isa source IsText =
    any_behind (SourceComes isa source) (SourceComes isa source) (λ made. bind (each (IsText made)) Writes) (λ made. bind (each (IsText made)) Writes) (source_once isa source)
    (λ made made'. any_behind (each (IsText made)) (each (IsText made')) Writes Writes
    (each_agree Any (IsText made) (IsText made') (λ a b x y. tt)) writes_once)

rom_once : (source : List ℕ) → AgreeOn Any (SourceRom source) (SourceRom source)
rom_once source =
    judged_agree Any _ _ _ _ source_refusal (λ a b x y. tt)
    (λ made f s r is bad tells. assembles_or_not Cdp1802 (source_lines source) made.made made.is f bad s r tells)
    (λ made f s r is bad tells. assembles_or_not Cdp1802 (source_lines source) made.made made.is f bad s r tells)
    (λ f g s t r q x y z w. source_status f s r z ∙ sym (source_status g t q w))

cycles_once : (source text : List ℕ) (exits : Bool) → OneEnd (CyclesComes source text exits) (CyclesComes source text exits)
cycles_once source text exits =
    any_behind (SourceRom source) (SourceRom source) (λ _. behind) (λ _. behind) (rom_once source)
    (λ _ _. once_behind (RoutineComes (rom_in source) text) (λ within. Writes (routine_text within (exits_asked exits (rom_in source) text)))
    (result_agree (checked (rom_in source) text) cert_refusal) (λ within. ends_once _))
  where
    behind : Judged Output
    behind = bind (RoutineComes (rom_in source) text) (λ within. Writes (routine_text within (exits_asked exits (rom_in source) text)))

timing_once : (source : List ℕ) (entry : Entry) (p k : ℕ) → OneEnd (TimingComes source entry p k) (TimingComes source entry p k)
timing_once source entry p k =
    any_behind (SourceRom source) (SourceRom source) _ _ (rom_once source)
    (λ made made'. any_behind (EntryComes made.made entry) (EntryComes made'.made entry) _ _
    (search_agree _ _ _ _ _ (λ name s r tells. cc))
    (λ a b. any_behind (RoutineFound (rom_in source) a p k) (RoutineFound (rom_in source) b p k) (λ text. Writes (timing_shown source text))
    (λ text. Writes (timing_shown source text)) (search_agree _ _ _ _ timing_refusal timing_never)
    (λ text text'. writes_once (timing_shown source text) (timing_shown source text'))))

text_verb_once : (verb : TextVerb) (file : List ℕ) → OneEnd (TextVerbComes verb file) (TextVerbComes verb file)
text_verb_once (text.Asm isa raw) source = text_once isa source (IsBytes isa raw)
text_verb_once (text.List isa) source = text_once isa source (λ made text. IsListing isa (source_lines source) text)
text_verb_once (text.Timing entry p k) source = timing_once source entry p k
text_verb_once (text.Digest limit) list =
    once_behind (GamesCome list) (λ games. Writes (flat_map (digest_line limit) games)) (result_agree (games_of list) games_refusal) (λ games. ends_once _)
text_verb_once _ file = ends_once _

safe_once : (e : Edition) (game text : List ℕ) → OneEnd (SafeComes e game text) (SafeComes e game text)
safe_once e game text = once_behind (ProofComes e game text) (λ count. Writes (count_line count)) (result_agree (proof_of e game text) proof_refusal) (λ count. ends_once _)

-- a certificate is found, or there is none
has_none : (e : Edition) (game : List ℕ) (f : FindFault) (status : Status) (report : List ℕ) → IsWhy e game f → cause_of (find_refusal f) ≡ Fault status report → HasNone e game
has_none e game (find.NotFound (obstacle.Open o)) status report why tells = why.1
has_none e game (find.NotFound obstacle.TooLong) status report why tells = why.1
has_none e game find.NoMemory status report why tells = cc

find_status : (f : FindFault) (status : Status) (report : List ℕ) → cause_of (find_refusal f) ≡ Fault status report → status ≡ NoCertificate
find_status (find.NotFound why) status report tells = cc
find_status find.NoMemory status report tells = cc

found_or_none : (e : Edition) (game : List ℕ) → AgreeOn Any (ProofFound e game) (ProofFound e game)
found_or_none e game =
    judged_agree Any _ _ _ _ find_refusal (λ a b x y. tt) (λ a f s r x bad tells. has_none e game f s r bad tells a x.fits x.accepted)
    (λ a f s r x bad tells. has_none e game f s r bad tells a x.fits x.accepted)
    (λ f g s t r q x y z w. find_status f s r z ∙ sym (find_status g t q w))

certify_once : (e : Edition) (code : Code (List ℕ)) (game : List ℕ) → OneEnd (CertifyComes e code game) (CertifyComes e code game)
certify_once e code game =
    any_behind (ProofFound e game) (ProofFound e game) (λ text. Writes (certify_shown e code game text)) (λ text. Writes (certify_shown e code game text))
    (found_or_none e game) (λ text text'. writes_once (certify_shown e code game text) (certify_shown e code game text'))

-- a source gives one game, or none
large_or_not : (e : Edition) (text : List ℕ) (made made' : Made) → IsAssembly Chip8Words (source_lines text) made → IsAssembly Chip8Words (source_lines text) made'
    → (a : List ℕ) (edition : Edition) → IsFitGame e made a → IsLarge e made' edition → ⊥
large_or_not e text made made' is is' a edition fits large =
    let same = one_game text made made' is is' a large.game fits.raw large.raw in
    let few : length large.game ≤ memory_size e = subst (λ g. length g ≤ memory_size e) same fits.fits in omega (arith, large.large, few)

game_once : (e : Edition) (code : Code (List ℕ)) → AgreeOn (λ a b. a ≡ b) (GameComes e code) (GameComes e code)
game_once e (Bytes game) = only_agree game
game_once e (Source text told) =
    bind_agree Any (λ a b. a ≡ b) (SourceComes Chip8Words text) (SourceComes Chip8Words text) (FitComes e) (FitComes e) (source_once Chip8Words text)
    (λ made made' is is' same. judged_agree (λ a b. a ≡ b) _ _ _ _ _
    (λ a b x y. one_game text made made' is is' a b x.raw y.raw)
    (λ a f s r x y z. large_or_not e text made made' is is' a f x y)
    (λ a f s r x y z. large_or_not e text made' made is' is a f x y)
    (λ f g s t r q x y z w. cc))

laid_once : (text : List ℕ) → AgreeOn (λ a b. a ≡ b) (LaidComes text) (LaidComes text)
laid_once text =
    judged_agree (λ a b. a ≡ b) _ _ _ _ _ (λ a b x y. x.1 ∙ sym y.1)
    (λ a f s r x y z. let none = x.0 f y.low in let some = y.is in cc)
    (λ a f s r x y z. let none = x.0 f y.low in let some = y.is in cc)
    (λ f g s t r q x y z w. cc)

image_once : (memory : Memory) (code : Code (List ℕ)) → AgreeOn (λ a b. a ≡ b) (ImageComes memory code) (ImageComes memory code)
image_once memory (Bytes bytes) = only_agree _
image_once memory (Source text told) =
    bind_agree Any (λ a b. a ≡ b) (SourceComes Cdp1802 text) (SourceComes Cdp1802 text) (λ made. LaidComes text) (λ made. LaidComes text) (source_once Cdp1802 text)
    (λ made made' is is' same. laid_once text)

-- a file has one edition
start_once : (start : asked.Start (List ℕ)) → AgreeOn (λ a b. a ≡ b) (StartComes start) (StartComes start)
start_once (beginning.Game code edition) =
    bind_agree (λ a b. a ≡ b) (λ a b. a ≡ b) (GameComes edition code) (GameComes edition code) at at (game_once edition code)
    (λ a b x y same. same_agree (λ s t. s ≡ t) at (λ game. only_agree _) a b same)
  where
    at : List ℕ → Judged RunStart
    at game = only (record { edition = edition; start = Reset game })
start_once (beginning.State file) =
    each_agree (λ s t. s ≡ t) (IsSavedIn file) (IsSavedIn file)
    (λ s t x y i. record { edition = one_edition s.edition t.edition file x.accepted y.accepted i; start = (x.saved ∙ sym y.saved) i })
start_once (beginning.Made made) = only_agree _

board_once : (board_by : List KeyEvent → Seen) (keys : Option (List ℕ)) (outcome : Seen → Outcome) → OneEnd (RunsOn board_by keys outcome) (RunsOn board_by keys outcome)
board_once board_by keys outcome =
    once_behind (ScriptComes keys) (λ script. Ends (outcome (board_by script))) (result_agree (script_in keys) script_refusal) (λ script. ends_once _)

board_show_once : (known : Known) (board_by : List KeyEvent → Seen) (keys : Option (List ℕ)) (limit : ℕ) (shown : BoardShow (List ℕ))
    → OneEnd (BoardShowComes known board_by keys limit shown) (BoardShowComes known board_by keys limit shown)
board_show_once known board_by keys limit (board_show.Commands text echo) =
    once_behind (CommandsCome Processor known.names echo limit text) (λ commands. RunsOn board_by keys (program_debugged known.origins commands limit))
    (result_agree (commands_of Processor known.names echo limit text) command_refusal)
    (λ commands. board_once board_by keys (program_debugged known.origins commands limit))
board_show_once known board_by keys limit board_show.State = board_once board_by keys (program_saved limit)

program_once : (memory : Memory) (rom ram : List ℕ) (keys : Option (List ℕ)) (outcome : Seen → Outcome)
    → OneEnd (ProgramComes memory rom ram keys outcome) (ProgramComes memory rom ram keys outcome)
program_once memory rom ram = board_once (started (memory_in memory) rom ram)

program_show_once : (known : Known) (memory : Memory) (rom ram : List ℕ) (keys : Option (List ℕ)) (limit : ℕ) (shown : ProgramShow (List ℕ))
    → OneEnd (ProgramShowComes known memory rom ram keys limit shown) (ProgramShowComes known memory rom ram keys limit shown)
program_show_once known memory rom ram keys limit program_show.Trace = program_once memory rom ram keys (program_traced known.origins limit)
program_show_once known memory rom ram keys limit program_show.Pictures = program_once memory rom ram keys (program_pictured limit)
program_show_once known memory rom ram keys limit program_show.Profile = program_once memory rom ram keys (program_profiled known.origins limit)
program_show_once known memory rom ram keys limit (program_show.Board shown) = board_show_once known (started (memory_in memory) rom ram) keys limit shown

-- ---- which statuses come

-- a run is to be saved
abbrev pub IsSave : Loaded → Type 0
IsSave (request.Run run) = run.show ≡ show.Plain plain.State
IsSave _ = ⊥

-- none is that of a ROM, and that there is no dispatch point comes only where a run is to be saved
abbrev IsDue : Loaded → Status → Type 0
IsDue loaded status = (¬ IsOfRom status) × (status ≡ NoDispatch → IsSave loaded)

-- output ends with a fault of a source only where that is checked, and only a search gives up
abbrev EndsWell : Loaded → Output → Type 0
EndsWell loaded output = output.status ≡ BadSource → IsCheck loaded

abbrev Free : Loaded → Judged Output → Type 0
Free loaded = AllSound (IsDue loaded) (EndsWell loaded) (IsSearch loaded)

-- a judgement of a part
abbrev FreePart : Loaded → {A : Type 0} → Judged A → Type 0
FreePart loaded = AllSound (IsDue loaded) (λ _. Unit {0}) (IsSearch loaded)

module _ (given : RomsGiven) where
  rom_never : (e : Edition) (f : ImageFault) → RomIs e (Err f) → (status : Status) (report : List ℕ) → cause_of (rom_refusal f) ≡ Fault status report → ⊥
  rom_never e f bad = fine_or_not (source_lines (rom_text e)) (interpreter_of e).rom f (given.games e) bad

  links_never : (f : ImageFault) → ComparesLink (Err f) → (status : Status) (report : List ℕ) → cause_of (rom_refusal f) ≡ Fault status report → ⊥
  links_never f (inl bad) = fine_or_not (source_lines sender_text) sender_rom f given.links.0 bad
  links_never f (inr bad) = fine_or_not (source_lines receiver_text) receiver_rom f given.links.1 bad.1

  compared_once : (e : Edition) → AgreeOn Any (RomComes e) (RomComes e)
  compared_once e =
      judged_agree Any _ _ _ _ rom_refusal (λ a b x y. tt) (λ a f s r x y z. rom_never e f y s r z) (λ a f s r x y z. rom_never e f y s r z)
      (λ f g s t r q x y z w. absurd (rom_never e f x s r z))

  links_once : AgreeOn Any LinkRomsCome LinkRomsCome
  links_once =
      judged_agree Any _ _ _ _ rom_refusal (λ a b x y. tt) (λ a f s r x y z. links_never f y s r z) (λ a f s r x y z. links_never f y s r z)
      (λ f g s t r q x y z w. absurd (links_never f x s r z))

  run_once : (e : Edition) (keys : Option (List ℕ)) (outcome : List KeyEvent → Outcome) → OneEnd (RunTo e keys outcome) (RunTo e keys outcome)
  run_once e keys outcome =
      once_behind (ScriptComes keys) (λ script. bind (RomComes e) (λ _. Ends (outcome script))) (result_agree (script_in keys) script_refusal)
      (λ script. any_behind (RomComes e) (RomComes e) (λ _. Ends (outcome script)) (λ _. Ends (outcome script)) (compared_once e) (λ _ _. ends_once (outcome script)))

  show_once : (known : Known) (e : Edition) (s : Start) (keys : Option (List ℕ)) (limit : ℕ) (shown : Show (List ℕ))
      → OneEnd (ShowComes known e s keys limit shown) (ShowComes known e s keys limit shown)
  show_once known e s keys limit (show.Commands text echo columns) =
      once_behind (CommandsCome Chip8 known.names echo limit text) _ (result_agree (commands_of Chip8 known.names echo limit text) command_refusal)
      (λ commands. run_once e keys _)
  show_once known e s keys limit (show.Plain shown) = run_once e keys _

  -- a request comes to one outcome
  pub agree : (loaded : Loaded) → OneEnd (HasOutcome loaded) (HasOutcome loaded)
  agree (request.Run run) =
      once_behind (StartComes run.start) (λ s. ShowComes (known_in run.start) s.edition s.start run.keys run.limit run.show) (start_once run.start)
      (λ s. show_once (known_in run.start) s.edition s.start run.keys run.limit run.show)
  agree (request.Program run) =
      once_behind (ImageComes run.memory run.code)
      (λ image. ProgramShowComes (known_of Cdp1802 run.code) run.memory image.0 image.1 run.keys run.limit run.show) (image_once run.memory run.code)
      (λ image. program_show_once (known_of Cdp1802 run.code) run.memory image.0 image.1 run.keys run.limit run.show)
  agree (request.Resumed run) = board_show_once nothing_known (resumed run.state) run.keys run.limit run.show
  agree (request.Link message moves number) =
      any_behind LinkRomsCome LinkRomsCome (λ _. Ends (linked (linked_after number moves message))) (λ _. Ends (linked (linked_after number moves message))) links_once
      (λ _ _. ends_once _)
  agree (request.Text verb file) = text_verb_once verb file
  agree (request.Cycles source certificate exits) = cycles_once source certificate exits
  agree (request.Safe code certificate edition) =
      once_behind (GameComes edition code) (λ game. SafeComes edition game certificate) (game_once edition code) (λ game. safe_once edition game certificate)
  agree (request.Certify code edition) = once_behind (GameComes edition code) (CertifyComes edition code) (game_once edition code) (certify_once edition code)
  agree _ = ends_once _

  -- ---- which statuses come, and who may give up

  module _ (loaded : Loaded) where
    free_behind : {A : Type 0} (J : Judged A) (K : A → Judged Output) → FreePart loaded J → ((a : A) → Free loaded (K a)) → Free loaded (bind J K)
    free_behind J K first rest = bind_sound (IsDue loaded) (λ _. Unit {0}) (EndsWell loaded) (IsSearch loaded) J K first rest

    part_behind : {A B : Type 0} (J : Judged A) (K : A → Judged B) → FreePart loaded J → ((a : A) → FreePart loaded (K a)) → FreePart loaded (bind J K)
    part_behind J K first rest = bind_sound (IsDue loaded) (λ _. Unit {0}) (λ _. Unit {0}) (IsSearch loaded) J K first rest

    part : {A F : Type 0} (Is : A → Type 0) (IsFault : F → Type 0) (told : F → Refusal) → ((f : F) → IsFault f → IsFine (IsDue loaded) (IsSearch loaded) (cause_of (told f)))
        → FreePart loaded (judged Is IsFault told)
    part Is IsFault told fine = judged_sound (IsDue loaded) (λ _. Unit {0}) (IsSearch loaded) Is IsFault told (λ a x. tt) fine

    any_part : {A : Type 0} (P : A → Type 0) → FreePart loaded (each P)
    any_part P = each_sound (IsDue loaded) (λ _. Unit {0}) (IsSearch loaded) P (λ a x. tt)

    ends_free : (o : Outcome) → Sound (IsDue loaded) (EndsWell loaded) (IsSearch loaded) o → Free loaded (Ends o)
    ends_free o sound v is = alone_sound (IsDue loaded) (EndsWell loaded) (IsSearch loaded) o v sound is

    writes_free : (text : List ℕ) → Free loaded (Writes text)
    writes_free text = ends_free (Shown (text ∷ []) Done []) (λ bad. absurd (cc))

    script_fine : (f : ScriptFault) → IsFine (IsDue loaded) (IsSearch loaded) (cause_of (script_refusal f))
    script_fine (script.Fault line cause) = (λ x. x, λ is. absurd (cc))
    script_fine script.NoMemory = tt

    command_fine : (f : CommandFault) → IsFine (IsDue loaded) (IsSearch loaded) (cause_of (command_refusal f))
    command_fine (command.Fault line cause) = (λ x. x, λ is. absurd (cc))
    command_fine command.NoMemory = tt

    source_fine : (f : AsmFault) → IsFine (IsDue loaded) (IsSearch loaded) (cause_of (source_refusal f))
    source_fine (asm.Fault line cause) = (λ x. x, λ is. absurd (cc))
    source_fine asm.NoMemory = tt

    cert_fine : (f : CertFault) → IsFine (IsDue loaded) (IsSearch loaded) (cause_of (cert_refusal f))
    cert_fine (cert.Fault line cause) = (λ x. x, λ is. absurd (cc))
    cert_fine cert.NoMemory = tt

    proof_fine : (f : ProofFault) → IsFine (IsDue loaded) (IsSearch loaded) (cause_of (proof_refusal f))
    proof_fine (proof.Fault line cause) = (λ x. x, λ is. absurd (cc))
    proof_fine proof.NoMemory = tt

    rom_fine : (f : ImageFault) → ((status : Status) (report : List ℕ) → cause_of (rom_refusal f) ≡ Fault status report → ⊥)
        → IsFine (IsDue loaded) (IsSearch loaded) (cause_of (rom_refusal f))
    rom_fine image.NoMemory never = tt
    rom_fine (image.BadRomSource line cause) never = absurd (never _ _ refl)
    rom_fine (image.RomDiffers address assembled here) never = absurd (never _ _ refl)

    script_free : (keys : Option (List ℕ)) → FreePart loaded (ScriptComes keys)
    script_free keys = part _ _ script_refusal (λ f x. script_fine f)

    source_free : (isa : Isa) (text : List ℕ) → FreePart loaded (SourceComes isa text)
    source_free isa text = part _ _ source_refusal (λ f x. source_fine f)

    assembled_free : (source : List ℕ) → FreePart loaded (SourceRom source)
    assembled_free source = part _ _ source_refusal (λ f x. source_fine f)

    text_free : (isa : Isa) (source : List ℕ) (IsText : Made → List ℕ → Type 0) → Free loaded (TextOf isa source IsText)
    text_free isa source IsText =
        free_behind (SourceComes isa source) _ (source_free isa source) (λ made. free_behind (each (IsText made)) Writes (any_part (IsText made)) writes_free)

    game_free : (e : Edition) (code : Code (List ℕ)) → FreePart loaded (GameComes e code)
    game_free e (Bytes game) = any_part _
    game_free e (Source text told) = part_behind (SourceComes Chip8Words text) (FitComes e) (source_free Chip8Words text) (λ made. part _ _ _ (λ f x. (λ y. y, λ is. absurd (cc))))

    image_free : (memory : Memory) (code : Code (List ℕ)) → FreePart loaded (ImageComes memory code)
    image_free memory (Bytes bytes) = any_part _
    image_free memory (Source text told) =
        part_behind (SourceComes Cdp1802 text) (λ made. LaidComes text) (source_free Cdp1802 text) (λ made. part _ _ _ (λ f x. (λ y. y, λ is. absurd (cc))))

    start_free : (start : asked.Start (List ℕ)) → FreePart loaded (StartComes start)
    start_free (beginning.Game code edition) = part_behind (GameComes edition code) _ (game_free edition code) (λ game. any_part _)
    start_free (beginning.State file) = any_part _
    start_free (beginning.Made made) = any_part _

    run_ends : (ending : Ending) → end_status ending ≡ BadSource → IsCheck loaded
    run_ends AtLimit bad = absurd (cc)
    run_ends (AtStop stop pc opcode) bad = absurd (cc)

    state_sound :
        IsSave loaded → (limit : ℕ) (ending : Ending) (pieces : Option (List (List ℕ))) → Sound (IsDue loaded) (EndsWell loaded) (IsSearch loaded) (ran_with limit ending pieces)
    state_sound save limit ending None = (λ x. x, λ is. save)
    state_sound save limit ending (Some pieces) = run_ends ending

    run_free : (e : Edition) (keys : Option (List ℕ)) (outcome : List KeyEvent → Outcome)
        → ((script : List KeyEvent) → Sound (IsDue loaded) (EndsWell loaded) (IsSearch loaded) (outcome script)) → Free loaded (RunTo e keys outcome)
    run_free e keys outcome sound =
        free_behind (ScriptComes keys) _ (script_free keys)
        (λ script. free_behind (RomComes e) _ (part _ _ rom_refusal (λ f x. rom_fine f (rom_never e f x))) (λ _. ends_free (outcome script) (sound script)))

    show_free : (known : Known) (e : Edition) (s : Start) (keys : Option (List ℕ)) (limit : ℕ) (shown : Show (List ℕ))
        → (shown ≡ show.Plain plain.State → IsSave loaded) → Free loaded (ShowComes known e s keys limit shown)
    show_free known e s keys limit (show.Commands text echo columns) saves =
        free_behind (CommandsCome Chip8 known.names echo limit text) _ (part _ _ command_refusal (λ f x. command_fine f)) (λ commands. run_free e keys _ (λ script. run_ends _))
    show_free known e s keys limit (show.Plain plain.State) saves =
        run_free e keys _ (λ script. state_sound (saves refl) limit (run_ending e s script limit) (pieces_of known.origins plain.State e s script limit))
    show_free known e s keys limit (show.Plain (plain.Trace columns)) saves = run_free e keys _ (λ script. run_ends (run_ending e s script limit))
    show_free known e s keys limit (show.Plain plain.Pictures) saves = run_free e keys _ (λ script. run_ends (run_ending e s script limit))
    show_free known e s keys limit (show.Plain plain.Profile) saves = run_free e keys _ (λ script. run_ends (run_ending e s script limit))
    show_free known e s keys limit (show.Plain (plain.Summary number)) saves = run_free e keys _ (λ script. run_ends (run_ending e s script limit))

    board_free : (board_by : List KeyEvent → Seen) (keys : Option (List ℕ)) (outcome : Seen → Outcome)
        → ((board : Seen) → Sound (IsDue loaded) (EndsWell loaded) (IsSearch loaded) (outcome board)) → Free loaded (RunsOn board_by keys outcome)
    board_free board_by keys outcome sound = free_behind (ScriptComes keys) _ (script_free keys) (λ script. ends_free _ (sound _))

    board_show_free : (known : Known) (board_by : List KeyEvent → Seen) (keys : Option (List ℕ)) (limit : ℕ) (shown : BoardShow (List ℕ))
        → Free loaded (BoardShowComes known board_by keys limit shown)
    board_show_free known board_by keys limit (board_show.Commands text echo) =
        free_behind (CommandsCome Processor known.names echo limit text) (λ commands. RunsOn board_by keys (program_debugged known.origins commands limit))
        (part _ _ command_refusal (λ f x. command_fine f))
        (λ commands. board_free board_by keys (program_debugged known.origins commands limit) (λ board bad. absurd (cc)))
    board_show_free known board_by keys limit board_show.State = board_free board_by keys (program_saved limit) (λ board bad. absurd (cc))

    program_free : (memory : Memory) (rom ram : List ℕ) (keys : Option (List ℕ)) (outcome : Seen → Outcome)
        → ((board : Seen) → Sound (IsDue loaded) (EndsWell loaded) (IsSearch loaded) (outcome board)) → Free loaded (ProgramComes memory rom ram keys outcome)
    program_free memory rom ram = board_free (started (memory_in memory) rom ram)

    program_show_free : (known : Known) (memory : Memory) (rom ram : List ℕ) (keys : Option (List ℕ)) (limit : ℕ) (shown : ProgramShow (List ℕ))
        → Free loaded (ProgramShowComes known memory rom ram keys limit shown)
    program_show_free known memory rom ram keys limit program_show.Trace = program_free memory rom ram keys (program_traced known.origins limit) (λ board bad. absurd (cc))
    program_show_free known memory rom ram keys limit program_show.Pictures = program_free memory rom ram keys (program_pictured limit) (λ board bad. absurd (cc))
    program_show_free known memory rom ram keys limit program_show.Profile = program_free memory rom ram keys (program_profiled known.origins limit) (λ board bad. absurd (cc))
    program_show_free known memory rom ram keys limit (program_show.Board shown) = board_show_free known (started (memory_in memory) rom ram) keys limit shown

  text_verb_free : (verb : TextVerb) (file : List ℕ) → Free (request.Text verb file) (TextVerbComes verb file)
  text_verb_free (text.Asm isa raw) source = text_free (request.Text (text.Asm isa raw) source) isa source (IsBytes isa raw)
  text_verb_free (text.Check name isa) source = ends_free (request.Text (text.Check name isa) source) _ (λ bad. tt)
  text_verb_free (text.List isa) source =
      text_free (request.Text (text.List isa) source) isa source (λ made text. IsListing isa (source_lines source) text)
  text_verb_free (text.Dis place) bytes = writes_free (request.Text (text.Dis place) bytes) _
  text_verb_free (text.Digest limit) list =
      let l = request.Text (text.Digest limit) list in
      free_behind l (GamesCome list) _ (part l _ _ games_refusal (λ f x. (λ y. y, λ is. absurd (cc)))) (λ games. writes_free l _)
  text_verb_free (text.Timing entry p k) source =
      let l = request.Text (text.Timing entry p k) source in
      free_behind l (SourceRom source) _ (assembled_free l source)
      (λ made. free_behind l (EntryComes made.made entry) _ (part l _ _ _ (λ f x. tt))
      (λ address. free_behind l (RoutineFound (rom_in source) address p k) (λ text. Writes (timing_shown source text))
      (part l _ _ timing_refusal (λ f x. timing_fine f)) (λ text. writes_free l (timing_shown source text))))
    where
      timing_fine : (f : TimingFault) → IsFine (IsDue (request.Text (text.Timing entry p k) source)) (Unit {0}) (cause_of (timing_refusal f))
      timing_fine (timing.NotFound obstacle) = tt
      timing_fine timing.NoMemory = tt

  pub free : (loaded : Loaded) → Free loaded (HasOutcome loaded)
  free (request.Run run) =
      let l = request.Run run in free_behind l (StartComes run.start) _ (start_free l run.start) (λ s. show_free l (known_in run.start) s.edition s.start run.keys run.limit run.show (λ is. is))
  free (request.Program run) =
      let l = request.Program run in
      free_behind l (ImageComes run.memory run.code) _ (image_free l run.memory run.code)
      (λ image. program_show_free l (known_of Cdp1802 run.code) run.memory image.0 image.1 run.keys run.limit run.show)
  free (request.Resumed run) = board_show_free (request.Resumed run) nothing_known (resumed run.state) run.keys run.limit run.show
  free (request.Link message moves number) =
      let l = request.Link message moves number in
      free_behind l LinkRomsCome _ (part l _ _ rom_refusal (λ f x. rom_fine l f (links_never f x))) (λ _. ends_free l _ (λ bad. absurd (cc)))
  free (request.Text verb file) = text_verb_free verb file
  free (request.Cycles source certificate exits) =
      let l = request.Cycles source certificate exits in
      free_behind l (SourceRom source) _ (assembled_free l source)
      (λ _. free_behind l (RoutineComes (rom_in source) certificate) _ (part l _ _ cert_refusal (λ f x. cert_fine l f)) (λ within. writes_free l _))
  free (request.Safe code certificate edition) =
      let l = request.Safe code certificate edition in
      free_behind l (GameComes edition code) _ (game_free l edition code)
      (λ game. free_behind l (ProofComes edition game certificate) _ (part l _ _ proof_refusal (λ f x. proof_fine l f)) (λ count. writes_free l _))
  free (request.Certify code edition) =
      let l = request.Certify code edition in
      free_behind l (GameComes edition code) _ (game_free l edition code)
      (λ game. free_behind l (ProofFound edition game) (λ text. Writes (certify_shown edition code game text)) (part l _ _ find_refusal (λ f x. find_fine f))
      (λ text. writes_free l (certify_shown edition code game text)))
    where
      find_fine : (f : FindFault) → IsFine (IsDue (request.Certify code edition)) ⊥ (cause_of (find_refusal f))
      find_fine (find.NotFound why) = (λ x. x, λ is. absurd (cc))
      find_fine find.NoMemory = tt
  free loaded = writes_free loaded _

  -- ---- a run without a point

  -- what isn't saved
  abbrev other : Loaded
  other = request.Own own.Version

  -- what is said of a run without a point to be saved
  abbrev pub LawOfNone : Type 0
  LawOfNone =
      (e : Edition) (s : Start) → Fits e s → (script : List KeyEvent) (limit : ℕ) → saved_file e (events_in e s script limit) ≡ None → LacksPoint limit s

  -- that there is no dispatch point comes of a run that is to be saved, and has none
  pub unsaved :
      LawOfNone → (loaded : Loaded) (report : List ℕ) → AreGiven (needed loaded) → HasOutcome loaded (Refused NoDispatch report) → SavesNone loaded
  unsaved lacks loaded report given comes = of_save loaded given comes ((free loaded (Refused NoDispatch report) comes).1 refl)
    where
      no_file : (limit : ℕ) (ending : Ending) (file : Option (List ℕ)) → Refused NoDispatch report ≡ ran_with limit ending (saved_pieces file) → file ≡ None
      no_file limit ending None is = refl
      no_file limit ending (Some file) is = absurd (cc)

      of_run : (e : Edition) (s : Start) → Fits e s → (keys : Option (List ℕ)) (limit : ℕ)
          → RunTo e keys (λ script. shown_by no_origins plain.State e s script limit) (Refused NoDispatch report) → LacksPoint limit s
      of_run e s fits keys limit (inl x) = absurd ((script_free other keys (Refused NoDispatch report) x).1 refl)
      of_run e s fits keys limit (inr x) = behind_rom x.here
        where
          behind_rom : bind (RomComes e) (λ _. Ends (shown_by no_origins plain.State e s x.value limit)) (Refused NoDispatch report) → LacksPoint limit s
          behind_rom (inl y) = absurd (rom_never e y.fault y.is NoDispatch report y.tells)
          behind_rom (inr y) = lacks e s fits x.value limit (no_file limit (run_ending e s x.value limit) (saved_file e (events_in e s x.value limit)) y.here)

      of_save : (loaded : Loaded) → AreGiven (needed loaded) → HasOutcome loaded (Refused NoDispatch report) → IsSave loaded → SavesNone loaded
      of_save (request.Run run) given (inl x) is = absurd ((start_free other run.start (Refused NoDispatch report) x).1 refl)
      of_save (request.Run run) given (inr x) is = (
        is,
        from_start (λ e s. LacksPoint run.limit s) run.start
            (record {
              value = x.value;
              gives = x.gives;
              here =
                  of_run x.value.edition x.value.start
                  (start_fits run.start (show_files run.show ++ script_files run.keys) given x.value x.gives)
                  run.keys run.limit
                  (subst (λ z. ShowComes (known_in run.start) x.value.edition x.value.start run.keys run.limit z (Refused NoDispatch report)) is x.here);
            }),
      )
      of_save _ given comes is = absurd is

-- ---- what `certify` decides

pub decides_certify : (call : Call) → DecidesCertify call
decides_certify call asked code e game report asks gives comes = elim comes [
  | inl refused ↦ absurd (game_once e code (Given game) (Refused NoCertificate report) gives refused)
  | inr found ↦
      let same : game ≡ found.value = game_once e code (Given game) (Given found.value) gives found.gives in
      subst (HasNone e) (sym same) (none_there found.value found.here)
]
  where
    none_there : (a : List ℕ) → CertifyComes e code a (Refused NoCertificate report) → HasNone e a
    none_there a there = elim there [
      | inl why ↦ has_none e a why.fault NoCertificate report why.is why.tells
      | inr written ↦ let never = written.here in absurd (cc)
    ]
