-- What each answer of the program says.
use Rattle.std.specs.Prelude.{◌≡◌, ℕ, ◌+◌, ◌^◌, ◌<◌, ◌≤◌, ◌⊎◌, Bool, List, [], ◌∷◌, Option, Some, None, Result, length}
use Rattle.std.specs.FinMap.{get}
use Rattle.vip_outside.specs.Files.{FileMap, FilesMeaning}
use Rattle.vip_outside.specs.Sink.{SinkMeaning}
use Rattle.vip_outside.specs.Pieces.{PutsAll, FailsWithin}
use Rattle.rom_board.specs.LeastBounds.{LeastBounds}
use Rattle.chip8_lang.specs.declared.view.Edition.{Edition}
use Rattle.asm_lex.specs.declared.shape.Isa.{Isa}
use Rattle.asm_core.specs.Sources.{source_lines}
use Rattle.asm_core.specs.Told.{IsFirstTold}
use Rattle.asm_core.specs.declared.findings.Finding.{Finding}
use Rattle.vip_words.specs.Asked.{asked_by}
use Rattle.vip_words.specs.Broken.{RefusedByRule}
use Rattle.vip_words.specs.Request.{Asked}
use Rattle.vip_words.specs.Rules.{Word}
use Rattle.game_check.specs.Least.{HasNone}
use Rattle.vip_words.specs.declared.request.Code.{Code}
use Rattle.vip_words.specs.declared.request.Request.{Request}
use Rattle.vip_words.specs.declared.request.Request.TheVariants.{Certify, Link, Text}
use Rattle.vip_words.specs.declared.request.TextVerb.TheVariants.{Asm, Check, Timing}
use Rattle.vip_tools.specs.declared.refusal.Kind.{Kind}
use Rattle.vip_tools.specs.declared.refusal.Refusal.{Refusal}
use Rattle.vip_tools.specs.declared.status.Status.{Status}
use Rattle.vip_tools.specs.declared.status.Status.TheVariants.{Done, Stopped, Usage, ReadFault, GameTooLarge, ScriptTooLarge, BadSource, BadRomSource, RomDiffers, WriteFault, NoDispatch, NoMemory, SourceTooLarge, CommandsTooLarge, BadState, MessageTooLarge, CertificateTooLarge, NoCertificate, RomTooLarge, RamTooLarge, GamesTooLarge}
use Rattle.vip_text.specs.declared.fault.StateFault.{StateFault}
use Rattle.vip_tools.specs.Files.{Loaded, Needed, files_of, needed, shape_of, HasAll, HasFault, IsRight, ComesTo, IsFaulty, IsLarger, IsUnread, OnlyReads, ReadsSome, reads_of, with_reads}
use Rattle.vip_call.specs.Certified.{Certifies}
use Rattle.vip_call.specs.Linked.{BringsMessage}
use Rattle.vip_call.specs.Language.{ShowsChip8}
use Rattle.vip_call.specs.Saved.{Continues}
use Rattle.vip_call.specs.Transcribed.{SavesNone, Transcribes}
use Rattle.vip_call.specs.Words.{FinishAnswers, OfWords, OpensWords}
use Rattle.vip_verbs.specs.declared.prepared.Prepared.{Prepared}
use Rattle.vip_verbs.specs.Outcome.{HasOutcome}
use Rattle.vip_tools.specs.Code.{GameComes}
use Rattle.vip_tools.specs.Judged.Verdict.{Given, Refused, GivenUp}
use Rattle.vip_tools.specs.Outcome.{Shown}
use Rattle.vip_tools.specs.Refusal.{too_large_status}
use Rattle.vip_tools.specs.Report.{usage, bad_source, bad_state, cannot_read, too_large_report, write_fault, no_memory, report_pieces}
use Rattle.vip_tools.specs.Reported.{IsPut}

-- one call: its words, and what the outside meant before it and after it
pub record Call : Type 0 where
  pub words : List (List ℕ)
  pub files : FilesMeaning
  pub files' : FilesMeaning
  pub out : SinkMeaning
  pub out' : SinkMeaning
  pub err : SinkMeaning
  pub err' : SinkMeaning

abbrev pub call_of : List (List ℕ) → FilesMeaning → FilesMeaning → SinkMeaning → SinkMeaning → SinkMeaning → SinkMeaning → Call
call_of words files files' out out' err err' =
    record { words = words; files = files; files' = files'; out = out; out' = out'; err = err; err' = err' }

-- ---- refusals: nothing went to `out`, and the report to `err` by one put, the whole of it or, at a fault, a prefix

pub record Refuses (report : List ℕ) (call : Call) : Type 0 where
  pub out : call.out' ≡ call.out
  pub err : IsPut report call.err call.err'

-- the words are refused, and no file was read
pub record Misused (call : Call) : Type 0 where
  pub words : asked_by call.words ≡ None
  pub files : call.files' ≡ call.files
  pub refused : Refuses usage call

-- no memory was found: none of the files was read, or the first ones of those that the words name
pub record Wants (call : Call) : Type 0 where
  pub files : (call.files' ≡ call.files) ⊎ OfWords call.words (λ asked. ReadsSome (needed asked) call.files call.files')
  pub refused : Refuses no_memory call

-- A file could not be read, which the report names. Those before it were read, each once, and none behind it.
pub record Unread (call : Call) : Type 0 where
  pub asked : Asked
  pub words : asked_by call.words ≡ Some asked
  pub at : ComesTo call.files call.files' (needed asked) (λ n answer. IsUnread call.files call.files' n answer × Refuses (cannot_read n.file) call)

-- A file has more bytes than its kind may have. Those before it were read, each once, and none behind it.
pub record Oversize (status : Status) (call : Call) : Type 0 where
  pub asked : Asked
  pub words : asked_by call.words ≡ Some asked
  pub at : ComesTo call.files call.files' (needed asked)
      (λ n answer. IsLarger call.files n answer × (status ≡ too_large_status n.kind) × Refuses (too_large_report n.kind) call)

-- A saved state has a fault, its first one, which the report names. Those before it were read, each once, and none behind it; no read was a fault.
pub record FaultyState (call : Call) : Type 0 where
  pub asked : Asked
  pub words : asked_by call.words ≡ Some asked
  pub fault : StateFault
  pub at :
      ComesTo call.files call.files' (needed asked)
      (λ n answer. IsFaulty fault call.files n answer × OnlyReads call.files call.files' × Refuses (bad_state fault) call)

-- the contents of the files of a request that was loaded, in the order in which they are read
abbrev pub contents_of : Loaded → List (List ℕ)
contents_of loaded = files_of (needed loaded)

-- what is asked for, with these contents in the places of the names
pub record Fills (asked : Asked) (contents : List (List ℕ)) (loaded : Loaded) : Type 0 where
  pub shape : shape_of asked ≡ shape_of loaded
  pub files : contents_of loaded ≡ contents

-- the words ask for this, and it is loaded: in the places of the names are the contents of the files
pub record Asks (call : Call) (asked : Asked) (loaded : Loaded) : Type 0 where
  pub words : asked_by call.words ≡ Some asked
  pub shape : shape_of asked ≡ shape_of loaded
  pub read : HasAll call.files (needed asked) (contents_of loaded)

-- All the files that the words name were read, in their order, each once and up to its end, and these are their contents; no other was, and no read
-- was a fault.
abbrev pub ReadsAll : Call → Asked → Loaded → Type 0
ReadsAll call asked loaded = call.files' ≡ with_reads (reads_of (needed asked) (contents_of loaded)) call.files

-- the contents are refused
pub record Rejects (status : Status) (call : Call) : Type 0 where
  pub asked : Asked
  pub loaded : Loaded
  pub asks : Asks call asked loaded
  pub files : ReadsAll call asked loaded
  pub report : List ℕ
  pub comes : HasOutcome loaded (Refused status report)
  pub refused : Refuses report call

-- nothing was found for the contents
pub record GivesUp (call : Call) : Type 0 where
  pub asked : Asked
  pub loaded : Loaded
  pub asks : Asks call asked loaded
  pub files : ReadsAll call asked loaded
  pub report : List ℕ
  pub comes : HasOutcome loaded (GivenUp report)
  pub refused : Refuses report call

-- ---- output

-- what is known of pieces and a report, with the status of the end, for a request that was loaded
abbrev pub OutputLaw : Type 1
OutputLaw = Loaded → List (List ℕ) → Status → List ℕ → Type 0

-- exact output
abbrev pub Exact : OutputLaw
Exact loaded pieces status report = HasOutcome loaded (Shown pieces status report)

-- the output of which this is known went out whole, each piece by one put, and the report by one put too, or by none where there is none
pub record Writes (Of : OutputLaw) (status : Status) (call : Call) : Type 0 where
  pub asked : Asked
  pub loaded : Loaded
  pub asks : Asks call asked loaded
  pub files : ReadsAll call asked loaded
  pub pieces : List (List ℕ)
  pub report : List ℕ
  pub comes : Of loaded pieces status report
  pub out : PutsAll pieces call.out call.out'
  pub err : PutsAll (report_pieces report) call.err call.err'

abbrev pub WritesExactly : Status → Call → Type 0
WritesExactly = Writes Exact

-- A fault of `out`: the pieces before it went out whole, and then a prefix of one; it is reported by one put.
pub record OutFails (pieces : List (List ℕ)) (call : Call) : Type 0 where
  pub out : FailsWithin pieces call.out call.out'
  pub err : IsPut write_fault call.err call.err'

-- a fault of `err` alone, at the report, behind which nothing more is put
pub record ErrFails (pieces : List (List ℕ)) (report : List ℕ) (call : Call) : Type 0 where
  pub out : PutsAll pieces call.out call.out'
  pub err : FailsWithin (report_pieces report) call.err call.err'

-- output of which this is known, and of which not all went out
pub record WritesPart (Of : OutputLaw) (call : Call) : Type 0 where
  pub asked : Asked
  pub loaded : Loaded
  pub asks : Asks call asked loaded
  pub files : ReadsAll call asked loaded
  pub pieces : List (List ℕ)
  pub status : Status
  pub report : List ℕ
  pub comes : Of loaded pieces status report
  pub fault : OutFails pieces call ⊎ ErrFails pieces report call

abbrev pub Faulty : Call → Type 0
Faulty = WritesPart Exact

-- ---- the answers

-- what each answer says; the last row is that of requests which are refused once their files are read
abbrev pub Says : Status → Call → Type 0
Says Done call = WritesExactly Done call
Says Stopped call = WritesExactly Stopped call
Says Usage call = Misused call
Says ReadFault call = Unread call
Says GameTooLarge call = Oversize GameTooLarge call ⊎ Rejects GameTooLarge call
Says ScriptTooLarge call = Oversize ScriptTooLarge call
Says BadSource call = WritesExactly BadSource call ⊎ Rejects BadSource call
Says WriteFault call = Faulty call
Says NoMemory call = Wants call
Says SourceTooLarge call = Oversize SourceTooLarge call
Says CommandsTooLarge call = Oversize CommandsTooLarge call
Says BadState call = Oversize BadState call ⊎ FaultyState call
Says MessageTooLarge call = Oversize MessageTooLarge call
Says CertificateTooLarge call = Oversize CertificateTooLarge call
Says NoCertificate call = GivesUp call ⊎ Rejects NoCertificate call
Says RomTooLarge call = Oversize RomTooLarge call
Says RamTooLarge call = Oversize RamTooLarge call
Says GamesTooLarge call = Oversize GamesTooLarge call
Says status call = Rejects status call

-- ---- when they come

-- no fault was counted
pub record IsQuiet (old new : ℕ) : Type 0 where
  pub below : old + 1 < 2 ^ 64
  pub same : new ≤ old

-- what the reading of files comes to, where the map is told: a name that it lacks, a file that is too large, a saved state with a fault, or all contents
pub data Reading : Type 0 where
  Lacks : Reading
  Larger : Kind → Reading
  Faulted : Reading
  Whole : List (List ℕ) → Reading

abbrev pub with_content : List ℕ → Reading → Reading
with_content content Lacks = Lacks
with_content content (Larger kind) = Larger kind
with_content content Faulted = Faulted
with_content content (Whole contents) = Whole (content ∷ contents)

-- a file of this content is too large, or has a fault, or is read, and then those behind it
abbrev pub ReadsContent : Needed Word → List ℕ → (Reading → Type 0) → Reading → Type 0
ReadsContent n content Behind reading =
    ((n.most < length content) × (reading ≡ Larger n.kind))
    ⊎ ((length content ≤ n.most) × (fault : StateFault) × HasFault fault n.kind content × (reading ≡ Faulted))
    ⊎ ((length content ≤ n.most) × IsRight n.kind content × (rest : Reading) × Behind rest × (reading ≡ with_content content rest))

abbrev pub ReadsOne : Needed Word → Option (List ℕ) → (Reading → Type 0) → Reading → Type 0
ReadsOne n None Behind reading = reading ≡ Lacks
ReadsOne n (Some content) Behind reading = ReadsContent n content Behind reading

abbrev pub Reads : FileMap → List (Needed Word) → Reading → Type 0
Reads files [] reading = reading ≡ Whole []
Reads files (n ∷ ns) reading = ReadsOne n (get files n.file) (Reads files ns) reading

-- The status that is due to what is asked, by the files of a told map: that of the first refusal in the order of the files, their contents, the ROM
-- and, where it is saved, the run; or, where no write is a fault, that of the end.
pub data Due (call : Call) (asked : Asked) : Reading → Status → Type 0 where
  Lacking : Due call asked Lacks ReadFault
  TooLarge : (kind : Kind) → Due call asked (Larger kind) (too_large_status kind)
  Faulting : Due call asked Faulted BadState
  Refusing : (contents : List (List ℕ)) (loaded : Loaded) (status : Status) (report : List ℕ) → Fills asked contents loaded
      → HasOutcome loaded (Refused status report) → Due call asked (Whole contents) status
  Showing : (contents : List (List ℕ)) (loaded : Loaded) (pieces : List (List ℕ)) (status : Status) (report : List ℕ) → Fills asked contents loaded
      → HasOutcome loaded (Shown pieces status report) → IsQuiet call.out.faults call.out'.faults → IsQuiet call.err.faults call.err'.faults
      → Due call asked (Whole contents) status

-- words that are refused give Usage, or want of memory
abbrev pub RefusesWords : Status → Call → Type 0
RefusesWords status call = asked_by call.words ≡ None → (status ≡ Usage) ⊎ (status ≡ NoMemory)

-- the words ask for this, the map of files is told, and no read was a fault
pub record Offers (call : Call) (asked : Asked) (files : FileMap) : Type 0 where
  pub words : asked_by call.words ≡ Some asked
  pub told : call.files.told ≡ Some files
  pub quiet : IsQuiet call.files.faults call.files'.faults

-- a search is asked for, which may find nothing though there is something: what it then says is true of the source
abbrev pub IsSearchShape : Request (Unit {0}) → Type 0
IsSearchShape (Text (Timing entry p k) source) = Unit {0}
IsSearchShape _ = ⊥

abbrev pub IsSearch : {N : Type 0} → Request N → Type 0
IsSearch request = IsSearchShape (shape_of request)

-- the answers that may come in place of a due one: want of memory, and that a search found nothing
abbrev pub IsFree : Asked → Status → Type 0
IsFree asked status = (status ≡ NoMemory) ⊎ ((status ≡ NoCertificate) × IsSearch asked)

-- Each refusal comes exactly where it is due, and so does each end: the answer is the status that is due, or a free one.
abbrev pub GivesDue : Status → Call → Type 0
GivesDue status call =
    (asked : Asked) (files : FileMap) (reading : Reading) (due : Status)
    → Offers call asked files
    → Reads files (needed asked) reading
    → Due call asked reading due
    → (status ≡ due) ⊎ IsFree asked status

-- the ROM isn't what its built-in source gives
abbrev pub IsOfRom : Status → Type 0
IsOfRom BadRomSource = Unit {0}
IsOfRom RomDiffers = Unit {0}
IsOfRom _ = ⊥

-- The contents of the files are refused: commands, a script, a source or a certificate have a fault, or the run that is to be saved has no dispatch
-- point. That the ROM isn't what its source gives is no such case: each source gives its ROM.
abbrev pub AreRefused : Asked → List (List ℕ) → Type 0
AreRefused asked contents =
    (loaded : Loaded) × Fills asked contents loaded × (status : Status) × (report : List ℕ) × HasOutcome loaded (Refused status report)
    × ¬ IsOfRom status

-- a source is asked to be checked
abbrev pub IsCheckShape : Request (Unit {0}) → Type 0
IsCheckShape (Text (Check name isa) source) = Unit {0}
IsCheckShape _ = ⊥

abbrev pub IsCheck : {N : Type 0} → Request N → Type 0
IsCheck request = IsCheckShape (shape_of request)

-- how the work ends that is asked for: with a fault of a source only where that is checked
abbrev pub IsEnd : Asked → Status → Type 0
IsEnd asked Done = Unit {0}
IsEnd asked Stopped = Unit {0}
IsEnd asked BadSource = IsCheck asked
IsEnd asked _ = ⊥

-- Where the files are there with their sizes, a saved state is accepted, their contents aren't refused and no fault is counted, the answer is that of an end,
-- or a free one.
abbrev pub Completes : Status → Call → Type 0
Completes status call =
    (asked : Asked) (files : FileMap) (contents : List (List ℕ))
    → Offers call asked files
    → Reads files (needed asked) (Whole contents)
    → ¬ AreRefused asked contents
    → IsQuiet call.out.faults call.out'.faults
    → IsQuiet call.err.faults call.err'.faults
    → IsEnd asked status ⊎ IsFree asked status

-- ---- what the output says of the language

-- Where the words and the contents of the files come to the output of a game's run, that run is one of CHIP-8, which keeps to its frames. `WritesExactly` and
-- `Faulty` say that this output went out, whole or in part.
abbrev pub SpeaksChip8 : Call → Type 0
SpeaksChip8 call =
    (asked : Asked) (loaded : Loaded) (pieces : List (List ℕ)) (status : Status) (report : List ℕ)
    → Asks call asked loaded
    → HasOutcome loaded (Shown pieces status report)
    → ShowsChip8 loaded

-- a run without a point was to be saved
pub record SavesNothing (call : Call) : Type 0 where
  pub asked : Asked
  pub loaded : Loaded
  pub asks : Asks call asked loaded
  pub none : SavesNone loaded

-- With no machine in it, and no choice left: what went out, whole or in part, is that of the run in the language's time, whose points and cycles are a
-- function of edition, start, script and limit, and the status and the report are those of its end. There is none to be saved only where it has no point.
abbrev pub TellsTimed : Status → Call → Type 0
TellsTimed Done call = Writes Transcribes Done call
TellsTimed Stopped call = Writes Transcribes Stopped call
TellsTimed WriteFault call = WritesPart Transcribes call
TellsTimed NoDispatch call = SavesNothing call
TellsTimed _ call = Unit {0}

-- ---- what the output says of a certificate

-- Where the words and the contents come to the output that a certificate is right, or to one that was found, what it claims holds: the routine
-- leaves within its limit; no run of the game stops.
abbrev pub ProvesCertified : Call → Type 0
ProvesCertified call =
    (asked : Asked) (loaded : Loaded) (pieces : List (List ℕ)) (status : Status) (report : List ℕ)
    → Asks call asked loaded
    → HasOutcome loaded (Shown pieces status report)
    → Certifies loaded pieces

-- Where the words and the contents come to it that a game has no certificate, there is none: no text of at most 1,048,576 bytes is one that `safe` accepts for
-- it. That one is the least which they come to stands with it (`IsFound` in `game_check/specs/Least.antt`).
abbrev pub DecidesCertify : Call → Type 0
DecidesCertify call =
    (asked : Asked) (code : Code (List ℕ)) (edition : Edition) (game report : List ℕ)
    → Asks call asked (Certify code edition)
    → GameComes edition code (Given game)
    → HasOutcome (Certify code edition) (Refused NoCertificate report)
    → HasNone edition game

-- ---- what a state says that was saved

-- Where the words and the contents come to the file of a saved state, it shows the board's state at the last dispatch point of a game's run, or at the end of a
-- program's, and whoever begins there goes on with the run, under the same keys before that, up to every later limit, and however it is shown.
abbrev pub ContinuesSaved : Call → Type 0
ContinuesSaved call =
    (asked : Asked) (loaded : Loaded) (pieces : List (List ℕ)) (status : Status) (report : List ℕ)
    → Asks call asked loaded
    → HasOutcome loaded (Shown pieces status report)
    → Continues loaded pieces

-- ---- what is told of a source that is checked

-- Where a source is checked, `asm` of it agrees, of its bytes and of their dump: it isn't refused exactly where no fault is told; and it is refused for the
-- first fault that is told, by its line and its cause.
pub record AgreesWithAsm (source : List ℕ) (isa : Isa) (status : Status) : Type 0 where
  pub clean : status ≡ Done → (raw : Bool) (refused : Status) (report : List ℕ) → HasOutcome (Text (Asm isa raw) source) (Refused refused report) → ⊥
  pub faulty : status ≡ BadSource → (raw : Bool) (pieces : List (List ℕ)) (done : Status) (report : List ℕ) → HasOutcome (Text (Asm isa raw) source) (Shown pieces done report) → ⊥
  pub first : (i : ℕ) (finding : Finding) → IsFirstTold isa (source_lines source) i finding
      → (raw : Bool) → HasOutcome (Text (Asm isa raw) source) (Refused BadSource (bad_source (i + 1) finding.cause))

abbrev pub ChecksSources : Call → Type 0
ChecksSources call =
    (asked : Asked) (source name : List ℕ) (isa : Isa) (pieces : List (List ℕ)) (status : Status) (report : List ℕ)
    → Asks call asked (Text (Check name isa) source)
    → HasOutcome (Text (Check name isa) source) (Shown pieces status report)
    → AgreesWithAsm source isa status

-- ---- what the output says of two boards that are joined

-- Where `link` comes to the output of two boards, what arrived is the beginning of the message, and all of it after enough moves.
abbrev pub BringsMessages : Call → Type 0
BringsMessages call =
    (asked : Asked) (message : List ℕ) (moves number : ℕ) (pieces : List (List ℕ)) (status : Status) (report : List ℕ)
    → Asks call asked (Link message moves number)
    → HasOutcome (Link message moves number) (Shown pieces status report)
    → BringsMessage message moves number pieces report

-- ---- the program

-- What the program promises of each call. The body is held to `says`: what its answer tells of words, files, output and report. What follows for a
-- reader stands beside it. `words` follows from `says` alone, `due`, `complete` and `rom` as each source gives its ROM, `timed` by the laws of every run and
-- of its time. `language`, `certified`, `decided`, `saved`, `checked` and `linked` are laws of what words and contents come to, and `least` is one of the
-- language: they hold of any body.
pub record Promises (status : Status) (call : Call) : Type 0 where
  -- what the answer says: exact output for Done and Stopped, of `certify` the least certificate that is accepted, each refusal's cause, and which reads were made
  pub says : Says status call
  -- Where a game is run, its run is one of CHIP-8, within the bounds, also at a wait for a key; each picture is the screen at the last dispatch
  -- point, and a stop names its instruction. An interrupt comes exactly in its cycle of each frame, and none while the screen is changed.
  pub language : SpeaksChip8 call
  -- What went out of a game's run is that of the run in the language's time: each point and the stop in exactly their cycle, and none is left out. So it is
  -- a run of CHIP-8.
  pub timed : TellsTimed status call
  -- beside the bounds that are printed: the least that hold, each of which a game takes
  pub least : LeastBounds
  -- where a certificate is accepted or written, its routine leaves in time, or its game never stops
  pub certified : ProvesCertified call
  -- where `certify` says that a game has no certificate, there is none
  pub decided : DecidesCertify call
  -- a saved state is that of the last dispatch point of a game's run, or of the end of a program's, and what goes on from it is the rest of the run
  pub saved : ContinuesSaved call
  -- where a source is checked, what is told agrees with what `asm` makes of it
  pub checked : ChecksSources call
  -- where two boards are joined, what arrived is the beginning of the message, and all of it after enough moves
  pub linked : BringsMessages call
  -- words are refused exactly where a rule is named, which is what `why` says of them
  pub rules : RefusedByRule
  -- when each answer is due, that there is no other, and that none is that the ROM isn't what its source gives
  pub words : RefusesWords status call
  pub due : GivesDue status call
  pub complete : Completes status call
  pub rom : ¬ IsOfRom status

-- something was opened for the words and finished, or why nothing was is reported
pub record IsFinished (words : List (List ℕ)) (files files' : FilesMeaning) (out out' err err' : SinkMeaning) (status : Status) : Type 0 where
  pub opened : Result Prepared Refusal
  pub opens : OpensWords words files files' opened
  pub finishes : FinishAnswers opened out out' err err' status

-- Whatever was opened for the words and then finished, or refused and reported, keeps what is promised.
abbrev pub EveryCall : Type 0
EveryCall =
    (words : List (List ℕ)) (files files' : FilesMeaning) (out out' err err' : SinkMeaning) (opened : Result Prepared Refusal) (status : Status)
    → OpensWords words files files' opened
    → FinishAnswers opened out out' err err' status
    → Promises status (call_of words files files' out out' err err')
