-- What the opening of a run answers.
use Rattle.std.specs.Prelude.{◌≡◌, ◌≤◌, ℕ, List, [], length, Option, Result, Ok, Err}
use Rattle.machine.specs.Keys.{Event as KeyEvent}
use Rattle.chip8_lang.specs.State.{memory_size}
use Rattle.chip8_lang.specs.declared.view.Edition.{Edition}
use Rattle.asm_core.specs.Origins.{Origins}
use Rattle.vip_relation.specs.Meets.{HasStopped}
use Rattle.vip_relation.specs.State.{Start, VipState, begun}
use Rattle.vip_relation.specs.State.Start.{Reset as AtReset}
use Rattle.vip_text.specs.StateFile.{IsAccepted}
use Rattle.vip_words.specs.DebugGrammar.{commands_of}
use Rattle.vip_words.specs.Spoken.{Spoken}
use Rattle.vip_words.specs.declared.debug_commands.Speaks.TheVariants.{Chip8, Machine as Processor}
use Rattle.vip_words.specs.declared.request.PlainShow.{PlainShow}
use Rattle.vip_words.specs.declared.request.PlainShow.TheVariants as plain
use Rattle.vip_words.specs.declared.request.BoardShow.{BoardShow}
use Rattle.vip_words.specs.declared.request.BoardShow.TheVariants as board
use Rattle.vip_words.specs.declared.request.ProgramShow.{ProgramShow}
use Rattle.vip_words.specs.declared.request.ProgramShow.TheVariants as program
use Rattle.vip_words.specs.declared.request.Show.{Show}
use Rattle.vip_words.specs.declared.request.Show.TheVariants as show
use Rattle.vip_words.specs.declared.request.Start as asked
use Rattle.vip_tools.specs.Code.{Known, marked}
use Rattle.vip_tools.specs.Files.{IsRight}
use Rattle.vip_tools.specs.declared.refusal.Kind.TheVariants.{State}
use Rattle.vip_tools.specs.declared.refusal.Refusal.{Refusal}
use Rattle.vip_tools.specs.Judged.{Judged, Of, RefusedBy, bind, each, only}
use Rattle.vip_tools.specs.Judged.Verdict.{Given}
use Rattle.vip_tools.specs.Opening.{CommandsCome, ScriptComes}
use Rattle.vip_program.specs.declared.instructions.ProgramProfile.{ProgramProfile}
use Rattle.vip_show.specs.declared.opcodes.Profile.{Profile}
use Rattle.vip_debug.specs.declared.looks.Looks.{Looks}
use Rattle.vip_verbs.specs.Outcome.{IsSavedIn, RomComes, RunStart, StartComes, known_in, looks_of}
use Rattle.vip_verbs.specs.declared.opening.Beginning.{Beginning}
use Rattle.vip_verbs.specs.declared.opening.Beginning.TheVariants.{Reset, Saved}
use Rattle.vip_verbs.specs.declared.opening.Opened.{Opened}
use Rattle.vip_verbs.specs.declared.prepared.ReadyBoardShow.{ReadyBoardShow}
use Rattle.vip_verbs.specs.declared.prepared.ReadyBoardShow.TheVariants as boards
use Rattle.vip_verbs.specs.declared.prepared.ReadyProgramShow.{ReadyProgramShow}
use Rattle.vip_verbs.specs.declared.prepared.ReadyProgramShow.TheVariants as programs
use Rattle.vip_verbs.specs.declared.prepared.ReadyShow.{ReadyShow}
use Rattle.vip_verbs.specs.declared.prepared.ReadyShow.TheVariants as shows

-- a run from this start under this script begins
pub record IsStarted (e : Edition) (s : Start) (script : List KeyEvent) (v : VipState) : Type 0 where
  pub is : v ≡ begun e s script
  pub runs : HasStopped v → ⊥

-- with a ROM that is what its source gives, and under its script file
abbrev pub Started : Edition → Start → List KeyEvent → Judged VipState
Started e s script = bind (RomComes e) (λ _. each (IsStarted e s script))

abbrev pub BeginComes : Edition → Start → Option (List ℕ) → Judged VipState
BeginComes e s keys = bind (ScriptComes keys) (Started e s)

-- the file is accepted, and of its edition this holds
pub record Accepts (file : List ℕ) (Here : Edition → Type 0) : Type 0 where
  pub edition : Edition
  pub accepted : IsAccepted edition file
  pub here : Here edition

-- a run with these bytes begins there
abbrev pub IsAt : Beginning → RunStart → Type 0
IsAt (Reset game e) s = s ≡ record { edition = e; start = AtReset game.items }
IsAt (Saved file) s = IsSavedIn file.items s

-- and so of the edition and the start of a run with these bytes this holds
abbrev pub BeginsAt : Beginning → (Edition → Start → Type 0) → Type 0
BeginsAt beginning Here = Of (each (IsAt beginning)) (λ s. Here s.edition s.start)

-- they fit, and a saved state is accepted
abbrev pub IsWhole : Beginning → Type 0
IsWhole (Reset game e) = length game.items ≤ memory_size e
IsWhole (Saved file) = IsRight State file.items

-- the bytes with which a run begins are those of the file, or those that its game's code gives
abbrev pub IsBeginning : asked.Start (List ℕ) → Beginning → Type 0
IsBeginning start beginning = (s : RunStart) → IsAt beginning s → StartComes start (Given s)

-- and what is known of the code is known
abbrev pub OpenedAnswers : asked.Start (List ℕ) → Result Opened Refusal → Type 0
OpenedAnswers start (Ok opened) = IsBeginning start opened.beginning × IsWhole opened.beginning × (marked opened.marks ≡ known_in start)
OpenedAnswers start (Err refusal) = RefusedBy (StartComes start) refusal

-- what is shown of a run without the debugger is ready: for a profile there is memory
abbrev pub IsPlain : Origins → PlainShow → ReadyShow → Type 0
IsPlain origins (plain.Trace columns) ready = (told : Origins) × (told ≡ origins) × (ready ≡ shows.Trace columns told)
IsPlain origins plain.Pictures ready = ready ≡ shows.Pictures
IsPlain origins plain.State ready = ready ≡ shows.State
IsPlain origins plain.Profile ready = (counts : Profile) × (page : Origins) × (page ≡ origins) × (ready ≡ shows.Profile counts page)
IsPlain origins (plain.Summary number) ready = ready ≡ shows.Summary number

-- what is shown of a run up to a limit is ready: its commands are those that their text says
abbrev pub IsShow : Known → ℕ → Show (List ℕ) → ReadyShow → Type 0
IsShow known limit (show.Commands text echo columns) ready =
    (commands : List Spoken) × (looks : Looks) × (commands_of Chip8 known.names echo limit text ≡ Ok commands) × (looks ≡ looks_of known columns)
    × (ready ≡ shows.Commands commands looks)
IsShow known limit (show.Plain shown) ready = IsPlain known.origins shown ready

-- the commands of what is shown, where it has some
abbrev pub CommandsIn : Known → ℕ → Show (List ℕ) → Judged (List Spoken)
CommandsIn known limit (show.Commands text echo columns) = CommandsCome Chip8 known.names echo limit text
CommandsIn known limit _ = only []

abbrev pub ShowReady : Known → ℕ → Show (List ℕ) → Result ReadyShow Refusal → Type 0
ShowReady known limit asked (Ok ready) = IsShow known limit asked ready
ShowReady known limit asked (Err refusal) = RefusedBy (CommandsIn known limit asked) refusal

-- the same of a program's board
abbrev pub IsBoardShow : Known → ℕ → BoardShow (List ℕ) → ReadyBoardShow → Type 0
IsBoardShow known limit (board.Commands text echo) ready =
    (commands : List Spoken) × (origins : Origins) × (commands_of Processor known.names echo limit text ≡ Ok commands) × (origins ≡ known.origins)
    × (ready ≡ boards.Commands commands origins)
IsBoardShow known limit board.State ready = ready ≡ boards.State

abbrev pub BoardCommandsIn : Known → ℕ → BoardShow (List ℕ) → Judged (List Spoken)
BoardCommandsIn known limit (board.Commands text echo) = CommandsCome Processor known.names echo limit text
BoardCommandsIn known limit board.State = only []

abbrev pub BoardShowReady : Known → ℕ → BoardShow (List ℕ) → Result ReadyBoardShow Refusal → Type 0
BoardShowReady known limit asked (Ok ready) = IsBoardShow known limit asked ready
BoardShowReady known limit asked (Err refusal) = RefusedBy (BoardCommandsIn known limit asked) refusal

-- and of a program
abbrev pub IsProgramShow : Known → ℕ → ProgramShow (List ℕ) → ReadyProgramShow → Type 0
IsProgramShow known limit program.Trace ready = (origins : Origins) × (origins ≡ known.origins) × (ready ≡ programs.Trace origins)
IsProgramShow known limit program.Pictures ready = ready ≡ programs.Pictures
IsProgramShow known limit program.Profile ready =
    (counts : ProgramProfile) × (page : Origins) × (page ≡ known.origins) × (ready ≡ programs.Profile counts page)
IsProgramShow known limit (program.Board shown) ready = (r : ReadyBoardShow) × IsBoardShow known limit shown r × (ready ≡ programs.Board r)

abbrev pub ProgramCommandsIn : Known → ℕ → ProgramShow (List ℕ) → Judged (List Spoken)
ProgramCommandsIn known limit (program.Board shown) = BoardCommandsIn known limit shown
ProgramCommandsIn known limit _ = only []

abbrev pub ProgramShowReady : Known → ℕ → ProgramShow (List ℕ) → Result ReadyProgramShow Refusal → Type 0
ProgramShowReady known limit asked (Ok ready) = IsProgramShow known limit asked ready
ProgramShowReady known limit asked (Err refusal) = RefusedBy (ProgramCommandsIn known limit asked) refusal
