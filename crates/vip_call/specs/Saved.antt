-- What was saved of a run goes on as that run.
use Rattle.std.specs.Prelude.{◌≡◌, ◌≤◌, ℕ, false, List, [], ◌∷◌, ◌++◌, Option, Some, Ok}
use Rattle.machine.specs.Keys.{Event as KeyEvent}
use Rattle.asm_core.specs.Origins.{Origins, no_origins}
use Rattle.chip8_lang.specs.declared.view.Edition.{Edition}
use Rattle.rom_board.specs.Saved.{AgreeBefore}
use Rattle.vip_relation.specs.Follows.{last_dispatch}
use Rattle.vip_relation.specs.State.{Start}
use Rattle.vip_relation.specs.State.Start.{Saved}
use Rattle.vip_text.specs.ProgramFile.{machine_in, rom_in, IsProgram}
use Rattle.vip_text.specs.StateFile.{shown, IsAccepted}
use Rattle.vip_text.specs.declared.trace.TraceColumns.{TraceColumns}
use Rattle.vip_tools.specs.Code.{ImageComes, nothing_known}
use Rattle.vip_tools.specs.Files.{Loaded}
use Rattle.vip_tools.specs.Outcome.{Outcome, Shown, script_in}
use Rattle.vip_tools.specs.Judged.{Of}
use Rattle.vip_tools.specs.Judged.Verdict.{Given}
use Rattle.vip_words.specs.Spoken.{Spoken}
use Rattle.vip_words.specs.declared.debug_commands.Command.TheVariants.{Runs}
use Rattle.vip_words.specs.declared.debug_commands.Running.TheVariants.{To}
use Rattle.vip_words.specs.declared.request.BoardShow.{BoardShow}
use Rattle.vip_words.specs.declared.request.BoardShow.TheVariants as board
use Rattle.vip_words.specs.declared.request.PlainShow.TheVariants.{Pictures, State, Trace}
use Rattle.vip_words.specs.declared.request.ProgramShow.{ProgramShow}
use Rattle.vip_words.specs.declared.request.ProgramShow.TheVariants.{Board}
use Rattle.vip_words.specs.declared.request.Request.TheVariants.{Program, Resumed, Run}
use Rattle.vip_words.specs.declared.request.Show.{Show}
use Rattle.vip_words.specs.declared.request.Show.TheVariants.{Plain}
use Rattle.vip_words.specs.declared.request.Start.TheVariants as beginning
use Rattle.vip_board.specs.Seen.{Seen}
use Rattle.vip_outside.specs.Pieces.{joined}
use Rattle.vip_program.specs.Program.{resumed, started}
use Rattle.vip_debug.specs.Programs.{machine_at}
use Rattle.vip_debug.specs.declared.looks.Looks.{Looks}
use Rattle.vip_verbs.specs.Outcome.{HasOutcome, OfRun, ShowComes, debugged, shown_by}
use Rattle.vip_verbs.specs.Programs.{limit_at, memory_in, program_debugged, program_saved}
use Rattle.vip_show.specs.Runs.{events_in}

-- one go comes to what came first and then to the rest, and it ends as the rest does
abbrev pub IsJoined : (first rest whole : Outcome) → Type 0
IsJoined (Given first) (Given rest) whole = whole ≡ Shown (first.pieces ++ rest.pieces) rest.status rest.report
IsJoined _ _ whole = ⊥

-- Under a script up to a limit one go of the run from a start is what comes up to the cycle of a file's point, and then what comes of the run from the
-- file, which knows of no source: its lines, with the screen, where none of them shows a line of a source, and its pictures; the file that is saved of it is
-- the same; and the debugger answers behind `to` that cycle as it does from the file.
pub record GoesOn (e : Edition) (s : Start) (file : List ℕ) (script : List KeyEvent) (limit : ℕ) : Type 0 where
  pub lines :
      (origins : Origins) (columns : TraceColumns)
      → origins.texts ≡ []
      → IsJoined (shown_by origins (Trace (record columns { screen = false })) e s script (shown file).cycle)
      (shown_by no_origins (Trace columns) e (Saved file) script limit) (shown_by origins (Trace columns) e s script limit)
  pub pictures :
      (origins : Origins)
      → IsJoined (shown_by origins Pictures e s script (shown file).cycle) (shown_by no_origins Pictures e (Saved file) script limit)
      (shown_by origins Pictures e s script limit)
  pub state : (origins : Origins) → shown_by origins State e s script limit ≡ shown_by no_origins State e (Saved file) script limit
  pub answers :
      (looks : Looks) (echo : Option (List ℕ)) (commands : List Spoken)
      → let to : Spoken = record { command = Runs (To (shown file).cycle); echo = echo } in
      IsJoined (debugged looks (to ∷ []) e s script limit) (debugged looks commands e (Saved file) script limit)
      (debugged looks (to ∷ commands) e s script limit)

-- The file is accepted, and shows the machine state at the last dispatch point of the run up to its limit. Under every script that holds the same keys
-- before that point's cycle, and up to every limit from this cycle on, the run goes on as the one from the file. No request for that is refused as one of a
-- faulty state, or of another edition.
pub record GoesOnAsRun (e : Edition) (s : Start) (keys : Option (List ℕ)) (limit : ℕ) (file : List ℕ) : Type 0 where
  pub accepted : IsAccepted e file
  pub script : List KeyEvent
  pub reads : script_in keys ≡ Ok script
  pub shows : last_dispatch (events_in e s script limit) ≡ Some (shown file)
  pub rest :
      (other : List KeyEvent) (later : ℕ)
      → AgreeBefore (shown file).cycle script other
      → (shown file).cycle ≤ later
      → GoesOn e s file other later
  pub comes :
      (other : Option (List ℕ)) (later : ℕ) (show : Show (List ℕ)) (o : Outcome)
      → HasOutcome (Run (record { start = beginning.State file; keys = other; limit = later; show = show })) o
      → ShowComes nothing_known e (Saved file) other later show o

-- what was saved of a run is one file
pub record SavesOne (e : Edition) (s : Start) (keys : Option (List ℕ)) (limit : ℕ) (pieces : List (List ℕ)) : Type 0 where
  pub file : List ℕ
  pub written : pieces ≡ file ∷ []
  pub goes_on : GoesOnAsRun e s keys limit file

abbrev pub IsSaved : Edition → Start → Option (List ℕ) → ℕ → Show (List ℕ) → List (List ℕ) → Type 0
IsSaved e s keys limit (Plain State) pieces = SavesOne e s keys limit pieces
IsSaved e s keys limit _ pieces = Unit {0}

-- ---- of a program

-- Under a script up to a limit the debugger answers, on the board of a run, behind `to` the cycle of a file's machine as it does on the board from the file;
-- and the file that is saved is the same.
pub record BoardGoesOn (board_by : List KeyEvent → Seen) (file : List ℕ) (script : List KeyEvent) (limit : ℕ) : Type 0 where
  pub answers :
      (origins : Origins) (echo : Option (List ℕ)) (commands : List Spoken)
      → let to : Spoken = record { command = Runs (To (machine_in file).cycle); echo = echo } in
      IsJoined (program_debugged origins (to ∷ []) limit (board_by script)) (program_debugged origins commands limit (resumed file script))
      (program_debugged origins (to ∷ commands) limit (board_by script))
  pub state : program_saved limit (board_by script) ≡ program_saved limit (resumed file script)

-- The file is accepted, and shows the machine in which the run ended, and its ROM. Under every script that holds the same keys before that machine's cycle,
-- and up to every limit from this cycle on, the run goes on as the one from the file.
pub record BoardGoesOnAsRun (board_by : List KeyEvent → Seen) (keys : Option (List ℕ)) (limit : ℕ) (file : List ℕ) : Type 0 where
  pub accepted : IsProgram file
  pub script : List KeyEvent
  pub reads : script_in keys ≡ Ok script
  pub shows : machine_in file ≡ machine_at (board_by script) (limit_at limit (board_by script))
  pub rom : rom_in file ≡ (board_by script).rom
  pub rest :
      (other : List KeyEvent) (later : ℕ)
      → AgreeBefore (machine_in file).cycle script other
      → (machine_in file).cycle ≤ later
      → BoardGoesOn board_by file other later

-- what was saved of a board's run is one file, in some pieces
abbrev pub IsBoardSaved : (List KeyEvent → Seen) → Option (List ℕ) → ℕ → BoardShow (List ℕ) → List (List ℕ) → Type 0
IsBoardSaved board_by keys limit board.State pieces = BoardGoesOnAsRun board_by keys limit (joined pieces)
IsBoardSaved board_by keys limit _ pieces = Unit {0}

abbrev pub IsProgramSaved : (List KeyEvent → Seen) → Option (List ℕ) → ℕ → ProgramShow (List ℕ) → List (List ℕ) → Type 0
IsProgramSaved board_by keys limit (Board shown) pieces = IsBoardSaved board_by keys limit shown pieces
IsProgramSaved board_by keys limit _ pieces = Unit {0}

-- ---- a request

abbrev pub Continues : Loaded → List (List ℕ) → Type 0
Continues (Run run) pieces = OfRun run.start (λ e s. IsSaved e s run.keys run.limit run.show pieces)
Continues (Program run) pieces =
    Of (ImageComes run.memory run.code)
    (λ image. IsProgramSaved (started (memory_in run.memory) image.0 image.1) run.keys run.limit run.show pieces)
Continues (Resumed run) pieces = IsBoardSaved (resumed run.state) run.keys run.limit run.show pieces
Continues _ pieces = Unit {0}
