-- What a verb writes of a game's run, and how it reports its end, by the transcript.
use Rattle.std.specs.Prelude.{◌≡◌, ℕ, ◌+◌, ◌-◌, ◌*◌, ◌/◌, ◌==◌, ◌<◌, drop, max, min, slice_index, slice_range, List, [], ◌∷◌, ◌++◌, Option, Some, Result, Ok, Err}
use Rattle.std.specs.Int.{w64, from_be_bytes}
use Rattle.machine.specs.Keys.{Event}
use Rattle.machine.specs.Pictures.{windows_ended}
use Rattle.chip8_lang.specs.declared.view.Edition.{Edition}
use Rattle.chip8_lang.specs.declared.view.Edition.TheVariants.{Usual}
use Rattle.chip8_lang.specs.Editions.{memory_end, memory_start, random_cell, rows_of, screen_start, stack_top, variables}
use Rattle.chip8_lang.specs.Places.{addresses, most_addresses, pixels}
use Rattle.chip8_lang.specs.Timed.{Shown, boot_cycle, shown_behind, timed_run}
use Rattle.vip_text.specs.Endings.{Ending}
use Rattle.vip_text.specs.StateFile.{bytes_at, edition_byte, IsAccepted}
use Rattle.vip_relation.specs.State.{Start}
use Rattle.vip_relation.specs.State.Start.{Reset, Saved}
use Rattle.vip_debug.specs.declared.looks.Looks.{Looks}
use Rattle.vip_words.specs.DebugGrammar.{commands_of}
use Rattle.vip_words.specs.Spoken.{Spoken}
use Rattle.vip_words.specs.declared.debug_commands.CommandFault.{CommandFault}
use Rattle.vip_words.specs.declared.debug_commands.Speaks.TheVariants.{Chip8}
use Rattle.vip_words.specs.declared.request.PlainShow.TheVariants.{Pictures, Profile, State, Summary, Trace}
use Rattle.vip_words.specs.declared.request.Request.TheVariants.{Run}
use Rattle.vip_words.specs.declared.request.Show.{Show}
use Rattle.vip_words.specs.declared.request.Show.TheVariants.{Commands, Plain}
use Rattle.vip_words.specs.declared.request.Start as asked
use Rattle.vip_words.specs.declared.request.Start.TheVariants as beginning
use Rattle.vip_tools.specs.Report.{end_report}
use Rattle.vip_tools.specs.Status.{end_status}
use Rattle.vip_tools.specs.declared.status.Status.{Status}
use Rattle.vip_tools.specs.Code.{GameComes, Known}
use Rattle.vip_tools.specs.Demo.{made_game}
use Rattle.vip_tools.specs.Files.{Loaded}
use Rattle.vip_tools.specs.Judged.{Of}
use Rattle.vip_tools.specs.Outcome.{script_in}
use Rattle.vip_verbs.specs.Outcome.{known_in, looks_of}
use Rattle.vip_call.specs.Commands.{AllAnswered}
use Rattle.vip_call.specs.Transcript.{Begins, GoesOn, Point, Shows, ShowsPictures, last_point, profile_of, summary_text, trace_text}

-- ---- runs, from a game or from a file

-- The point that a file of a machine state shows, by its bytes: the cycle is bytes 6 to 13, with the high byte first, and RAM begins at byte 51.
abbrev pub two_bytes : List ℕ → ℕ → ℕ
two_bytes f k = slice_index f k * 256 + slice_index f (k + 1)

abbrev pub file_ram : List ℕ → List ℕ
file_ram f = drop 51 f

abbrev pub file_point : Edition → List ℕ → Point
file_point e f =
    record {
      cycle = from_be_bytes w64 (bytes_at f 6 8);
      state =
          record {
            v = slice_range (file_ram f) (variables e) (variables e + 16);
            i = two_bytes f 34;
            pc = two_bytes f 24;
            stack = addresses (file_ram f) (stack_top e) (min most_addresses ((stack_top e - two_bytes f 18) / 2));
            memory = slice_range (file_ram f) memory_start (memory_end e);
            dt = slice_index f 30;
            st = slice_index f 31;
            tone = slice_index f 49 / 2 == 1;
            n = two_bytes f 32;
            b = slice_index (file_ram f) random_cell;
            screen = pixels (rows_of e) (slice_range (file_ram f) (screen_start e) 0x1000);
          };
    }

-- The run in the language's time: from reset that of the game, and from a file that behind its point.
abbrev pub shown_from : Edition → Start → List Event → ℕ → List Shown
shown_from e (Reset game) script limit = timed_run e script limit game
shown_from e (Saved f) script limit = let p = file_point e f in shown_behind e script limit limit (windows_ended p.cycle) p.cycle p.state

-- these points and this end are those of a run of CHIP-8
abbrev pub IsRun : Edition → Start → List Event → ℕ → List Point → Ending → ℕ → Type 0
IsRun e (Reset game) script limit = Begins e script limit game
IsRun e (Saved f) script limit = GoesOn e script limit (file_point e f)

-- The point of the start, which counts as met, and the cycle in which the run begins: of a file its own, and from reset none, and cycle 0.
abbrev pub first_points : Edition → Start → List Point
first_points e (Reset game) = []
first_points e (Saved f) = file_point e f ∷ []

abbrev pub first_cycle : Edition → Start → ℕ
first_cycle e (Reset game) = 0
first_cycle e (Saved f) = (file_point e f).cycle

-- ---- what is written

-- one file of a state, which is accepted, in the edition, and shows this point
pub record IsStateOf (e : Edition) (point : Option Point) (pieces : List (List ℕ)) : Type 0 where
  pub file : List ℕ
  pub written : pieces ≡ file ∷ []
  pub accepted : IsAccepted e file
  pub shows : point ≡ Some (file_point e file)

module _ (e : Edition) (s : Start) (points : List Point) where
  -- with that of the start
  abbrev pub all_points : List Point
  all_points = first_points e s ++ points

  -- The commands of the debugger, where they have no fault. Where the limit is before the start, it stands there.
  abbrev pub Debugged : Looks → ℕ → Ending → ℕ → Ending → Result (List Spoken) CommandFault → List (List ℕ) → Type 0
  Debugged looks limit ending over reported (Ok commands) pieces =
      AllAnswered e looks (max limit (first_cycle e s)) all_points ending over reported commands (first_cycle e s) pieces
  Debugged looks limit ending over reported (Err fault) pieces = ⊥

  -- A run up to a limit, of whose code this is known, with these points behind its start, which is over so in cycle `over`, is shown so: these pieces are
  -- written, and this end is reported.
  abbrev pub IsShown : Known → ℕ → List Shown → Ending → ℕ → Ending → Show (List ℕ) → List (List ℕ) → Type 0
  IsShown known limit run ending over reported (Plain (Trace columns)) pieces =
      (pieces ≡ trace_text e known.origins columns points (last_point all_points)) × (reported ≡ ending)
  IsShown known limit run ending over reported (Plain Pictures) pieces = ShowsPictures e run pieces × (reported ≡ ending)
  IsShown known limit run ending over reported (Commands text echo columns) pieces =
      Debugged (looks_of known columns) limit ending over reported (commands_of Chip8 known.names echo limit text) pieces
  IsShown known limit run ending over reported (Plain State) pieces = IsStateOf e (last_point all_points) pieces × (reported ≡ ending)
  IsShown known limit run ending over reported (Plain Profile) pieces = (pieces ≡ profile_of e known.origins all_points) × (reported ≡ ending)
  IsShown known limit run ending over reported (Plain (Summary number)) pieces =
      (pieces ≡ summary_text e number (windows_ended over - windows_ended (first_cycle e s)) points (last_point all_points)) × (reported ≡ ending)

-- ---- a command

-- A run from a start under the keys of a script up to a limit has the points and the end of the language's time, and is over in cycle `over`; so it is a
-- run of CHIP-8. It is shown so, and this status and this report are those of the end that is reported.
pub record Transcribed (known : Known) (e : Edition) (s : Start) (keys : Option (List ℕ)) (limit : ℕ) (show : Show (List ℕ)) (pieces : List (List ℕ))
    (status : Status) (report : List ℕ) : Type 0 where
  pub script : List Event
  pub reads : script_in keys ≡ Ok script
  pub points : List Point
  pub ending : Ending
  pub over : ℕ
  pub timed : Shows e script limit (shown_from e s script limit) points ending over
  pub chip8 : IsRun e s script limit points ending over
  pub reported : Ending
  pub shown : IsShown e s points known limit (shown_from e s script limit) ending over reported show pieces
  pub status_is : status ≡ end_status reported
  pub report_is : report ≡ end_report limit reported

-- byte 5 of a file names its edition, of which this holds
pub record FromFile (f : List ℕ) (Here : Edition → Type 0) : Type 0 where
  pub edition : Edition
  pub named : slice_index f 5 ≡ edition_byte edition
  pub here : Here edition

-- of the edition and the start of a run this holds; that of a source is the run of the game that it gives
abbrev pub From : asked.Start (List ℕ) → (Edition → Start → Type 0) → Type 0
From (beginning.Game code edition) Here = Of (GameComes edition code) (λ game. Here edition (Reset game))
From (beginning.State file) Here = FromFile file (λ e. Here e (Saved file))
From (beginning.Made made) Here = Here Usual (Reset (made_game made))

-- what a request writes and reports, where it runs a game
abbrev pub Transcribes : Loaded → List (List ℕ) → Status → List ℕ → Type 0
Transcribes (Run run) pieces status report =
    From run.start (λ e s. Transcribed (known_in run.start) e s run.keys run.limit run.show pieces status report)
Transcribes _ pieces status report = Unit {0}

-- ---- a run without a point

-- it begins at reset, and its limit is below the cycle of the first point
abbrev pub LacksPoint : ℕ → Start → Type 0
LacksPoint limit (Reset game) = limit < boot_cycle
LacksPoint limit (Saved file) = ⊥

-- so a request to save one has nothing to save
abbrev pub SavesNone : Loaded → Type 0
SavesNone (Run run) = (run.show ≡ Plain State) × From run.start (λ e s. LacksPoint run.limit s)
SavesNone _ = ⊥
