-- The run from a start is a run of CHIP-8 with its ending, by the law of every run.
use Rattle.std.proofs.Common.{ℕ, List, [], ◌∷◌, ◌++◌, Option, refl}
use Rattle.machine.specs.Board.{Machine}
use Rattle.machine.specs.Keys.{Event as KeyEvent}
use Rattle.machine.specs.Pictures.{windows_ended}
use Rattle.chip8_lang.specs.declared.view.Edition.{Edition}
use Rattle.chip8_lang.specs.Events.{Event, events_behind}
use Rattle.chip8_lang.specs.Events.Event.{Picture, Dispatch, Stopped}
use Rattle.chip8_image.specs.Interpreters.{interpreter_of}
use Rattle.rom_law.specs.Language.{Begins as BeginsRun}
use Rattle.rom_board.specs.Frames.{KeepsFrames}
use Rattle.rom_board.specs.Laws.{EveryFrame, EveryRun}
use Rattle.rom_board.specs.Program.{numbered, program}
use Rattle.vip_relation.specs.Follows.{Fits}
use Rattle.vip_relation.specs.State.{Start, machine_of}
use Rattle.vip_relation.specs.State.Start.{Reset, Saved}
use Rattle.vip_show.specs.Endings.{ending_after, ending_of}
use Rattle.vip_text.specs.StateFile.{shown}
use Rattle.vip_words.specs.declared.request.Request.TheVariants as request
use Rattle.vip_words.specs.declared.request.Show.{Show}
use Rattle.vip_words.specs.declared.request.Show.TheVariants as show
use Rattle.vip_tools.specs.Files.{Loaded, needed, script_files, show_files}
use Rattle.vip_call.specs.Language.{named, IsChip8, RunIsChip8, ShowsChip8}
use Rattle.vip_tools.specs.Judged.Verdict.{Given}
use Rattle.vip_tools.specs.Outcome.{Outcome, Output}
use Rattle.vip_tools.specs.Code.{Known}
use Rattle.vip_verbs.specs.Outcome.{known_in, HasOutcome, RunTo, ShowComes, run_ending}
use Rattle.vip_show.specs.Runs.{events_in, run_of}
use Rattle.vip_call.specs.Top.{Call, SpeaksChip8}
use Rattle.vip_call.proofs.FilledLemmas.{AreGiven, are_given}
use Rattle.vip_call.proofs.GivenStarts.{begun_so}
use Rattle.vip_call.proofs.ResumedLemmas.{FramesFromFile, FromFile, goes_on}

-- ---- the ending by the events of a run

module _ (e : Edition) (script : List KeyEvent) (limit : ℕ) (run : List Machine) where
  begins :
      (game : List ℕ) (events : List Event) → BeginsRun (program e) script limit run numbered game events
      → BeginsRun (program e) script limit run (named e (ending_of e events)) game events
  unfolding ending_after
  begins game [] h = (h.0, refl)
  begins game (Picture m ∷ events) h = absurd h
  begins game (Dispatch b ∷ events) h = (h.0, h.1, h.2, goes_on e script limit run 0 b events h.3)
  begins game (Stopped b ∷ events) h = absurd h

module _ (law : EveryRun) (from : FromFile) where
  pub is_chip8 : (e : Edition) (s : Start) → Fits e s → (script : List KeyEvent) (limit : ℕ) → IsChip8 e s script limit (run_ending e s script limit)
  unfolding ending_after
  is_chip8 e (Reset game) fits script limit =
      begins e script limit (run_of e (Reset game) script limit) game (events_in e (Reset game) script limit) (law e game fits.fits fits.bytes script limit)
  is_chip8 e (Saved f) fits script limit =
      let r = from e f fits.bytes fits.accepted script limit in
      record {
        stands = r.stands;
        events =
            goes_on e script limit (run_of e (Saved f) script limit) (windows_ended (shown f).cycle) (shown f)
            (events_behind (interpreter_of e) script (shown f) limit) r.events;
      }

-- ---- a command

module _ (law : EveryRun) (from : FromFile) (frames : EveryFrame) (frames_from : FramesFromFile) where
  keeps_frames : (e : Edition) (s : Start) → Fits e s → (script : List KeyEvent) → KeepsFrames (program e) script (machine_of s)
  keeps_frames e (Reset game) fits script = frames e game fits.fits fits.bytes script
  keeps_frames e (Saved f) fits script = frames_from e f fits.bytes fits.accepted script

  -- whatever comes of a script, the run is one of CHIP-8
  of_run :
      (e : Edition) (s : Start) → Fits e s → (keys : Option (List ℕ)) (limit : ℕ) (outcome : List KeyEvent → Outcome) (output : Output)
      → RunTo e keys outcome (Given output) → RunIsChip8 e s keys limit
  of_run e s fits keys limit outcome output comes = record {
    script = comes.value;
    reads = comes.gives;
    run = is_chip8 law from e s fits comes.value limit;
    frames = keeps_frames e s fits comes.value;
  }

  shows_as :
      (known : Known) (e : Edition) (s : Start) → Fits e s → (keys : Option (List ℕ)) (limit : ℕ) (shown_as : Show (List ℕ)) (output : Output)
      → ShowComes known e s keys limit shown_as (Given output) → RunIsChip8 e s keys limit
  shows_as known e s fits keys limit (show.Commands text echo columns) output comes = of_run e s fits keys limit _ output comes.here
  shows_as known e s fits keys limit (show.Plain shown) output comes = of_run e s fits keys limit _ output comes

  shows : (loaded : Loaded) (output : Output) → AreGiven (needed loaded) → HasOutcome loaded (Given output) → ShowsChip8 loaded
  shows (request.Run run) output given comes =
      begun_so output (λ e s. ShowComes (known_in run.start) e s run.keys run.limit run.show) (λ e s. RunIsChip8 e s run.keys run.limit)
      (λ e s fits comes. shows_as _ e s fits run.keys run.limit run.show output comes)
      run.start (show_files run.show ++ script_files run.keys) given comes
  shows _ output given comes = tt

  pub speaks_chip8 : (call : Call) → SpeaksChip8 call
  speaks_chip8 call asked loaded pieces status report asks comes =
      shows loaded (record { pieces = pieces; status = status; report = report }) (are_given call.files asked loaded asks.shape asks.read) comes
