-- What the run of a game says of the language: it is a run of CHIP-8, which keeps to its frames, and its ending names the stop and its instruction.
use Rattle.std.specs.Prelude.{◌≡◌, ℕ, List, Option, Ok}
use Rattle.machine.specs.Keys.{Event as KeyEvent}
use Rattle.chip8_lang.specs.declared.view.Edition.{Edition}
use Rattle.chip8_lang.specs.Places.{state_of}
use Rattle.chip8_lang.specs.View.{opcode_at}
use Rattle.rom_law.specs.Language.{Also}
use Rattle.rom_board.specs.Frames.{KeepsFrames}
use Rattle.rom_board.specs.Program.{IsRun, IsRunBehind, program}
use Rattle.vip_text.specs.StateFile.{shown}
use Rattle.vip_text.specs.Endings.{Ending}
use Rattle.vip_text.specs.Endings.Ending.{AtLimit, AtStop}
use Rattle.vip_relation.specs.State.{Start, machine_of}
use Rattle.vip_relation.specs.State.Start.{Reset, Saved}
use Rattle.vip_words.specs.declared.request.Request.TheVariants.{Run}
use Rattle.vip_tools.specs.Files.{Loaded}
use Rattle.vip_tools.specs.Outcome.{script_in}
use Rattle.vip_verbs.specs.Outcome.{OfRun, run_ending}

-- ---- a run

-- What a run's ending adds to its law: at the limit it is that one, and behind the dispatch point b it names the stop, with the pc and the opcode of
-- the state at b; a state of which the opcode can't be fetched has none.
abbrev pub named : Edition → Ending → Also
named e ending =
    record {
      at_limit = ending ≡ AtLimit;
      at_stop = λ b c stop. ending ≡ AtStop stop (state_of e b).pc (opcode_at e (state_of e b));
    }

-- The run from a start under a script up to a limit is a run of CHIP-8 with this ending: that of a game from reset, and from a file, whoever wrote it, the
-- one behind the language state that lies in its machine.
abbrev pub IsChip8 : Edition → Start → List KeyEvent → ℕ → Ending → Type 0
IsChip8 e (Reset game) script limit ending = IsRun e game script limit (named e ending)
IsChip8 e (Saved file) script limit ending = IsRunBehind e (shown file) script limit (named e ending)

-- ---- a command

-- a run of CHIP-8, which keeps to its frames; its status and its report are told in the language's time
pub record RunIsChip8 (e : Edition) (s : Start) (keys : Option (List ℕ)) (limit : ℕ) : Type 0 where
  pub script : List KeyEvent
  pub reads : script_in keys ≡ Ok script
  pub run : IsChip8 e s script limit (run_ending e s script limit)
  pub frames : KeepsFrames (program e) script (machine_of s)

-- what a request runs, where it runs a game
abbrev pub ShowsChip8 : Loaded → Type 0
ShowsChip8 (Run run) = OfRun run.start (λ e s. RunIsChip8 e s run.keys run.limit)
ShowsChip8 _ = Unit {0}
