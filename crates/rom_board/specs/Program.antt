-- The interpreter of an edition as the ROM's proof speaks of it, and the run of a game as a run of the language.
use Rattle.std.specs.Prelude.{◌≡◌, ℕ, List}
use Rattle.machine.specs.Board.{Machine}
use Rattle.machine.specs.Keys.{Event as KeyEvent, held_at}
use Rattle.machine.specs.Pictures.{windows_ended}
use Rattle.machine.specs.Run.{run_to}
use Rattle.chip8_lang.specs.declared.view.Edition.{Edition}
use Rattle.chip8_lang.specs.Events.{events_of, game_run, events_behind}
use Rattle.chip8_lang.specs.Places.{state_of}
use Rattle.rom_law.specs.Language.{Also, Begins, GoesOn}
use Rattle.rom_law.specs.Program.{Program, Dispatches, whole}
use Rattle.chip8_image.specs.Interpreters.{interpreter_of}
use Rattle.vip_relation.specs.Stops.{stop_at}

-- the interpreter of an edition, with the stops and the bounds of the whole language
abbrev pub program : Edition → Program
program e = whole e (interpreter_of e)

-- The stop that is read off the machine at a stop point is that of the state at the last dispatch point.
abbrev pub numbered : Also
numbered = record { at_limit = Unit {0}; at_stop = λ b c stop. stop_at c ≡ stop }

-- The run of a game under a script up to a limit is a run of CHIP-8: its first event is a dispatch point, where the board stands for the game's first
-- state; each next one comes by one step, with the timer ticks and the keys of the cycles between, and in time; the pictures are those of the frames
-- 0, 1, 2 and so on, each the screen at the last dispatch point before it; and a stop is that of the last state. A reader adds what it wants of the end.
abbrev pub IsRun : Edition → List ℕ → List KeyEvent → ℕ → Also → Type 0
IsRun e game script limit also =
    Begins (program e) script limit (game_run (interpreter_of e) game script limit) also game (events_of (interpreter_of e) game script limit)

-- The run from a machine state on is a run of CHIP-8: the board stands for the language state that lies in it; each dispatch point behind it comes by
-- one step, as in the run of a game; and so do its pictures, from the next frame on, and its stop.
pub record IsRunBehind (e : Edition) (b : Machine) (script : List KeyEvent) (limit : ℕ) (also : Also) : Type 0 where
  pub stands : Dispatches (program e) b (state_of e b)
  pub events :
      GoesOn (program e) script limit (run_to (interpreter_of e).rom (held_at script) b limit) also (windows_ended b.cycle) b
      (events_behind (interpreter_of e) script b limit)
