-- The events of a run of the board are those of a run of the language's time, one for one.
use Rattle.std.specs.Prelude.{◌≡◌, ℕ, ◌<◌, ◌≤◌, List, [], ◌∷◌, length, slice_index}
use Rattle.machine.specs.Board.{Machine}
use Rattle.machine.specs.Keys.{Event as KeyEvent, held_at}
use Rattle.machine.specs.Pictures.{picture_of, windows_ended}
use Rattle.machine.specs.Run.{run_to}
use Rattle.chip8_lang.specs.declared.view.Edition.{Edition}
use Rattle.chip8_lang.specs.Events.{Event, events_of, events_behind, game_run}
use Rattle.chip8_lang.specs.Events.Event.{Picture, Dispatch, Stopped}
use Rattle.chip8_lang.specs.State.{memory_size}
use Rattle.chip8_lang.specs.Timed.{Shown, shown_behind, timed_run}
use Rattle.chip8_lang.specs.Timed.Shown.{Picture as TimedPicture, Point, End}
use Rattle.rom_law.specs.Pictures.{ShowsScreen}
use Rattle.rom_law.specs.Program.{Program, Dispatches, Halts}
use Rattle.rom_law.specs.Runs.{state_at}
use Rattle.rom_rows.specs.Rom.{image, vip}
use Rattle.rom_run.specs.States.{MayStart}

-- As many events as the timed run shows, in the same order: a picture is that of the same frame, and shows the screen; a dispatch point is in the same
-- cycle, and the machine stands for the state; so is the stop, where the machine has its number.
abbrev pub AreShown : Program → List Machine → List Event → List Shown → Type 0
AreShown x run [] [] = Unit {0}
AreShown x run (Picture m ∷ events) (TimedPicture n screen ∷ shown) =
    (m ≡ n) × ShowsScreen x.edition (picture_of x.interpreter.rom run m) screen × AreShown x run events shown
AreShown x run (Dispatch b ∷ events) (Point t s ∷ shown) = (b.cycle ≡ t) × Dispatches x b s × AreShown x run events shown
AreShown x run (Stopped b ∷ events) (End t s stop ∷ shown) = (b.cycle ≡ t) × Halts x b s stop × AreShown x run events shown
AreShown x run _ _ = ⊥

-- the events of the run of each game from reset
abbrev pub EveryTime : Type 0
EveryTime =
    (e : Edition) (game : List ℕ)
    → length game ≤ memory_size e
    → ((i : ℕ) → slice_index game i < 256)
    → (script : List KeyEvent) (limit : ℕ)
    → AreShown (vip e) (game_run (vip e).interpreter game script limit) (events_of (vip e).interpreter game script limit) (timed_run e script limit game)

-- and those behind any machine that may start
abbrev pub EveryTimeBehind : Type 0
EveryTimeBehind =
    (e : Edition) (b : Machine)
    → MayStart e b
    → (script : List KeyEvent) (limit : ℕ)
    → AreShown (vip e) (run_to (image e) (held_at script) b limit) (events_behind (vip e).interpreter script b limit)
    (shown_behind e script limit limit (windows_ended b.cycle) b.cycle (state_at (vip e) b))
