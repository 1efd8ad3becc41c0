-- What holds of accepted files, and of those that are written.
use Rattle.std.specs.Prelude.{◌≡◌, ℕ, ◌<◌, ◌≤◌, List, ◌++◌, slice_index, Some}
use Rattle.machine.specs.Keys.{Event as KeyEvent, held_at}
use Rattle.chip8_lang.specs.declared.view.Edition.{Edition}
use Rattle.chip8_lang.specs.Events.{events_behind}
use Rattle.chip8_image.specs.Interpreters.{interpreter_of}
use Rattle.vip_relation.specs.Follows.{Fits, last_dispatch}
use Rattle.vip_relation.specs.State.Start.{Saved}
use Rattle.vip_relation.specs.State.{Start, most_cycles}
use Rattle.vip_show.specs.Endings.{ending_of}
use Rattle.vip_show.specs.Output.{picture_pieces}
use Rattle.vip_show.specs.Runs.{events_in, run_of}
use Rattle.vip_text.specs.StateFile.{shown, IsAccepted}
use Rattle.vip_show.specs.StateOutput.{saved_file}
use Rattle.vip_show.specs.Written.{file_of}

-- ---- a run from any start, gone on with

-- two scripts hold the same keys in each cycle before this one
abbrev pub AgreeBefore : ℕ → List KeyEvent → List KeyEvent → Type 0
AgreeBefore t script other = (c k : ℕ) → c < t → held_at script c k ≡ held_at other c k

-- the pictures of a run
abbrev pub pictures_in : Edition → Start → List KeyEvent → ℕ → List (List ℕ)
pictures_in e s script limit = picture_pieces (interpreter_of e).rom (run_of e s script limit) (events_in e s script limit)

-- Up to a limit the run from a start is joined of that up to the cycle of a file's machine and of that from the file, whose first event, the dispatch
-- point that was saved, is the last one of the other: their events, and so their points cycle for cycle, and the bytes of their pictures. The run ends
-- as that from the file does, and what is saved of it is what is saved of that.
pub record Joins (e : Edition) (s : Start) (f : List ℕ) (script : List KeyEvent) (limit : ℕ) : Type 0 where
  pub events : events_in e s script limit ≡ events_in e s script (shown f).cycle ++ events_behind (interpreter_of e) script (shown f) limit
  pub pictures : pictures_in e s script limit ≡ pictures_in e s script (shown f).cycle ++ pictures_in e (Saved f) script limit
  pub ending : ending_of e (events_in e s script limit) ≡ ending_of e (events_in e (Saved f) script limit)
  pub file : saved_file e (events_in e s script limit) ≡ saved_file e (events_in e (Saved f) script limit)

-- A file that is saved of a run: its machine is that of the run's last dispatch point. Under every script that holds the same keys as the run's before
-- that point's cycle, up to every limit from this cycle on, the run is the same up to there, and is joined there with that from the file.
pub record IsGoneOnWith (e : Edition) (s : Start) (script : List KeyEvent) (limit : ℕ) (f : List ℕ) : Type 0 where
  pub accepted : IsAccepted e f
  pub shows : last_dispatch (events_in e s script limit) ≡ Some (shown f)
  pub same : (other : List KeyEvent) → AgreeBefore (shown f).cycle script other
      → events_in e s other (shown f).cycle ≡ events_in e s script (shown f).cycle
  pub joins : (other : List KeyEvent) → AgreeBefore (shown f).cycle script other → (later : ℕ) → (shown f).cycle ≤ later → Joins e s f other later

-- what is saved of a run from any start
abbrev pub SavedJoins : Type 0
SavedJoins =
    (e : Edition) (s : Start)
    → Fits e s
    → (script : List KeyEvent) (limit : ℕ)
    → limit ≤ most_cycles
    → (f : List ℕ)
    → saved_file e (events_in e s script limit) ≡ Some f
    → IsGoneOnWith e s script limit f

-- the state that an accepted file shows has that file
abbrev pub WritesTheSame : Type 0
WritesTheSame = (e : Edition) (f : List ℕ) → ((k : ℕ) → slice_index f k < 256) → IsAccepted e f → file_of e (shown f) ≡ f
