-- The run that goes on from a file is a run of CHIP-8 with its ending, by the law of the run from any machine state that may start.
use Rattle.std.proofs.Common.{ℕ, ◌+◌, ◌<◌, List, [], ◌∷◌, slice_index, refl, ap}
use Rattle.machine.specs.Board.{Machine}
use Rattle.machine.specs.Keys.{Event as KeyEvent}
use Rattle.chip8_lang.specs.declared.view.Edition.{Edition}
use Rattle.chip8_lang.specs.Events.{Event}
use Rattle.chip8_lang.specs.Events.Event.{Picture, Dispatch, Stopped}
use Rattle.chip8_lang.specs.Places.{state_of}
use Rattle.chip8_lang.specs.View.{opcode_at, view_at}
use Rattle.rom_law.specs.Language.{GoesOn}
use Rattle.rom_board.specs.Frames.{KeepsFrames}
use Rattle.rom_board.specs.Program.{IsRunBehind, numbered, program}
use Rattle.vip_show.specs.Endings.{ending_after}
use Rattle.vip_text.specs.StateFile.{shown, IsAccepted}
use Rattle.vip_text.specs.Endings.{Ending}
use Rattle.vip_text.specs.Endings.Ending.{AtStop}
use Rattle.vip_call.specs.Language.{named}

-- ---- the ending by the events behind a dispatch point

module _ (e : Edition) (script : List KeyEvent) (limit : ℕ) (run : List Machine) where
  -- behind the dispatch point b, by these events
  abbrev pub ending_behind : Machine → List Event → Ending
  ending_behind b events = ending_after e (view_at e b).pc (view_at e b).opcode events

  pub goes_on :
      (k : ℕ) (b : Machine) (events : List Event) → GoesOn (program e) script limit run numbered k b events
      → GoesOn (program e) script limit run (named e (ending_behind b events)) k b events
  unfolding ending_after view_at
  goes_on k b [] h = record { soon = h.soon; none_due = h.none_due; shown = h.shown; also_is = refl }
  goes_on k b (Picture m ∷ events) h = (h.0, h.1, goes_on (k + 1) b events h.2)
  goes_on k b (Dispatch c ∷ events) h = (h.0, h.1, goes_on k c events h.2)
  goes_on k b (Stopped c ∷ events) h =
      record {
        comes = h.comes;
        stop = h.stop;
        also_is = ap (λ stop. AtStop stop (state_of e b).pc (opcode_at e (state_of e b))) h.also_is;
        last = h.last;
      }

-- ---- the run from an accepted file

abbrev pub FromFile : Type 0
FromFile =
    (e : Edition) (f : List ℕ) → ((k : ℕ) → slice_index f k < 256) → IsAccepted e f → (script : List KeyEvent) (limit : ℕ)
    → IsRunBehind e (shown f) script limit numbered

-- which keeps to its frames
abbrev pub FramesFromFile : Type 0
FramesFromFile =
    (e : Edition) (f : List ℕ) → ((k : ℕ) → slice_index f k < 256) → IsAccepted e f → (script : List KeyEvent) → KeepsFrames (program e) script (shown f)
