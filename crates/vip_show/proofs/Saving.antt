-- A run on its way whose last dispatch point is saved.
use Rattle.std.proofs.Common.{◌≡◌, ℕ, List, [], ◌∷◌, ◌++◌, refl, sym, ap, ◌∙◌}
use Rattle.std.specs.Prelude.{Option, Some, None, unwrap_or, Result, Ok, Err, IsErr}
use Rattle.std.specs.Option.{option_map}
use Rattle.machine.specs.Board.{Machine}
use Rattle.chip8_lang.specs.declared.view.Edition.{Edition}
use Rattle.chip8_lang.specs.declared.view.StopRecord.{StopRecord}
use Rattle.chip8_lang.specs.Events.{Event}
use Rattle.chip8_lang.specs.Events.Event.{Picture, Dispatch, Stopped}
use Rattle.chip8_lang.specs.View.{view_at}
use Rattle.vip_outside.specs.Sink.{SinkMeaning, PutsWhole, PutFails}
use Rattle.vip_outside.specs.declared.sink.Failed.{Failed}
use Rattle.vip_outside.proofs.PiecesLemmas.{PutsAll-nil, PutsAll-one, FailsWithin-snoc}
use Rattle.vip_relation.specs.Follows.{last_dispatch, last_view}
use Rattle.vip_relation.specs.State.Start.{Reset, Saved}
use Rattle.vip_relation.specs.State.{Start, VipState, events_left, events_to, first_events, first_view, machine_of}
use Rattle.vip_relation.proofs.Meetings.{last-dispatched, last-kept}
use Rattle.vip_relation.proofs.Nexts.{Dispatched, Pictured, Halted, Ended}
use Rattle.vip_show.specs.Answers.{IsFresh}
use Rattle.vip_show.specs.Endings.{ending_of}
use Rattle.vip_show.proofs.EventsShown.{none-first}
use Rattle.vip_show.proofs.Underway.{Underway, Through, under-first, under-dispatch, under-picture, through-end, through-stop}
use Rattle.vip_text.specs.declared.ending.RunEnd.{RunEnd}
use Rattle.vip_text.specs.declared.ending.RunEnd.TheVariants as run
use Rattle.vip_show.specs.StateOutput.{saved_file, KeepsFile, SavedAnswers}
use Rattle.vip_show.specs.Written.{file_of}

-- ---- on its way

-- of the events met the last dispatch point is saved in these bytes
pub record Saving (limit : ℕ) (start v : VipState) (bytes : List ℕ) : Type 0 where
  pub done : List Event
  pub under : Underway limit start v done
  pub bytes_are : bytes ≡ unwrap_or (saved_file start.edition done) []

-- the last dispatch point among events with one more
file-with : (e : Edition) (events : List Event) (b : Option Machine) → last_dispatch events ≡ b
    → unwrap_or (saved_file e events) [] ≡ unwrap_or (option_map (file_of e) b) []
file-with e events b is = ap (λ b. unwrap_or (option_map (file_of e) b) []) is

module _ (limit : ℕ) (start : VipState) where
  pub saving-first : (bytes : List ℕ) → IsFresh start → bytes ≡ unwrap_or (saved_file start.edition (first_events start.start)) []
      → Saving limit start start bytes
  saving-first bytes fresh first = record { done = first_events start.start; under = under-first limit start fresh; bytes_are = first }

  module _ (v v' : VipState) (bytes : List ℕ) (g : Saving limit start v bytes) where
    pub saving-dispatch : (d : Dispatched limit v v' (events_left v limit)) (bytes' : List ℕ) → bytes' ≡ file_of v'.edition v'.board.machine
        → Saving limit start v' bytes'
    saving-dispatch d bytes' is = record {
      done = g.done ++ Dispatch d.b ∷ [];
      under = under-dispatch limit start v v' g.done g.under d;
      bytes_are =
          is
          ∙ ap (λ e. file_of e v'.board.machine) (d.meets.one.same.edition ∙ g.under.edition)
          ∙ ap (file_of start.edition) d.meets.machine
          ∙ sym (file-with start.edition (g.done ++ Dispatch d.b ∷ []) (Some d.b) (last-dispatched g.done d.b));
    }

    pub saving-picture : (d : Pictured limit v v' (events_left v limit)) → Saving limit start v' bytes
    saving-picture d = record {
      done = g.done ++ Picture d.m ∷ [];
      under = under-picture limit start v v' g.done g.under d;
      bytes_are =
          g.bytes_are ∙ sym (file-with start.edition (g.done ++ Picture d.m ∷ []) (last_dispatch g.done) (last-kept g.done (Picture d.m) refl));
    }

    -- up to its end
    kept-through : (done : List Event) (end : RunEnd) → Through limit start v' done end → bytes ≡ unwrap_or (saved_file start.edition done) []
        → KeepsFile start limit v' bytes end
    kept-through done end t is = record {
      last = t.last ∙ ap (last_view start.edition) (sym t.all);
      bytes_are = is ∙ ap (λ events. unwrap_or (saved_file start.edition events) []) (sym t.all);
      ending = t.ending;
    }

    pub kept-end : (e : Ended limit v v' (events_left v limit)) → KeepsFile start limit v' bytes run.AtLimit
    kept-end e = kept-through g.done run.AtLimit (through-end limit start v v' g.done g.under e) g.bytes_are

    pub kept-stop : (stop : StopRecord) (h : Halted limit v v' (events_left v limit) stop) → KeepsFile start limit v' bytes (run.AtStop stop)
    kept-stop stop h =
        kept-through (g.done ++ Stopped h.b ∷ []) (run.AtStop stop) (through-stop limit start v v' g.done g.under stop h)
        (g.bytes_are ∙ sym (file-with start.edition (g.done ++ Stopped h.b ∷ []) (last_dispatch g.done) (last-kept g.done (Stopped h.b) refl)))

-- ---- the start

-- the file of the dispatch point at which a run begins that tells of one
pub first-file : (v : VipState) → IsFresh v → (v.last ≡ None → ⊥) → (bytes : List ℕ) → bytes ≡ file_of v.edition v.board.machine
    → bytes ≡ unwrap_or (saved_file v.edition (first_events v.start)) []
first-file v fresh some bytes is = by_start v.start refl
  where
    by_start : (s : Start) → v.start ≡ s → bytes ≡ unwrap_or (saved_file v.edition (first_events v.start)) []
    by_start (Reset game) at = absurd (some (fresh.last ∙ ap (first_view v.edition) at))
    by_start (Saved file) at =
        is ∙ ap (file_of v.edition) (fresh.stands file at ∙ ap machine_of at)
        ∙ sym (ap (λ s. unwrap_or (saved_file v.edition (first_events s)) []) at)

-- and of one that tells of none
pub first-none : (v : VipState) → IsFresh v → v.last ≡ None → (bytes : List ℕ) → bytes ≡ []
    → bytes ≡ unwrap_or (saved_file v.edition (first_events v.start)) []
first-none v fresh none bytes empty =
    empty ∙ ap (λ events. unwrap_or (saved_file v.edition events) []) (sym (none-first v fresh none))

-- ---- what goes out

module _ (limit : ℕ) (old new : VipState) (bytes : List ℕ) (end : RunEnd) (k : KeepsFile old limit new bytes end) where
  abbrev events : List Event
  events = events_to old limit

  -- no dispatch point was met
  none_met : (last : Option Machine) → option_map (view_at old.edition) last ≡ None → last ≡ None
  none_met None h = refl
  none_met (Some b) h = cc

  pub saves-none : (out : SinkMeaning) → new.last ≡ None → SavedAnswers (saved_file old.edition events) (ending_of old.edition events) out out (Ok None)
  saves-none out none = rw (none_met (last_dispatch events) (sym k.last ∙ none)) refl

  -- one was
  record Met : Type 0 where
    b : Machine
    is : last_dispatch events ≡ Some b
    file : bytes ≡ file_of old.edition b

  one_met : (new.last ≡ None → ⊥) → Met
  one_met some = go (last_dispatch events) refl k.last k.bytes_are
    where
      go : (last : Option Machine) → last_dispatch events ≡ last → new.last ≡ option_map (view_at old.edition) last
          → bytes ≡ unwrap_or (option_map (file_of old.edition) last) [] → Met
      go None is h same = absurd (some h)
      go (Some b) is h same = record { b = b; is = is; file = same }

  module _ (some : new.last ≡ None → ⊥) (out out' : SinkMeaning) (piece : List ℕ) (is : piece ≡ bytes) where
    file_is : saved_file old.edition events ≡ Some piece
    file_is =
        let m : Met = one_met some in
        ap (option_map (file_of old.edition)) m.is ∙ ap Some (sym (is ∙ m.file))

    pub saves-one : PutsWhole piece out out' → SavedAnswers (saved_file old.edition events) (ending_of old.edition events) out out' (Ok (Some end))
    saves-one put = rw file_is (PutsAll-one piece out out' put, k.ending)

    -- a put that fails, whatever error is passed on
    pub save-fails : (r : Result (Option RunEnd) Failed) → IsErr r → PutFails piece out out'
        → SavedAnswers (saved_file old.edition events) (ending_of old.edition events) out out' r
    save-fails (Ok end) bad fault = cc
    save-fails (Err e) bad fault = rw file_is (FailsWithin-snoc [] piece [] out out out' (PutsAll-nil out) fault)

-- what is told of
pub told : {X : Type 0} (last : Option X) (x : X) → last ≡ Some x → last ≡ None → ⊥
told last x is none = cc
