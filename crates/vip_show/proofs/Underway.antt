-- A run on its way: the events that are met, and what is left.
use Rattle.std.proofs.Common.{◌≡◌, ℕ, List, [], ◌∷◌, ◌++◌, refl, sym, ap, ◌∙◌, append-nil, append_assoc}
use Rattle.std.specs.Option.{option_map}
use Rattle.chip8_lang.specs.declared.view.StopRecord.{StopRecord}
use Rattle.chip8_lang.specs.Events.{Event}
use Rattle.chip8_lang.specs.Events.Event.{Picture, Dispatch, Stopped}
use Rattle.chip8_lang.specs.View.{view_at}
use Rattle.vip_relation.specs.Follows.{last_view}
use Rattle.vip_relation.specs.Meets.{HasStopped}
use Rattle.vip_relation.specs.State.{VipState, events_left, events_to, first_events, interpreter}
use Rattle.vip_relation.specs.Stops.{pc_of, opcode_of}
use Rattle.vip_relation.proofs.Meetings.{last-dispatched, last-kept}
use Rattle.vip_relation.proofs.Nexts.{Dispatched, Pictured, Halted, Ended}
use Rattle.vip_show.specs.Answers.{IsFresh}
use Rattle.vip_show.specs.Endings.{ending_after, ending_of}
use Rattle.vip_show.proofs.EventsShown.{ends-first, first-view, split-first}
use Rattle.vip_show.proofs.Endings.{last-told, ends-dispatch, ends-picture}
use Rattle.vip_show.proofs.Lists.{stop-last}
use Rattle.vip_text.specs.Endings.{ending_in}
use Rattle.vip_text.specs.Endings.Ending.{AtStop}
use Rattle.vip_text.specs.declared.ending.RunEnd.{RunEnd}
use Rattle.vip_text.specs.declared.ending.RunEnd.TheVariants as run

-- from a start up to v, of the events up to the limit these are met
pub record Underway (limit : ℕ) (start v : VipState) (done : List Event) : Type 0 where
  pub runs : HasStopped v → ⊥
  pub edition : v.edition ≡ start.edition
  pub split : events_to start limit ≡ done ++ events_left v limit
  pub last : v.last ≡ last_view start.edition done
  pub ends : ending_of start.edition (events_to start limit) ≡ ending_after start.edition (pc_of v.last) (opcode_of v.last) (events_left v limit)

-- up to its end: these are all events
pub record Through (limit : ℕ) (start v : VipState) (done : List Event) (end : RunEnd) : Type 0 where
  pub all : events_to start limit ≡ done
  pub last : v.last ≡ last_view start.edition done
  pub ending : ending_in end ≡ ending_of start.edition (events_to start limit)

module _ (limit : ℕ) (start : VipState) where
  pub under-first : IsFresh start → Underway limit start start (first_events start.start)
  under-first fresh = record {
    runs = fresh.runs;
    edition = refl;
    split = split-first start limit fresh.met;
    last = fresh.last ∙ first-view start.edition start.start;
    ends = ends-first start limit fresh;
  }

  module _ (v v' : VipState) (done : List Event) (u : Underway limit start v done) where
    -- what is left begins with this event: it is the next of all
    next : (event : Event) (rest : List Event) → events_left v limit ≡ event ∷ rest → events_to start limit ≡ (done ++ event ∷ []) ++ rest
    next event rest split = u.split ∙ ap (λ left. done ++ left) split ∙ sym (append_assoc done (event ∷ []) rest)

    pub under-dispatch : (d : Dispatched limit v v' (events_left v limit)) → Underway limit start v' (done ++ Dispatch d.b ∷ [])
    under-dispatch d = record {
      runs = d.meets.goes_on;
      edition = d.meets.one.same.edition ∙ u.edition;
      split = next (Dispatch d.b) d.rest d.split ∙ ap (λ left. (done ++ Dispatch d.b ∷ []) ++ left) (sym d.meets.one.left);
      last = last-told start.edition limit v v' u.edition d ∙ sym (ap (λ p. option_map (view_at start.edition) p) (last-dispatched done d.b));
      ends = u.ends ∙ ends-dispatch start.edition limit v v' u.edition d;
    }

    pub under-picture : (d : Pictured limit v v' (events_left v limit)) → Underway limit start v' (done ++ Picture d.m ∷ [])
    under-picture d = record {
      runs = d.meets.goes_on;
      edition = d.meets.one.same.edition ∙ u.edition;
      split = next (Picture d.m) d.rest d.split ∙ ap (λ left. (done ++ Picture d.m ∷ []) ++ left) (sym d.meets.one.left);
      last = d.meets.told.last ∙ u.last ∙ sym (ap (λ p. option_map (view_at start.edition) p) (last-kept done (Picture d.m) refl));
      ends = u.ends ∙ ends-picture start.edition limit v v' d;
    }

    -- at the limit all events are met
    pub through-end : (e : Ended limit v v' (events_left v limit)) → Through limit start v' done run.AtLimit
    through-end e = record {
      all = u.split ∙ ap (λ left. done ++ left) e.none ∙ append-nil done;
      last = e.ends.told.last ∙ u.last;
      ending = sym (u.ends ∙ ap (ending_after start.edition (pc_of v.last) (opcode_of v.last)) e.none ∙ (unfold ending_after in refl));
    }

    -- and at a stop
    pub through-stop : (stop : StopRecord) (h : Halted limit v v' (events_left v limit) stop)
        → Through limit start v' (done ++ Stopped h.b ∷ []) (run.AtStop stop)
    through-stop stop h = record {
      all =
          so_far
          ∙ ap (λ rest. done ++ Stopped h.b ∷ rest)
          (stop-last (interpreter start) start.start start.board.script limit done h.b h.rest so_far);
      last = h.meets.told.last ∙ u.last ∙ sym (ap (λ p. option_map (view_at start.edition) p) (last-kept done (Stopped h.b) refl));
      ending = sym (u.ends ∙ ap (ending_after start.edition (pc_of v.last) (opcode_of v.last)) h.split ∙ here);
    }
      where
        so_far : events_to start limit ≡ done ++ Stopped h.b ∷ h.rest
        so_far = u.split ∙ ap (λ left. done ++ left) h.split

        here : ending_after start.edition (pc_of v.last) (opcode_of v.last) (Stopped h.b ∷ h.rest) ≡ AtStop stop.stop stop.pc stop.opcode
        here = unfold ending_after in rw h.meets.stop refl
