-- What a run tells of the last dispatch point met, after a call: what it told before, unless it came to one.
use Rattle.std.proofs.Common.{◌≡◌, ◌⊎◌, inl, inr, ℕ, zero, suc, ◌<◌, Bool, true, false, List, [], ◌∷◌, Some, None, length, replicate, refl, sym, ap, ◌∙◌, subst, arith}
use Rattle.std.specs.Option.{option_map}
use Rattle.chip8_lang.specs.Events.{Event, is_stop}
use Rattle.chip8_lang.specs.Events.Event.{Picture, Dispatch, Stopped}
use Rattle.chip8_lang.specs.View.{View, seen, view_at}
use Rattle.vip_relation.specs.State.{Start, VipState, begun, first_screen, first_view, interpreter, machine_of, events_left, events_waiting, screen_size, screen_bytes}
use Rattle.vip_relation.specs.State.Start.{Reset, Saved}
use Rattle.vip_relation.specs.Follows.{Follows}
use Rattle.vip_relation.specs.Meets.{IsSame, TellsSame, MeetsNext, HasStopped, StopsAgain}
use Rattle.vip_board.specs.Moves.{IfDone}
use Rattle.vip_board.specs.declared.board.Moved.{Moved}
use Rattle.vip_board.specs.declared.board.Moved.TheVariants.{Done, End}
use Rattle.vip_relation.specs.Parts.{Runs, Steps}
use Rattle.vip_relation.specs.Told.{KeepsLast}
use Rattle.vip_relation.specs.declared.run.Met.{Met}
use Rattle.vip_relation.specs.declared.run.Met.TheVariants as met
use Rattle.vip_relation.specs.declared.vip.Vip.TheInside.{Inside}
use Rattle.vip_relation.proofs.Nexts.{at_dispatch}

-- ---- an event that is no dispatch point

-- what is told stays
pub record StaysTold (v w : VipState) : Type 0 where
  pub same : IsSame v w
  pub told : TellsSame v w

pub stays : (limit : ℕ) (v w : VipState) (es : List Event) (answer : Met) → (answer ≡ met.Dispatch → ⊥) → MeetsNext limit v w es answer → StaysTold v w
stays limit v w es met.Dispatch other m = absurd (other refl)
stays limit v w [] met.Picture other m = absurd m
stays limit v w [] (met.Stopped stop) other m = absurd m
stays limit v w [] met.End other m = record { same = m.same; told = m.told }
stays limit v w (Picture k ∷ es) met.Picture other m = record { same = m.one.same; told = m.told }
stays limit v w (Picture k ∷ es) (met.Stopped stop) other m = absurd m
stays limit v w (Picture k ∷ es) met.End other m = absurd m
stays limit v w (Dispatch b ∷ es) met.Picture other m = absurd m
stays limit v w (Dispatch b ∷ es) (met.Stopped stop) other m = absurd m
stays limit v w (Dispatch b ∷ es) met.End other m = absurd m
stays limit v w (Stopped b ∷ es) met.Picture other m = absurd m
stays limit v w (Stopped b ∷ es) (met.Stopped stop) other m = record { same = m.one.same; told = m.told }
stays limit v w (Stopped b ∷ es) met.End other m = absurd m

-- a stop that was met comes again, or the next event
stopped_or_not : (v : VipState) → HasStopped v ⊎ (HasStopped v → ⊥)
stopped_or_not v = by_test (is_stop (interpreter v) v.board.machine) (events_waiting v) refl refl
  where
    some_wait : (e : Event) (es : List Event) → events_waiting v ≡ e ∷ es → events_waiting v ≡ [] → ⊥
    some_wait e es some none = let bad : e ∷ es ≡ [] = sym some ∙ none in cc

    not_both : is_stop (interpreter v) v.board.machine ≡ false → is_stop (interpreter v) v.board.machine ≡ true → ⊥
    not_both runs stop = cc

    by_test : (stop : Bool) (waiting : List Event) → is_stop (interpreter v) v.board.machine ≡ stop → events_waiting v ≡ waiting
        → HasStopped v ⊎ (HasStopped v → ⊥)
    by_test true [] stop none = inl (record { stop = stop; met = none })
    by_test true (e ∷ es) stop some = inr (λ s. some_wait e es some s.met)
    by_test false waiting runs is = inr (λ s. not_both runs s.stop)

pub stays-by : (limit : ℕ) (v w : VipState) (answer : Met) → (answer ≡ met.Dispatch → ⊥) → (HasStopped v → StopsAgain v w answer)
    → ((HasStopped v → ⊥) → MeetsNext limit v w (events_left v limit) answer) → StaysTold v w
stays-by limit v w answer other again next = by_case (stopped_or_not v)
  where
    by_case : HasStopped v ⊎ (HasStopped v → ⊥) → StaysTold v w
    by_case (inl stopped) =
        let is = (again stopped).same in
        record {
          same =
              record {
                edition = ap (λ (x : VipState). x.edition) is;
                start = ap (λ (x : VipState). x.start) is;
                script = ap (λ (x : VipState). x.board.script) is;
              };
          told = record { last = ap (λ (x : VipState). x.last) is; shown = ap (λ (x : VipState). x.shown) is };
        }
    by_case (inr running) = stays limit v w (events_left v limit) answer other (next running)

pub runs-on : (v w : VipState) → (HasStopped v → StopsAgain v w met.Dispatch) → HasStopped v → ⊥
runs-on v w again stopped = differ _ (again stopped).stop
  where
    differ : (stop : _) → met.Dispatch ≡ met.Stopped stop → ⊥
    differ stop h = cc

-- ---- the fields

pub tells-same : (a : Inside) → KeepsLast a → (w : VipState) → Follows w → StaysTold a.run w → KeepsLast (record a { run = w })
tells-same a t w follows s =
    record {
      follows = follows;
      last = t.last ∙ sym s.told.last;
      shown = t.shown ∙ sym s.told.shown;
      size = t.size ∙ ap screen_size (sym s.same.edition);
    }

-- at a dispatch point what is kept was read off the board
pub tells-here : (limit : ℕ) (v : VipState) (a : Inside) → Follows a.run → MeetsNext limit v a.run (events_left v limit) met.Dispatch
    → option_map seen a.last ≡ Some (view_at a.run.edition a.run.board.machine) → a.shown.items ≡ screen_bytes a.run.edition a.run.board.machine
    → length a.shown.items ≡ screen_size a.run.edition → KeepsLast a
tells-here limit v a follows next last shown size =
    let d = at_dispatch limit v a.run (events_left v limit) next in
    record {
      follows = follows;
      last =
          last ∙ ap (λ e. Some (view_at e a.run.board.machine)) d.meets.one.same.edition ∙ ap (λ b. Some (view_at v.edition b)) d.meets.machine
          ∙ sym d.meets.last;
      shown = shown ∙ ap (λ e. screen_bytes e a.run.board.machine) d.meets.one.same.edition ∙ ap (screen_bytes v.edition) d.meets.machine ∙ sym d.meets.shown;
      size = size;
    }

-- a move, which meets nothing
pub tells-moved : (a : Inside) → KeepsLast a → (w : VipState) (moved : Moved) → Follows w → (moved ≡ End → w ≡ a.run) → IfDone moved (λ name. Steps a.run w name)
    → KeepsLast (record a { run = w })
tells-moved a t w End follows rests made = subst (λ v. KeepsLast (record a { run = v })) (sym (rests refl)) t
tells-moved a t w (Done name) follows rests made =
    tells-same a t w follows
    (record {
      same =
          record {
            edition = ap (λ (v : VipState). v.edition) made.state;
            start = ap (λ (v : VipState). v.start) made.state;
            script = ap (λ (v : VipState). v.board.script) made.state;
          };
      told = record { last = ap (λ (v : VipState). v.last) made.state; shown = ap (λ (v : VipState). v.shown) made.state };
    })

-- moves up to an event, which meet nothing either
pub tells-run : (a : Inside) → KeepsLast a → (limit : ℕ) (w : VipState) (n : ℕ) → Follows w → (n ≡ 0 → w ≡ a.run) → (0 < n → Runs limit a.run w)
    → KeepsLast (record a { run = w })
tells-run a t limit w zero follows rests runs = subst (λ v. KeepsLast (record a { run = v })) (sym (rests refl)) t
tells-run a t limit w (suc n) follows rests runs =
    let run = runs (omega arith) in
    tells-same a t w follows
    (record {
      same =
          record {
            edition = ap (λ (v : VipState). v.edition) run.steps.state ∙ ap (λ (v : VipState). v.edition) run.passes.state;
            start = ap (λ (v : VipState). v.start) run.steps.state ∙ ap (λ (v : VipState). v.start) run.passes.state;
            script = ap (λ (v : VipState). v.board.script) run.steps.state ∙ run.passes.script;
          };
      told =
          record {
            last = ap (λ (v : VipState). v.last) run.steps.state ∙ ap (λ (v : VipState). v.last) run.passes.state;
            shown = ap (λ (v : VipState). v.shown) run.steps.state ∙ ap (λ (v : VipState). v.shown) run.passes.state;
          };
    })

-- ---- a run as it begins

-- with a game nothing is told, and of a file its own dispatch point
pub begins-dark : (v : VipState) → v ≡ begun v.edition v.start v.board.script → option_map (λ (view : View). view.pc) v.last ≡ None
    → (v.last ≡ None) × (v.shown ≡ replicate (screen_size v.edition) 0)
begins-dark v begins none =
    let first = by_start v.start (ap (λ (w : VipState). option_map (λ (view : View). view.pc) w.last) (sym begins) ∙ none) in
    (ap (λ (w : VipState). w.last) begins ∙ first.0, ap (λ (w : VipState). w.shown) begins ∙ first.1)
  where
    by_start : (s : Start) → option_map (λ (view : View). view.pc) (first_view v.edition s) ≡ None
        → (first_view v.edition s ≡ None) × (first_screen v.edition s ≡ replicate (screen_size v.edition) 0)
    by_start (Reset game) is = (refl, refl)
    by_start (Saved file) is = cc

pub begins-told : (v : VipState) → v ≡ begun v.edition v.start v.board.script → (pc : ℕ) → option_map (λ (view : View). view.pc) v.last ≡ Some pc
    → (v.last ≡ Some (view_at v.edition v.board.machine)) × (v.shown ≡ screen_bytes v.edition v.board.machine)
begins-told v begins pc some =
    let first = by_start v.start (ap (λ (w : VipState). option_map (λ (view : View). view.pc) w.last) (sym begins) ∙ some) in
    let machine = ap (λ (w : VipState). w.board.machine) begins in (
      ap (λ (w : VipState). w.last) begins ∙ first.0 ∙ ap (λ b. Some (view_at v.edition b)) (sym machine),
      ap (λ (w : VipState). w.shown) begins ∙ first.1 ∙ ap (screen_bytes v.edition) (sym machine),
    )
  where
    by_start : (s : Start) → option_map (λ (view : View). view.pc) (first_view v.edition s) ≡ Some pc
        → (first_view v.edition s ≡ Some (view_at v.edition (machine_of s))) × (first_screen v.edition s ≡ screen_bytes v.edition (machine_of s))
    by_start (Reset game) is = cc
    by_start (Saved file) is = (refl, refl)
