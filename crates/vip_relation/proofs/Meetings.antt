-- A run, after one event more is met.
use Rattle.std.proofs.Common.{◌≡◌, Bool, true, false, ℕ, zero, suc, ◌+◌, ◌-◌, ◌≤◌, List, [], ◌∷◌, ◌++◌, length, take, drop, refl, sym, ap, ◌∙◌, subst, arith, append-nil, length-append, add-one, Option, Some, None, replicate}
use Rattle.std.specs.Prelude.{slice_get, filter_map}
use Rattle.std.specs.Option.{option_map, option_map_or}
use Rattle.std.proofs.lemmas.List.Elements.{filter_map-append}
use Rattle.machine.specs.Board.{Machine}
use Rattle.machine.specs.Keys.{held_at}
use Rattle.machine.specs.Pictures.{picture_of}
use Rattle.chip8_lang.specs.Events.{Event, is_dispatch, is_stop}
use Rattle.chip8_lang.specs.Events.Event.{Picture, Dispatch, Stopped}
use Rattle.chip8_lang.specs.View.{View, view_at}
use Rattle.vip_relation.specs.State.{VipState, machine_of, interpreter, events_to, events_left, events_met, events_waiting, run_of, states_before, screen_size, screen_bytes}
use Rattle.vip_relation.specs.Stops.{stop_record}
use Rattle.vip_relation.specs.Follows.{Follows, dispatch_of, last_dispatch, last_view, last_screen}
use Rattle.vip_relation.specs.Points.{point_of, point_events}
use Rattle.vip_relation.specs.declared.point.Point.TheVariants.{Dispatch as DispatchPoint, Stop as StopPoint, Other as OtherPoint}
use Rattle.std.specs.Prelude.{if◌then◌else◌}
use Rattle.vip_relation.specs.Meets.{MeetsOne, MeetsNext, HasStopped}
use Rattle.vip_relation.specs.Parts.{MeetsFirst}
use Rattle.vip_relation.specs.Kept.{PictureWaits}
use Rattle.vip_relation.specs.declared.point.Point.{Point}
use Rattle.vip_relation.specs.declared.run.Met.{Met}
use Rattle.vip_relation.specs.declared.run.Met.TheVariants.{Picture as PictureMet, Dispatch as DispatchMet, Stopped as StoppedMet}
use Rattle.vip_board.proofs.Along.{run-split, later-run, picture-later}
use Rattle.vip_relation.proofs.Past.{onward}
use Rattle.vip_relation.proofs.Steps.{Others, others-to, at_state}

-- ---- one more of a list

pub record Takes (n : ℕ) (xs : List Event) (e : Event) (es : List Event) : Type 0 where
  pub taken : take (n + 1) xs ≡ take n xs ++ e ∷ []
  pub left : drop (n + 1) xs ≡ es
  pub within : n + 1 ≤ length xs

takes_suc : (n : ℕ) (xs : List Event) (e : Event) (es : List Event) → drop n xs ≡ e ∷ es
    → (take (suc n) xs ≡ take n xs ++ e ∷ []) × (drop (suc n) xs ≡ es) × (suc n ≤ length xs)
takes_suc zero [] e es h = cc
takes_suc zero (x ∷ xs) e es h = (ap (λ y. y ∷ []) (heads h), tails h, omega arith)
  where
    heads : x ∷ xs ≡ e ∷ es → x ≡ e
    heads h = cc

    tails : x ∷ xs ≡ e ∷ es → xs ≡ es
    tails h = cc
takes_suc (suc n) [] e es h = cc
takes_suc (suc n) (x ∷ xs) e es h =
    let t = takes_suc n xs e es h in
    (ap (λ ys. x ∷ ys) t.0, t.1, omega (arith, t.2))

pub takes : (n : ℕ) (xs : List Event) (e : Event) (es : List Event) → drop n xs ≡ e ∷ es → Takes n xs e es
takes n xs e es h =
    let t = takes_suc n xs e es h in
    record {
      taken = ap (λ k. take k xs) (add-one n) ∙ t.0;
      left = ap (λ k. drop k xs) (add-one n) ∙ t.1;
      within = omega (arith, t.2);
    }

-- ---- the last dispatch point, with one event more

last_of_more : (xs : List Machine) (b : Machine) → slice_get (xs ++ b ∷ []) (length (xs ++ b ∷ []) - 1) ≡ Some b
last_of_more xs b =
    ap (λ n. slice_get (xs ++ b ∷ []) (n - 1)) (length-append xs (b ∷ [])) ∙ ap (λ n. slice_get (xs ++ b ∷ []) n) (one_less (length xs)) ∙ at_end xs
  where
    one_less : (n : ℕ) → n + 1 - 1 ≡ n
    one_less n = omega arith

    at_end : (xs : List Machine) → slice_get (xs ++ b ∷ []) (length xs) ≡ Some b
    at_end [] = refl
    at_end (x ∷ xs) = at_end xs

pub last-dispatched : (es : List Event) (b : Machine) → last_dispatch (es ++ Dispatch b ∷ []) ≡ Some b
last-dispatched es b =
    ap (λ points. slice_get points (length points - 1)) (filter_map-append dispatch_of es (Dispatch b ∷ [])) ∙ last_of_more (filter_map dispatch_of es) b

pub last-kept : (es : List Event) (e : Event) → dispatch_of e ≡ None → last_dispatch (es ++ e ∷ []) ≡ last_dispatch es
last-kept es (Picture m) none =
    ap (λ points. slice_get points (length points - 1)) (filter_map-append dispatch_of es (Picture m ∷ []) ∙ append-nil (filter_map dispatch_of es))
last-kept es (Stopped b) none =
    ap (λ points. slice_get points (length points - 1)) (filter_map-append dispatch_of es (Stopped b ∷ []) ∙ append-nil (filter_map dispatch_of es))
last-kept es (Dispatch b) none = absurd (differ none)
  where
    differ : Some b ≡ None → ⊥
    differ h = cc

-- ---- which point a state is

pub is-stop : (stop dispatch : Bool) → StopPoint ≡ (if stop then StopPoint else if dispatch then DispatchPoint else OtherPoint) → stop ≡ true
is-stop true dispatch is = refl
is-stop false true is = cc
is-stop false false is = cc

-- one that isn't
pub no-stop-point : (stop dispatch : Bool) (point : Point) → point ≡ (if stop then StopPoint else if dispatch then DispatchPoint else OtherPoint)
    → (point ≡ StopPoint → ⊥) → stop ≡ false
no-stop-point true dispatch point is other = absurd (other is)
no-stop-point false dispatch point is other = refl

pub runs-on : (stop dispatch : Bool) → DispatchPoint ≡ (if stop then StopPoint else if dispatch then DispatchPoint else OtherPoint) → stop ≡ false
runs-on true dispatch is = cc
runs-on false dispatch is = refl

pub stop-waits : (stop dispatch : Bool) (b : Machine) → stop ≡ true
    → point_events (if stop then StopPoint else if dispatch then DispatchPoint else OtherPoint) b ≡ [] → ⊥
stop-waits true dispatch b stop none = cc
stop-waits false dispatch b stop none = cc

not_both : (b : Bool) → b ≡ false → b ≡ true → ⊥
not_both b h g = cc

-- ---- an event more is met

-- the same with one event more met, and with what is told of the last dispatch point then
abbrev pub told : VipState → Option View → List ℕ → VipState
told v last shown = record v { met = v.met + 1; last = last; shown = shown }

module _ (v : VipState) (f : Follows v) (e : Event) (es : List Event) (waits : events_waiting v ≡ e ∷ es) where
  abbrev now : ℕ
  now = v.board.machine.cycle

  next : Takes v.met (events_to v now) e es
  next = takes v.met (events_to v now) e es waits

  pub follows-told : (last : Option View) (shown : List ℕ) → last ≡ last_view v.edition (events_met v ++ e ∷ [])
      → shown ≡ last_screen v.edition (events_met v ++ e ∷ []) → Follows (told v last shown)
  follows-told last shown is_last is_shown =
      record {
        fits = f.fits;
        phase = f.phase;
        rom = f.rom;
        machine = f.machine;
        runs = f.runs;
        in_time = f.in_time;
        pictures = f.pictures;
        first = omega (arith, f.first);
        behind = λ t over. omega (arith, f.behind t over);
        within = next.within;
        last = is_last ∙ ap (last_view v.edition) (sym next.taken);
        shown = is_shown ∙ ap (last_screen v.edition) (sym next.taken);
      }

  -- the events left up to any limit from here on
  module _ (limit : ℕ) (within : now ≤ limit) where
    pub o : Others v f limit
    o = others-to v f limit within

    pub left-old : events_left v limit ≡ e ∷ (es ++ o.others)
    left-old = o.left ∙ ap (λ xs. xs ++ o.others) waits

    pub left-new : (last : Option View) (shown : List ℕ) → events_left (told v last shown) limit ≡ es ++ o.others
    left-new last shown = (takes v.met (events_to v limit) e (es ++ o.others) left-old).left

    pub one-more : (last : Option View) (shown : List ℕ) → MeetsOne limit v (told v last shown) (es ++ o.others)
    one-more last shown = record { same = record { edition = refl; start = refl; script = refl }; met = refl; left = left-new last shown; within = within }

  pub waiting-less : (last : Option View) (shown : List ℕ) → events_waiting (told v last shown) ≡ es
  waiting-less last shown = next.left

  pub meets-first : (last : Option View) (shown : List ℕ) (answer : Met)
      → ((limit : ℕ) (others : List Event) → now ≤ limit → MeetsOne limit v (told v last shown) others
      → MeetsNext limit v (told v last shown) (e ∷ others) answer) → MeetsFirst v (told v last shown) answer
  meets-first last shown answer meets =
      record {
        next =
            λ limit within. subst (λ left. MeetsNext limit v (told v last shown) left answer) (sym (left-old limit within))
            (meets limit (es ++ (o limit within).others) within (one-more limit within last shown));
        same = record { edition = refl; start = refl; script = refl };
        waiting = ap length waits ∙ sym (add-one (length es)) ∙ ap (λ xs. length xs + 1) (sym (waiting-less last shown));
        board = refl;
        moves = refl;
      }

-- ---- a picture

module _ (v : VipState) (f : Follows v) (point : Point) (p : PictureWaits v point) where
  abbrev es : List Event
  es = point_events point v.board.machine

  view_kept : v.last ≡ last_view v.edition (events_met v ++ Picture p.frame ∷ [])
  view_kept = f.last ∙ ap (option_map (view_at v.edition)) (sym (last-kept (events_met v) (Picture p.frame) refl))

  screen_kept : v.shown ≡ last_screen v.edition (events_met v ++ Picture p.frame ∷ [])
  screen_kept =
      f.shown
      ∙ ap (λ o. option_map_or (screen_bytes v.edition) o (replicate (screen_size v.edition) 0)) (sym (last-kept (events_met v) (Picture p.frame) refl))

  pub follows-picture : Follows (told v v.last v.shown)
  follows-picture = follows-told v f (Picture p.frame) es p.events v.last v.shown view_kept screen_kept

  the_picture : (limit : ℕ) → v.board.machine.cycle ≤ limit
      → picture_of (interpreter v).rom (states_before v v.moves) p.frame ≡ picture_of (interpreter v).rom (run_of v limit) p.frame
  the_picture limit within =
      let here : v.board.machine.cycle ≡ (at_state v f v.moves).cycle = ap (λ (b : Machine). b.cycle) f.machine in
      sym (
      ap (λ run. picture_of (interpreter v).rom run p.frame)
      (run-split (interpreter v).rom (held_at v.board.script) limit v.moves (machine_of v.start) (omega (arith, here, within)))
      ∙ picture-later (interpreter v).rom (at_state v f v.moves).cycle p.frame (states_before v v.moves)
      (onward (interpreter v) v.start v.board.script limit v.moves) (omega (arith, here, p.ended))
      (later-run (interpreter v).rom (held_at v.board.script) limit (at_state v f v.moves)))

  goes_on : point ≡ point_of (interpreter v) v.board.machine → HasStopped (told v v.last v.shown) → ⊥
  goes_on is stopped =
      stop-waits (is_stop (interpreter v) v.board.machine) (is_dispatch (interpreter v) v.board.machine) v.board.machine stopped.stop
      (ap (λ p. point_events p v.board.machine) (sym is) ∙ sym (waiting-less v f (Picture p.frame) es p.events v.last v.shown) ∙ stopped.met)

  pub meets-picture : point ≡ point_of (interpreter v) v.board.machine → MeetsFirst v (told v v.last v.shown) PictureMet
  meets-picture is =
      meets-first v f (Picture p.frame) es p.events v.last v.shown PictureMet
      (λ limit others within one. record {
        one = one;
        told = record { last = refl; shown = refl };
        ended = p.ended;
        first = p.first;
        picture = p.finished ∙ ap Some (the_picture limit within);
        goes_on = goes_on is;
      })

-- ---- a dispatch point

module _ (v : VipState) (f : Follows v) (waits : events_waiting v ≡ Dispatch v.board.machine ∷ []) where
  abbrev b : Machine
  b = v.board.machine

  pub follows-dispatch : Follows (told v (Some (view_at v.edition b)) (screen_bytes v.edition b))
  follows-dispatch =
      follows-told v f (Dispatch b) [] waits (Some (view_at v.edition b)) (screen_bytes v.edition b)
      (ap (option_map (view_at v.edition)) (sym (last-dispatched (events_met v) b)))
      (ap (λ o. option_map_or (screen_bytes v.edition) o (replicate (screen_size v.edition) 0)) (sym (last-dispatched (events_met v) b)))

  pub meets-dispatch : is_stop (interpreter v) b ≡ false → MeetsFirst v (told v (Some (view_at v.edition b)) (screen_bytes v.edition b)) DispatchMet
  meets-dispatch runs =
      meets-first v f (Dispatch b) [] waits (Some (view_at v.edition b)) (screen_bytes v.edition b) DispatchMet
      (λ limit others within one. record {
        one = one;
        machine = refl;
        last = refl;
        shown = refl;
        goes_on =
            λ stopped. not_both (is_stop (interpreter v) b) runs stopped.stop;
      })

-- ---- a stop point

module _ (v : VipState) (f : Follows v) (waits : events_waiting v ≡ Stopped v.board.machine ∷ []) where
  stop_view_kept : v.last ≡ last_view v.edition (events_met v ++ Stopped v.board.machine ∷ [])
  stop_view_kept = f.last ∙ ap (option_map (view_at v.edition)) (sym (last-kept (events_met v) (Stopped v.board.machine) refl))

  stop_screen_kept : v.shown ≡ last_screen v.edition (events_met v ++ Stopped v.board.machine ∷ [])
  stop_screen_kept =
      f.shown
      ∙ ap (λ o. option_map_or (screen_bytes v.edition) o (replicate (screen_size v.edition) 0)) (sym (last-kept (events_met v) (Stopped v.board.machine) refl))

  pub follows-stop : Follows (told v v.last v.shown)
  follows-stop = follows-told v f (Stopped v.board.machine) [] waits v.last v.shown stop_view_kept stop_screen_kept

  pub meets-stop : is_stop (interpreter v) v.board.machine ≡ true → MeetsFirst v (told v v.last v.shown) (StoppedMet (stop_record v.last v.board.machine))
  meets-stop stop =
      meets-first v f (Stopped v.board.machine) [] waits v.last v.shown (StoppedMet (stop_record v.last v.board.machine))
      (λ limit others within one. record {
        one = one;
        told = record { last = refl; shown = refl };
        machine = refl;
        stop = refl;
        stopped = record { stop = stop; met = waiting-less v f (Stopped v.board.machine) [] waits v.last v.shown };
      })
