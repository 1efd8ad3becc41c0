-- The events that a run has met: the last dispatch point among them, and that no stop point is among them before a stop was met.
use Rattle.std.proofs.Common.{◌≡◌, ◌⊎◌, inl, inr, ℕ, zero, suc, ◌+◌, ◌-◌, ◌<◌, ◌≤◌, Bool, true, false, List, [], ◌∷◌, ◌++◌, length, take, filter, map, Option, Some, None, refl, sym, ap, subst, ◌∙◌, arith}
use Rattle.std.specs.Prelude.{if◌then◌else◌, filter_map, slice_get}
use Rattle.std.proofs.lemmas.Bool.{cases_lt, cases_Bool}
use Rattle.std.proofs.lemmas.List.{drop_all, take-append-le, length-append}
use Rattle.machine.specs.Board.{Machine}
use Rattle.machine.specs.Keys.{Event as KeyEvent}
use Rattle.machine.specs.Pictures.{windows_ended, is_shown}
use Rattle.chip8_lang.specs.Events.{Event, is_dispatch, is_stop, numbers_from}
use Rattle.chip8_lang.specs.Events.Event.{Picture, Dispatch, Stopped}
use Rattle.chip8_lang.specs.Places.{Interpreter}
use Rattle.vip_relation.specs.Follows.{Follows, dispatch_of, last_dispatch}
use Rattle.vip_relation.specs.Meets.{HasStopped}
use Rattle.vip_relation.specs.Points.{point_events}
use Rattle.vip_relation.specs.declared.point.Point.TheVariants.{Dispatch as DispatchPoint, Stop as StopPoint, Other as OtherPoint}
use Rattle.vip_relation.specs.State.{Start, VipState, events_from, events_met, events_to, first_events, interpreter, machine_of}
use Rattle.vip_relation.specs.State.Start.{Reset, Saved}
use Rattle.vip_relation.proofs.Past.{state, earlier, before, past, pictures, point, Runs, events-stop}
use Rattle.vip_relation.proofs.Steps.{begins, events-here}

-- ---- the last dispatch point among some events

-- the last of some machines, or the one before them
last_of : Option Machine → List Machine → Option Machine
last_of last [] = last
last_of last (b ∷ bs) = last_of (Some b) bs

last_is : (b : Machine) (bs : List Machine) → last_of (Some b) bs ≡ slice_get (b ∷ bs) (length bs)
unfolding last_of
last_is b [] = refl
last_is b (c ∷ bs) = last_is c bs

-- the same, event by event
unfoldable pub last_after : Option Machine → List Event → Option Machine
last_after last [] = last
last_after last (Picture m ∷ es) = last_after last es
last_after last (Dispatch b ∷ es) = last_after (Some b) es
last_after last (Stopped b ∷ es) = last_after last es

by_points : (last : Option Machine) (es : List Event) → last_after last es ≡ last_of last (filter_map dispatch_of es)
unfolding last_after last_of
by_points last [] = refl
by_points last (Picture m ∷ es) = by_points last es
by_points last (Dispatch b ∷ es) = by_points (Some b) es
by_points last (Stopped b ∷ es) = by_points last es

pub last_of_events : (es : List Event) → last_after None es ≡ last_dispatch es
unfolding last_of
last_of_events es = by_points None es ∙ go (filter_map dispatch_of es)
  where
    go : (bs : List Machine) → last_of None bs ≡ slice_get bs (length bs - 1)
    go [] = refl
    go (b ∷ bs) = last_is b bs ∙ ap (slice_get (b ∷ bs)) (one_less (length bs))
      where
        one_less : (n : ℕ) → n ≡ suc n - 1
        one_less n = omega arith

-- a stop point doesn't matter to it
pub last_after_stop : (last : Option Machine) (es : List Event) (b : Machine) → last_after last (es ++ Stopped b ∷ []) ≡ last_after last es
unfolding last_after
last_after_stop last [] b = refl
last_after_stop last (Picture m ∷ es) b = last_after_stop last es b
last_after_stop last (Dispatch c ∷ es) b = last_after_stop (Some c) es b
last_after_stop last (Stopped c ∷ es) b = last_after_stop last es b

-- behind a dispatch point there is one
pub some_after : (b : Machine) (es : List Event) → last_after (Some b) es ≡ None → ⊥
unfolding last_after
some_after b [] none = cc
some_after b (Picture m ∷ es) none = some_after b es none
some_after b (Dispatch c ∷ es) none = some_after c es none
some_after b (Stopped c ∷ es) none = some_after b es none

-- ---- no stop point among some events

unfoldable pub NoStop : List Event → Type 0
NoStop [] = Unit {0}
NoStop (Picture m ∷ es) = NoStop es
NoStop (Dispatch b ∷ es) = NoStop es
NoStop (Stopped b ∷ es) = ⊥

pub no_stop_append : (xs ys : List Event) → NoStop xs → NoStop ys → NoStop (xs ++ ys)
unfolding NoStop
no_stop_append [] ys h g = g
no_stop_append (Picture m ∷ xs) ys h g = no_stop_append xs ys h g
no_stop_append (Dispatch b ∷ xs) ys h g = no_stop_append xs ys h g
no_stop_append (Stopped b ∷ xs) ys h g = absurd h

no_stop_take : (n : ℕ) (xs : List Event) → NoStop xs → NoStop (take n xs)
unfolding NoStop
no_stop_take zero xs h = tt
no_stop_take (suc n) [] h = tt
no_stop_take (suc n) (Picture m ∷ xs) h = no_stop_take n xs h
no_stop_take (suc n) (Dispatch b ∷ xs) h = no_stop_take n xs h
no_stop_take (suc n) (Stopped b ∷ xs) h = absurd h

no_stop_pictures : (ms : List ℕ) → NoStop (map Picture ms)
unfolding NoStop
no_stop_pictures [] = tt
no_stop_pictures (m ∷ ms) = no_stop_pictures ms

no_stop_point : (stop dispatch : Bool) (b : Machine) → stop ≡ false
    → NoStop (point_events (if stop then StopPoint else if dispatch then DispatchPoint else OtherPoint) b)
unfolding NoStop
no_stop_point true dispatch b runs = cc
no_stop_point false true b runs = tt
no_stop_point false false b runs = tt

one_stop : (stop dispatch : Bool) (b : Machine) → stop ≡ true
    → point_events (if stop then StopPoint else if dispatch then DispatchPoint else OtherPoint) b ≡ Stopped b ∷ []
one_stop true dispatch b stops = refl
one_stop false dispatch b stops = cc

no_stop_first : (s : Start) → NoStop (first_events s)
unfolding NoStop
no_stop_first (Reset game) = tt
no_stop_first (Saved file) = tt

module _ (i : Interpreter) (s : Start) (script : List KeyEvent) where
  -- the frames whose pictures come at the n-th state
  abbrev frames : ℕ → List ℕ
  frames n =
      filter (is_shown i.rom (earlier i s script n))
      (numbers_from (windows_ended (before i s script n)) (windows_ended (state i s script n).cycle - windows_ended (before i s script n)))

  no_stop_here : (n : ℕ) → is_stop i (state i s script n) ≡ false → NoStop (point i s script n)
  no_stop_here zero runs = no_stop_first s
  no_stop_here (suc n) runs =
      no_stop_point (is_stop i (state i s script (suc n))) (is_dispatch i (state i s script (suc n))) (state i s script (suc n)) runs

  no_stop_past : (n : ℕ) → Runs i s script n → NoStop (past i s script n)
  unfolding past NoStop
  no_stop_past zero runs = tt
  no_stop_past (suc n) runs =
      no_stop_append (past i s script n ++ pictures i s script n) (point i s script n)
      (no_stop_append (past i s script n) (pictures i s script n) (no_stop_past n (λ k l. runs k (omega (arith, l)))) (no_stop_pictures (frames n)))
      (no_stop_here n (runs n (omega arith)))

  -- the events before the point of the n-th state
  unfoldable pub before_point : ℕ → List Event
  before_point n = past i s script n ++ pictures i s script n

  pub no_stop_before : (n : ℕ) → Runs i s script n → NoStop (before_point n)
  unfolding before_point
  no_stop_before n runs = no_stop_append (past i s script n) (pictures i s script n) (no_stop_past n runs) (no_stop_pictures (frames n))

  pub with_point : (n : ℕ) → past i s script (suc n) ≡ before_point n ++ point i s script n
  unfolding past before_point
  with_point n = refl

  pub other_point : (n : ℕ) → is_stop i (state i s script n) ≡ false → NoStop (point i s script n)
  other_point n runs = no_stop_here n runs

  -- no run begins at a stop point
  module _ (begins : is_stop i (machine_of s) ≡ false) where
    -- of a stop point that is the stop alone
    pub stop_point : (n : ℕ) → is_stop i (state i s script n) ≡ true → point i s script n ≡ Stopped (state i s script n) ∷ []
    stop_point zero stop = absurd (not_both (is_stop i (machine_of s)) begins stop)
      where
        not_both : (b : Bool) → b ≡ false → b ≡ true → ⊥
        not_both b h g = cc
    stop_point (suc n) stop =
        one_stop (is_stop i (state i s script (suc n))) (is_dispatch i (state i s script (suc n))) (state i s script (suc n)) stop

    -- where the n-th state is the first stop point, the events up to any cycle from it on are those before it, and then it
    pub events_to_stop :
        (limit n : ℕ) → (state i s script n).cycle ≤ limit → is_stop i (state i s script n) ≡ true → Runs i s script n
        → events_from i script s limit ≡ before_point n ++ Stopped (state i s script n) ∷ []
    events_to_stop limit n within stop runs =
        events-stop i s script begins limit n within stop runs ∙ with_point n ∙ ap (λ es. before_point n ++ es) (stop_point n stop)

module _ (v : VipState) (f : Follows v) where
  abbrev i : Interpreter
  i = interpreter v

  abbrev pub here : Machine
  here = state i v.start v.board.script v.moves

  abbrev pub met_before : List Event
  met_before = before_point i v.start v.board.script v.moves

  abbrev last : List Event
  last = point i v.start v.board.script v.moves

  -- the events up to the present state
  pub to_here : events_to v v.board.machine.cycle ≡ met_before ++ last
  to_here = events-here v f ∙ with_point i v.start v.board.script v.moves

  pub none_before : NoStop met_before
  none_before = no_stop_before i v.start v.board.script v.moves f.runs

  -- while no stop was met, none is among the events met
  pub no_stop_met : (HasStopped v → ⊥) → NoStop (events_met v)
  no_stop_met goes_on = subst (λ es. NoStop (take v.met es)) (sym to_here) (go (cases_Bool (is_stop i v.board.machine)) (cases_lt (length met_before) v.met))
    where
      is_here : (t : Bool) → is_stop i v.board.machine ≡ t → is_stop i here ≡ t
      is_here t is = ap (is_stop i) (sym f.machine) ∙ is

      met_all : is_stop i v.board.machine ≡ true → length met_before < v.met → ⊥
      met_all stop more = goes_on (record { stop = stop; met = drop_all v.met (events_to v v.board.machine.cycle) (omega (arith, more, all)) })
        where
          all : length (events_to v v.board.machine.cycle) ≡ length met_before + 1
          all =
              ap length (to_here ∙ ap (λ es. met_before ++ es) (stop_point i v.start v.board.script (begins v f) v.moves (is_here true stop)))
              ∙ length-append met_before (Stopped here ∷ [])

      go : (is_stop i v.board.machine ≡ true) ⊎ (is_stop i v.board.machine ≡ false) → (length met_before < v.met) ⊎ (v.met ≤ length met_before)
          → NoStop (take v.met (met_before ++ last))
      go (inl stop) (inl more) = absurd (met_all stop more)
      go (inl stop) (inr few) = subst NoStop (sym (take-append-le v.met met_before last few)) (no_stop_take v.met met_before none_before)
      go (inr runs) d =
          no_stop_take v.met (met_before ++ last)
          (no_stop_append met_before last none_before (other_point i v.start v.board.script v.moves (is_here false runs)))
