-- Which dispatch points of a run come up to a cycle, and which behind it.
use Rattle.std.proofs.Common.{◌≡◌, ◌⊎◌, inl, inr, ℕ, zero, suc, ◌+◌, ◌-◌, ◌<◌, ◌≤◌, Bool, true, false, List, [], ◌∷◌, ◌++◌, length, drop, filter, map, Some, slice_get, append_assoc, append-nil, refl, sym, ap, ◌∙◌, subst, arith}
use Rattle.std.specs.Prelude.{filter_map, nat_le, nat_lt}
use Rattle.std.proofs.Math.Seq.{drop-append_seam}
use Rattle.std.proofs.lemmas.Bool.{cases_lt, le-leb, le-ltb, lt-leb, lt-ltb}
use Rattle.std.proofs.lemmas.List.Elements.{filter-append, filter_map-append}
use Rattle.machine.specs.Board.{Machine}
use Rattle.machine.specs.Keys.{Event as KeyEvent, held_at}
use Rattle.chip8_lang.specs.declared.view.Edition.{Edition}
use Rattle.machine.specs.Pictures.{is_shown, windows_ended}
use Rattle.chip8_lang.specs.Events.{Event, is_stop, numbers_from}
use Rattle.chip8_lang.specs.Events.Event.{Picture, Dispatch, Stopped}
use Rattle.chip8_lang.specs.Places.{Interpreter}
use Rattle.chip8_image.specs.Interpreters.{interpreter_of}
use Rattle.vip_relation.specs.Follows.{dispatch_of}
use Rattle.vip_relation.specs.Points.{point_events, point_of}
use Rattle.vip_relation.specs.declared.point.Point.{Point}
use Rattle.vip_relation.specs.declared.point.Point.TheVariants.{Dispatch as DispatchPoint, Stop as StopPoint, Other as OtherPoint}
use Rattle.vip_relation.specs.State.{Start, VipState, begun, events_to, machine_of}
use Rattle.vip_board.proofs.Along.{in-turn}
use Rattle.vip_relation.proofs.Past.{state, earlier, before, past, pictures, point}
use Rattle.vip_relation.proofs.Waits.{Earlier, earlier-at, earlier-next}
use Rattle.vip_debug.specs.Answers.{moves_until}
use Rattle.vip_debug.specs.Game.{run_at}
use Rattle.vip_debug.proofs.Reaching.{all_past, last_until}
use Rattle.vip_debug.proofs.TargetRuns.{Reached, all-moves, reached-next, some-here, until}

-- ---- dispatch points among some events

abbrev pub dispatches : List Event → List Machine
dispatches es = filter_map dispatch_of es

-- each of them comes behind cycle t
Later : ℕ → List Event → Type 0
Later t [] = Unit {0}
Later t (Picture m ∷ es) = Later t es
Later t (Dispatch b ∷ es) = (t < b.cycle) × Later t es
Later t (Stopped b ∷ es) = Later t es

later_append : (t : ℕ) (xs ys : List Event) → Later t xs → Later t ys → Later t (xs ++ ys)
unfolding Later
later_append t [] ys h g = g
later_append t (Picture m ∷ xs) ys h g = later_append t xs ys h g
later_append t (Dispatch b ∷ xs) ys h g = (h.0, later_append t xs ys h.1 g)
later_append t (Stopped b ∷ xs) ys h g = later_append t xs ys h g

later_pictures : (t : ℕ) (ms : List ℕ) → Later t (map Picture ms)
unfolding Later
later_pictures t [] = tt
later_pictures t (m ∷ ms) = later_pictures t ms

later_point : (t : ℕ) (p : Point) (b : Machine) → t < b.cycle → Later t (point_events p b)
unfolding Later
later_point t DispatchPoint b behind = (behind, tt)
later_point t StopPoint b behind = tt
later_point t OtherPoint b behind = tt

-- those up to a cycle, and those behind it
abbrev pub is_met : ℕ → Machine → Bool
is_met t b = nat_le b.cycle t

abbrev pub is_ahead : ℕ → Machine → Bool
is_ahead t b = nat_lt t b.cycle

filter_all : (test : Machine → Bool) (bs : List Machine) → ((k : ℕ) (b : Machine) → slice_get bs k ≡ Some b → test b ≡ true) → filter test bs ≡ bs
filter_all test [] h = refl
filter_all test (b ∷ bs) h = rw (h 0 b refl) (ap (λ cs. b ∷ cs) (filter_all test bs (λ k c there. h (suc k) c there)))

filter_none : (test : Machine → Bool) (bs : List Machine) → ((k : ℕ) (b : Machine) → slice_get bs k ≡ Some b → test b ≡ false) → filter test bs ≡ []
filter_none test [] h = refl
filter_none test (b ∷ bs) h = rw (h 0 b refl) (filter_none test bs (λ k c there. h (suc k) c there))

all_met : (t : ℕ) (es : List Event) → Earlier (t + 1) es → filter (is_met t) (dispatches es) ≡ dispatches es
all_met t es h = filter_all (is_met t) (dispatches es) (λ k b there. le-leb b.cycle t (omega (arith, earlier-at (t + 1) es h k b there)))

none_ahead : (t : ℕ) (es : List Event) → Earlier (t + 1) es → filter (is_ahead t) (dispatches es) ≡ []
none_ahead t es h = filter_none (is_ahead t) (dispatches es) (λ k b there. le-ltb t b.cycle (omega (arith, earlier-at (t + 1) es h k b there)))

none_met : (t : ℕ) (es : List Event) → Later t es → filter (is_met t) (dispatches es) ≡ []
unfolding Later
none_met t [] h = refl
none_met t (Picture m ∷ es) h = none_met t es h
none_met t (Dispatch b ∷ es) h = rw (lt-leb b.cycle t h.0) (none_met t es h.1)
none_met t (Stopped b ∷ es) h = none_met t es h

all_ahead : (t : ℕ) (es : List Event) → Later t es → filter (is_ahead t) (dispatches es) ≡ dispatches es
unfolding Later
all_ahead t [] h = refl
all_ahead t (Picture m ∷ es) h = all_ahead t es h
all_ahead t (Dispatch b ∷ es) h = rw (lt-ltb t b.cycle h.0) (ap (λ bs. b ∷ bs) (all_ahead t es h.1))
all_ahead t (Stopped b ∷ es) h = all_ahead t es h

-- ---- the events of some states more

module _ (i : Interpreter) (s : Start) (script : List KeyEvent) (t n : ℕ) (over : t < (state i s script (suc n)).cycle) where
  record More (d : ℕ) : Type 0 where
    others : List Event
    is : past i s script (suc (n + d)) ≡ past i s script (suc n) ++ others
    later : Later t others

  regroup : (a b c d : List Event) → ((a ++ b) ++ c) ++ d ≡ a ++ (b ++ (c ++ d))
  regroup a b c d = simp append_assoc

  one_more : (d : ℕ) → More d → More (suc d)
  unfolding past Later
  one_more d m = record {
    others = m.others ++ (pictures i s script k ++ point i s script k);
    is =
        ap (λ j. past i s script (suc j)) same
        ∙ ap (λ es. (es ++ pictures i s script k) ++ point i s script k) m.is
        ∙ regroup (past i s script (suc n)) m.others (pictures i s script k) (point i s script k);
    later =
        later_append t m.others (pictures i s script k ++ point i s script k) m.later
        (later_append t (pictures i s script k) (point i s script k) (later_pictures t frames)
        (later_point t (point_of i (state i s script k)) (state i s script k) behind));
  }
    where
      k : ℕ
      k = suc (n + d)

      frames : List ℕ
      frames =
          filter (is_shown i.rom (earlier i s script k))
          (numbers_from (windows_ended (before i s script k)) (windows_ended (state i s script k).cycle - windows_ended (before i s script k)))

      same : n + suc d ≡ k
      same = omega arith

      behind : t < (state i s script k).cycle
      behind = omega (arith, over, in-turn i.rom (held_at script) k (suc n) (machine_of s) (omega arith))

  more : (d : ℕ) → More d
  unfolding Later
  more zero =
      let same : n + 0 ≡ n = omega arith in
      record { others = []; is = ap (λ k. past i s script (suc k)) same ∙ sym (append-nil (past i s script (suc n))); later = tt }
  more (suc d) = one_more d (more d)

-- ---- the run from a start

module _ (e : Edition) (s : Start) (script : List KeyEvent) (begins : is_stop (interpreter_of e) (machine_of s) ≡ false) where
  abbrev i : Interpreter
  i = interpreter_of e

  abbrev v : VipState
  v = begun e s script

  abbrev at_state : ℕ → Machine
  at_state n = state i s script n

  abbrev past_of : ℕ → List Event
  past_of n = past i s script n

  -- a state that is reached by a cycle is among those made up to there
  pub reached_few : (t n : ℕ) → Reached (run_at v 0) t n → n ≤ moves_until v t
  reached_few t n h =
      omega (arith, until (run_at v 0) t, all-moves (run_at v 0) t n h.within h.runs, some-here (run_at v 0) t n h.within)

  pub more_moves : (t u : ℕ) → (machine_of s).cycle ≤ t → t ≤ u → moves_until v t ≤ moves_until v u
  more_moves t u late order =
      let h = last_until e s script begins t late in
      reached_few u (moves_until v t) (record { within = omega (arith, order, h.within); runs = h.runs })

  -- where the run goes on, its next state comes behind the cycle
  pub next_over : (t : ℕ) → (machine_of s).cycle ≤ t → is_stop i (at_state (moves_until v t)) ≡ false → t < (at_state (suc (moves_until v t))).cycle
  next_over t late runs = by_test (cases_lt t (at_state (suc n)).cycle)
    where
      n : ℕ
      n = moves_until v t

      by_test : (t < (at_state (suc n)).cycle) ⊎ ((at_state (suc n)).cycle ≤ t) → t < (at_state (suc n)).cycle
      by_test (inl over) = over
      by_test (inr within) = absurd (omega (arith, reached_few t (suc n) (reached-next (run_at v 0) t n (last_until e s script begins t late) runs within)))

  module _ (limit t : ℕ) (late : (machine_of s).cycle ≤ t) (order : t ≤ limit) where
    late_limit : (machine_of s).cycle ≤ limit
    late_limit = omega (arith, late, order)

    -- the events up to the limit are those up to a cycle before, and later ones
    record Splits : Type 0 where
      others : List Event
      is : events_to v limit ≡ events_to v t ++ others
      later : Later t others

    splits : Splits
    unfolding Later
    splits = by_test (cases_lt n m)
      where
        n : ℕ
        n = moves_until v t

        m : ℕ
        m = moves_until v limit

        by_test : (n < m) ⊎ (m ≤ n) → Splits
        by_test (inr few) =
            let same : m ≡ n = omega (arith, few, more_moves t limit late order) in
            record {
              others = [];
              is =
                  all_past e s script begins limit late_limit ∙ ap (λ k. past_of (suc k)) same ∙ sym (all_past e s script begins t late)
                  ∙ sym (append-nil (events_to v t));
              later = tt;
            }
        by_test (inl less) =
            let over = next_over t late ((last_until e s script begins limit late_limit).runs n less) in
            let d = more i s script t n over (m - n) in
            let same : m ≡ n + (m - n) = omega (arith, less) in
            record {
              others = d.others;
              is =
                  all_past e s script begins limit late_limit ∙ ap (λ k. past_of (suc k)) same ∙ d.is
                  ∙ ap (λ es. es ++ d.others) (sym (all_past e s script begins t late));
              later = d.later;
            }

    early : Earlier (t + 1) (events_to v t)
    early =
        subst (Earlier (t + 1)) (sym (all_past e s script begins t late))
        (earlier-next i s script (t + 1) (moves_until v t) (omega (arith, (last_until e s script begins t late).within)))

    abbrev all : List Machine
    all = dispatches (events_to v limit)

    -- the dispatch points up to a cycle
    pub met_is : dispatches (events_to v t) ≡ filter (is_met t) all
    met_is =
        let c = splits in
        sym
        (ap (λ es. filter (is_met t) (dispatches es)) c.is
        ∙ ap (filter (is_met t)) (filter_map-append dispatch_of (events_to v t) c.others)
        ∙ filter-append (is_met t) (dispatches (events_to v t)) (dispatches c.others)
        ∙ ap (λ bs. bs ++ filter (is_met t) (dispatches c.others)) (all_met t (events_to v t) early)
        ∙ ap (λ bs. dispatches (events_to v t) ++ bs) (none_met t c.others c.later)
        ∙ append-nil (dispatches (events_to v t)))

    -- and those behind it
    pub ahead_is : dispatches (drop (length (events_to v t)) (events_to v limit)) ≡ filter (is_ahead t) all
    ahead_is =
        let c = splits in
        ap (λ es. dispatches (drop (length (events_to v t)) es)) c.is
        ∙ ap dispatches (drop-append_seam (events_to v t) c.others)
        ∙ sym
        (ap (λ es. filter (is_ahead t) (dispatches es)) c.is
        ∙ ap (filter (is_ahead t)) (filter_map-append dispatch_of (events_to v t) c.others)
        ∙ filter-append (is_ahead t) (dispatches (events_to v t)) (dispatches c.others)
        ∙ ap (λ bs. bs ++ filter (is_ahead t) (dispatches c.others)) (none_ahead t (events_to v t) early)
        ∙ all_ahead t c.others c.later)

  -- all dispatch points come by the limit
  pub within_limit : (limit : ℕ) → (machine_of s).cycle ≤ limit → Earlier (limit + 1) (events_to v limit)
  within_limit limit late = early limit limit late (omega arith)
