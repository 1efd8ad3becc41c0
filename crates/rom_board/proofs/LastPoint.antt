-- The last state of a run up to a limit, and the last dispatch point up to there.
use Rattle.std.proofs.Common.{◌≡◌, ℕ, zero, suc, ◌+◌, ◌<◌, ◌≤◌, Bool, true, false, List, [], ◌∷◌, ◌++◌, length, refl, sym, ap, ◌∙◌, arith, append-nil}
use Rattle.std.specs.Prelude.{if◌then◌else◌, ◌-◌, nat_le, map, filter_map, filter, slice_get, Option, Some}
use Rattle.std.proofs.lemmas.Bool.Decides.{nat_tests}
use Rattle.std.proofs.lemmas.List.Elements.{filter_map-append}
use Rattle.machine.specs.Board.{Machine}
use Rattle.machine.specs.Keys.{Event as KeyEvent, held_at}
use Rattle.machine.specs.Pictures.{is_shown, windows_ended}
use Rattle.machine.proofs.Runs.{later-move}
use Rattle.chip8_lang.specs.declared.view.Edition.{Edition}
use Rattle.chip8_lang.specs.Events.{Event, is_dispatch, is_stop, numbers_from}
use Rattle.chip8_lang.specs.Events.Event.{Picture, Dispatch, Stopped}
use Rattle.chip8_lang.specs.Places.{Interpreter}
use Rattle.chip8_lang.specs.View.{view_at}
use Rattle.vip_relation.specs.Follows.{dispatch_of, last_dispatch}
use Rattle.vip_relation.specs.Points.{point_of, point_events}
use Rattle.vip_relation.specs.State.{Start, events_from, first_events, machine_of}
use Rattle.vip_relation.specs.declared.point.Point.{Point}
use Rattle.vip_relation.specs.declared.point.Point.TheVariants.{Dispatch as DispatchPoint, Stop as StopPoint, Other as OtherPoint}
use Rattle.vip_relation.proofs.Meetings.{last-dispatched}
use Rattle.vip_relation.proofs.Past.{state, earlier, before as cycle_before, past, pictures, point, Runs, events-last, events-stop}
use Rattle.vip_show.specs.Endings.{ending_after}
use Rattle.rom_board.proofs.Passed.{NoStop}
use Rattle.vip_show.proofs.Points.{one_more}

-- ---- what is written of events is that of their points

-- the dispatch points among some events
abbrev pub dispatches : List Event → List Machine
dispatches = filter_map dispatch_of

-- the ending behind a dispatch point before which there is no stop
pub ending_behind : (e : Edition) (pc : ℕ) (opcode : Option ℕ) (xs : List Event) (b : Machine) (ys : List Event) → NoStop xs
    → ending_after e pc opcode (xs ++ Dispatch b ∷ ys) ≡ ending_after e (view_at e b).pc (view_at e b).opcode ys
unfolding ending_after NoStop
ending_behind e pc opcode [] b ys none = refl
ending_behind e pc opcode (Picture m ∷ xs) b ys none = ending_behind e pc opcode xs b ys none
ending_behind e pc opcode (Dispatch c ∷ xs) b ys none = ending_behind e (view_at e c).pc (view_at e c).opcode xs b ys none
ending_behind e pc opcode (Stopped c ∷ xs) b ys none = absurd none

is_dispatch_point : (stop dispatch : Bool) → (if stop then StopPoint else if dispatch then DispatchPoint else OtherPoint) ≡ DispatchPoint → dispatch ≡ true
is_dispatch_point true dispatch h = cc
is_dispatch_point false true h = refl
is_dispatch_point false false h = cc

-- ---- a run up to a limit

module _ (i : Interpreter) (s : Start) (script : List KeyEvent) (begins : is_stop i (machine_of s) ≡ false)
    (first : first_events s ≡ point_events (point_of i (machine_of s)) (machine_of s)) where
  abbrev pub at_state : ℕ → Machine
  at_state n = state i s script n

  -- its last state: the events up to the limit are those of the states up to this one
  pub record Reaches (limit : ℕ) : Type 0 where
    pub n : ℕ
    pub runs : Runs i s script n
    pub within : (at_state n).cycle ≤ limit
    pub events : events_from i script s limit ≡ past i s script (suc n)

  reaches : (fuel n limit : ℕ) → Runs i s script n → (at_state n).cycle ≤ limit → limit < (at_state n).cycle + fuel → Reaches limit
  reaches zero n limit runs within far = absurd (omega (arith, within, far))
  reaches (suc fuel) n limit runs within far =
      by_stop (λ goes_on next. reaches fuel (suc n) limit (one_more i s script n runs goes_on) next (omega (arith, far, later)))
      (is_stop i (at_state n)) refl
    where
      later : (at_state n).cycle < (at_state (suc n)).cycle
      later = later-move i.rom (held_at script) (at_state n)

      by_limit : ((at_state (suc n)).cycle ≤ limit → Reaches limit) → (t : Bool) → nat_le (at_state (suc n)).cycle limit ≡ t → Reaches limit
      by_limit further true h = further (grind (arith, nat_tests))
      by_limit further false h =
          let over : limit < (at_state (suc n)).cycle = grind (arith, nat_tests) in
          record { n = n; runs = runs; within = within; events = events-last i s script limit n within over runs }

      by_stop : (is_stop i (at_state n) ≡ false → (at_state (suc n)).cycle ≤ limit → Reaches limit) → (t : Bool) → is_stop i (at_state n) ≡ t → Reaches limit
      by_stop further true h = record { n = n; runs = runs; within = within; events = events-stop i s script begins limit n within h runs }
      by_stop further false h = by_limit (further h) (nat_le (at_state (suc n)).cycle limit) refl

  pub from_start : (limit : ℕ) → (machine_of s).cycle ≤ limit → Reaches limit
  from_start limit within = reaches (limit + 1) 0 limit (λ k below. absurd (omega (arith, below))) within (omega arith)

  -- ---- its last dispatch point

  -- that of the start is known
  pub point_is : (n : ℕ) → point i s script n ≡ point_events (point_of i (at_state n)) (at_state n)
  point_is zero = first
  point_is (suc n) = refl

  -- the frames whose pictures come at a state
  abbrev frames : ℕ → List ℕ
  frames n =
      filter (is_shown i.rom (earlier i s script n))
      (numbers_from (windows_ended (cycle_before i s script n)) (windows_ended (at_state n).cycle - windows_ended (cycle_before i s script n)))

  no_dispatches : (ms : List ℕ) → dispatches (map Picture ms) ≡ []
  no_dispatches [] = refl
  no_dispatches (m ∷ ms) = no_dispatches ms

  dispatches_next : (n : ℕ) → dispatches (past i s script (suc n)) ≡ dispatches (past i s script n) ++ dispatches (point i s script n)
  unfolding past
  dispatches_next n =
      filter_map-append dispatch_of (past i s script n ++ pictures i s script n) (point i s script n)
      ∙ ap (λ bs. bs ++ dispatches (point i s script n))
      (filter_map-append dispatch_of (past i s script n) (pictures i s script n)
      ∙ ap (λ none. dispatches (past i s script n) ++ none) (no_dispatches (frames n))
      ∙ append-nil (dispatches (past i s script n)))

  -- b is the last dispatch point of the first so many states, and that of the n-th state
  pub record LastAt (m : ℕ) (b : Machine) : Type 0 where
    pub n : ℕ
    pub below : n < m
    pub is : b ≡ at_state n
    pub dispatch : is_dispatch i (at_state n) ≡ true
    pub none : dispatches (past i s script m) ≡ dispatches (past i s script (suc n))

  past_none : past i s script 0 ≡ []
  unfolding past
  past_none = refl

  nowhere : (b : Machine) → last_dispatch [] ≡ Some b → ⊥
  nowhere b h = cc

  pub last_at : (m : ℕ) (b : Machine) → last_dispatch (past i s script m) ≡ Some b → LastAt m b
  last_at zero b h = absurd (nowhere b (ap last_dispatch (sym past_none) ∙ h))
  last_at (suc m) b h = by_point (last_at m b) (point_of i (at_state m)) refl
    where
      kept : (last_dispatch (past i s script m) ≡ Some b → LastAt m b) → dispatches (point i s script m) ≡ [] → LastAt (suc m) b
      kept earlier_one nothing =
          let same : dispatches (past i s script (suc m)) ≡ dispatches (past i s script m) =
          dispatches_next m ∙ ap (λ bs. dispatches (past i s script m) ++ bs) nothing ∙ append-nil (dispatches (past i s script m)) in
          let l : LastAt m b = earlier_one (ap (λ bs. slice_get bs (length bs - 1)) (sym same) ∙ h) in
          record { n = l.n; below = omega (arith, l.below); is = l.is; dispatch = l.dispatch; none = same ∙ l.none }

      here : Some b ≡ Some (at_state m) → b ≡ at_state m
      here h = cc

      past_here : point_of i (at_state m) ≡ DispatchPoint
          → past i s script (suc m) ≡ (past i s script m ++ pictures i s script m) ++ Dispatch (at_state m) ∷ []
      past_here is =
          unfold past in ap (λ ps. past i s script m ++ pictures i s script m ++ ps)
          (point_is m ∙ ap (λ p. point_events p (at_state m)) is)

      by_point : (last_dispatch (past i s script m) ≡ Some b → LastAt m b) → (p : Point) → point_of i (at_state m) ≡ p → LastAt (suc m) b
      by_point earlier_one DispatchPoint is =
          record {
            n = m;
            below = omega arith;
            is = here (sym h ∙ ap last_dispatch (past_here is) ∙ last-dispatched (past i s script m ++ pictures i s script m) (at_state m));
            dispatch = is_dispatch_point (is_stop i (at_state m)) (is_dispatch i (at_state m)) is;
            none = refl;
          }
      by_point earlier_one StopPoint is = kept earlier_one (ap dispatches (point_is m) ∙ ap (λ p. dispatches (point_events p (at_state m))) is)
      by_point earlier_one OtherPoint is = kept earlier_one (ap dispatches (point_is m) ∙ ap (λ p. dispatches (point_events p (at_state m))) is)

  -- the cycles of the states rise
  pub not_later : (n m : ℕ) → n < suc m → (at_state n).cycle ≤ (at_state m).cycle
  not_later n zero below = let same : n ≡ 0 = omega (arith, below) in rw same (omega arith)
  not_later n (suc m) below = by_test (not_later n m) (nat_le n m) refl
    where
      by_test : (n < suc m → (at_state n).cycle ≤ (at_state m).cycle) → (t : Bool) → nat_le n m ≡ t → (at_state n).cycle ≤ (at_state (suc m)).cycle
      by_test so_far true h =
          let low : n ≤ m = grind (arith, nat_tests) in
          omega (arith, so_far (omega (arith, low)), later-move i.rom (held_at script) (at_state m))
      by_test so_far false h =
          let high : m < n = grind (arith, nat_tests) in
          let same : n ≡ suc m = omega (arith, high, below) in
          rw same (omega arith)
