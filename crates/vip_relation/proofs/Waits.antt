-- Which events may wait at the present state. Its picture comes first, and then its point: so none waits behind a dispatch point that was met
-- there, and at a stop point no dispatch point waits.
use Rattle.std.proofs.Common.{◌≡◌, ℕ, zero, suc, ◌+◌, ◌-◌, ◌<◌, ◌≤◌, Bool, true, false, List, [], ◌∷◌, ◌++◌, length, drop, filter, map, refl, sym, ap, ◌∙◌, subst, arith, append-nil, append_assoc, Some}
use Rattle.std.specs.Prelude.{filter_map, slice_get, if◌then◌else◌}
use Rattle.std.specs.Option.{option_map}
use Rattle.std.proofs.lemmas.List.{drop_all, take-append-drop}
use Rattle.std.proofs.lemmas.List.Elements.{filter_map-append}
use Rattle.machine.specs.Board.{Machine}
use Rattle.machine.specs.Keys.{Event as KeyEvent, held_at}
use Rattle.machine.specs.Pictures.{windows_ended, is_shown}
use Rattle.machine.proofs.Runs.{later-move}
use Rattle.chip8_lang.specs.Events.{Event, is_dispatch, is_stop, numbers_from}
use Rattle.chip8_lang.specs.Events.Event.{Picture, Dispatch, Stopped}
use Rattle.chip8_lang.specs.Places.{Interpreter}
use Rattle.chip8_lang.specs.View.{view_at}
use Rattle.vip_relation.specs.State.Start.{Reset, Saved}
use Rattle.vip_relation.specs.State.{Start, VipState, first_events, machine_of, interpreter, events_to, events_met, events_waiting}
use Rattle.vip_relation.specs.Follows.{Follows, dispatch_of, last_view}
use Rattle.vip_relation.specs.Points.{point_of, point_events}
use Rattle.vip_relation.specs.declared.point.Point.{Point}
use Rattle.vip_relation.specs.declared.point.Point.TheVariants.{Dispatch as DispatchPoint, Stop as StopPoint, Other as OtherPoint}
use Rattle.vip_relation.proofs.Past.{state, earlier, before, past, pictures, point, events-last, few-points}
use Rattle.vip_relation.proofs.Steps.{Others, others-to, begins, events-here}

-- ---- dispatch points before a cycle

-- each dispatch point among some events comes before cycle t
pub Earlier : ℕ → List Event → Type 0
Earlier t [] = Unit {0}
Earlier t (Picture m ∷ es) = Earlier t es
Earlier t (Dispatch b ∷ es) = (b.cycle < t) × Earlier t es
Earlier t (Stopped b ∷ es) = Earlier t es

earlier_append : (t : ℕ) (xs ys : List Event) → Earlier t xs → Earlier t ys → Earlier t (xs ++ ys)
unfolding Earlier
earlier_append t [] ys h g = g
earlier_append t (Picture m ∷ xs) ys h g = earlier_append t xs ys h g
earlier_append t (Dispatch b ∷ xs) ys h g = (h.0, earlier_append t xs ys h.1 g)
earlier_append t (Stopped b ∷ xs) ys h g = earlier_append t xs ys h g

earlier_on : (t u : ℕ) (xs : List Event) → t ≤ u → Earlier t xs → Earlier u xs
unfolding Earlier
earlier_on t u [] order h = tt
earlier_on t u (Picture m ∷ xs) order h = earlier_on t u xs order h
earlier_on t u (Dispatch b ∷ xs) order h = (omega (arith, h.0, order), earlier_on t u xs order h.1)
earlier_on t u (Stopped b ∷ xs) order h = earlier_on t u xs order h

earlier_pictures : (t : ℕ) (ms : List ℕ) → Earlier t (map Picture ms)
unfolding Earlier
earlier_pictures t [] = tt
earlier_pictures t (m ∷ ms) = earlier_pictures t ms

earlier_point : (t : ℕ) (p : Point) (b : Machine) → b.cycle < t → Earlier t (point_events p b)
unfolding Earlier
earlier_point t DispatchPoint b before = (before, tt)
earlier_point t StopPoint b before = tt
earlier_point t OtherPoint b before = tt

earlier_first : (t : ℕ) (s : Start) → (machine_of s).cycle < t → Earlier t (first_events s)
unfolding Earlier
earlier_first t (Reset game) before = tt
earlier_first t (Saved file) before = (before, tt)

pub earlier-drop : (t n : ℕ) (es : List Event) → Earlier t es → Earlier t (drop n es)
unfolding Earlier
earlier-drop t zero es h = h
earlier-drop t (suc n) [] h = tt
earlier-drop t (suc n) (Picture m ∷ es) h = earlier-drop t n es h
earlier-drop t (suc n) (Dispatch b ∷ es) h = earlier-drop t n es h.1
earlier-drop t (suc n) (Stopped b ∷ es) h = earlier-drop t n es h

-- any of them does
pub earlier-at : (t : ℕ) (es : List Event) → Earlier t es → (k : ℕ) (b : Machine) → slice_get (filter_map dispatch_of es) k ≡ Some b → b.cycle < t
unfolding Earlier
earlier-at t [] h k b at = cc
earlier-at t (Picture m ∷ es) h k b at = earlier-at t es h k b at
earlier-at t (Dispatch c ∷ es) h zero b at = let same : c ≡ b = cc in subst (λ (x : Machine). x.cycle < t) same h.0
earlier-at t (Dispatch c ∷ es) h (suc k) b at = earlier-at t es h.1 k b at
earlier-at t (Stopped c ∷ es) h k b at = earlier-at t es h k b at

-- so are those of the states up to one before that cycle
module _ (i : Interpreter) (s : Start) (script : List KeyEvent) where
  earlier_here : (t n : ℕ) → (state i s script n).cycle < t → Earlier t (point i s script n)
  earlier_here t zero low = earlier_first t s low
  earlier_here t (suc n) low = earlier_point t (point_of i (state i s script (suc n))) (state i s script (suc n)) low

  earlier_with : (t n : ℕ) → (state i s script n).cycle < t → Earlier (state i s script n).cycle (past i s script n)
      → Earlier t (past i s script (suc n))
  unfolding past
  earlier_with t n low others =
      earlier_append t (past i s script n ++ pictures i s script n) (point i s script n)
      (earlier_append t (past i s script n) (pictures i s script n)
      (earlier_on (state i s script n).cycle t (past i s script n) (omega (arith, low)) others) (earlier_pictures t _))
      (earlier_here t n low)

  earlier_past : (n : ℕ) → Earlier (state i s script n).cycle (past i s script n)
  unfolding past Earlier
  earlier_past zero = tt
  earlier_past (suc n) = earlier_with (state i s script (suc n)).cycle n (later-move i.rom (held_at script) (state i s script n)) (earlier_past n)

  pub earlier-next : (t n : ℕ) → (state i s script n).cycle < t → Earlier t (past i s script (suc n))
  earlier-next t n low = earlier_with t n low (earlier_past n)

-- one that comes at t or later is the last event
last_one : (t k : ℕ) (xs ys others : List Event) (b : Machine) (rest : List Event) → Earlier t xs → length ys ≤ 1 → k < length (xs ++ ys)
    → t ≤ b.cycle → drop k ((xs ++ ys) ++ others) ≡ Dispatch b ∷ rest → length (xs ++ ys) ≤ k + 1
unfolding Earlier
last_one t k [] ys others b rest before few below late is = omega (arith, few)
last_one t zero (Picture m ∷ xs) ys others b rest before few below late is = cc
last_one t zero (Dispatch c ∷ xs) ys others b rest before few below late is =
    absurd (omega (arith, before.0, late, ap (λ (x : Machine). x.cycle) (same is)))
  where
    same : Dispatch c ∷ ((xs ++ ys) ++ others) ≡ Dispatch b ∷ rest → c ≡ b
    same e = cc
last_one t zero (Stopped c ∷ xs) ys others b rest before few below late is = cc
last_one t (suc k) (Picture m ∷ xs) ys others b rest before few below late is =
    let shorter = last_one t k xs ys others b rest before few (omega (arith, below)) late is in
    omega (arith, shorter)
last_one t (suc k) (Dispatch c ∷ xs) ys others b rest before few below late is =
    let shorter = last_one t k xs ys others b rest before.1 few (omega (arith, below)) late is in
    omega (arith, shorter)
last_one t (suc k) (Stopped c ∷ xs) ys others b rest before few below late is =
    let shorter = last_one t k xs ys others b rest before few (omega (arith, below)) late is in
    omega (arith, shorter)

-- ---- no dispatch point

none_of_pictures : (ms : List ℕ) (es : List Event) → filter_map dispatch_of es ≡ [] → filter_map dispatch_of (map Picture ms ++ es) ≡ []
none_of_pictures [] es none = none
none_of_pictures (m ∷ ms) es none = none_of_pictures ms es none

none_of_stop : (stop dispatch : Bool) (b : Machine) → stop ≡ true
    → filter_map dispatch_of (point_events (if stop then StopPoint else if dispatch then DispatchPoint else OtherPoint) b) ≡ []
none_of_stop true dispatch b h = refl
none_of_stop false dispatch b h = cc

none_of_more : (k : ℕ) (es : List Event) → filter_map dispatch_of es ≡ [] → filter_map dispatch_of (drop k es) ≡ []
none_of_more zero es none = none
none_of_more (suc k) [] none = none
none_of_more (suc k) (Picture m ∷ es) none = none_of_more k es none
none_of_more (suc k) (Dispatch b ∷ es) none = cc
none_of_more (suc k) (Stopped b ∷ es) none = none_of_more k es none

none_behind : (k : ℕ) (xs es : List Event) → length xs ≤ k → filter_map dispatch_of es ≡ [] → filter_map dispatch_of (drop k (xs ++ es)) ≡ []
none_behind k [] es few none = none_of_more k es none
none_behind zero (x ∷ xs) es few none = absurd (omega (arith, few))
none_behind (suc k) (x ∷ xs) es few none = none_behind k xs es (omega (arith, few)) none

-- ---- at the present state

module _ (v : VipState) (f : Follows v) where
  abbrev i : Interpreter
  i = interpreter v

  abbrev now : ℕ
  now = v.board.machine.cycle

  abbrev at_state : ℕ → Machine
  at_state n = state i v.start v.board.script n

  abbrev past_of : ℕ → List Event
  past_of n = past i v.start v.board.script n

  abbrev frames_of : ℕ → List ℕ
  frames_of n =
      filter (is_shown i.rom (earlier i v.start v.board.script n))
      (numbers_from (windows_ended (before i v.start v.board.script n)) (windows_ended (at_state n).cycle - windows_ended (before i v.start v.board.script n)))

  abbrev pictures_of : ℕ → List Event
  pictures_of n = pictures i v.start v.board.script n

  abbrev point_of_state : ℕ → List Event
  point_of_state n = point i v.start v.board.script n

  here : events_to v now ≡ (past_of v.moves ++ pictures_of v.moves) ++ point_of_state v.moves
  unfolding past
  here = events-here v f

  -- where the last event met is the present dispatch point, no event waits
  pub none-behind-dispatch : (limit k : ℕ) (rest : List Event) → now ≤ limit → v.met ≡ k + 1
      → drop k (events_to v limit) ≡ Dispatch v.board.machine ∷ rest → events_waiting v ≡ []
  none-behind-dispatch limit k rest within met is =
      let o : Others v f limit = others-to v f limit within in
      let n : ℕ = v.moves in
      let cycle : now ≡ (at_state n).cycle = ap (λ (b : Machine). b.cycle) f.machine in
      let early : Earlier (at_state n).cycle (past_of n ++ pictures_of n) =
      earlier_append (at_state n).cycle (past_of n) (pictures_of n) (earlier_past i v.start v.board.script n)
      (earlier_pictures (at_state n).cycle (frames_of n)) in
      let all : length ((past_of n ++ pictures_of n) ++ point_of_state n) ≤ k + 1 =
      last_one (at_state n).cycle k (past_of n ++ pictures_of n) (point_of_state n) o.others v.board.machine rest early
      (few-points i v.start v.board.script n) (omega (arith, f.within, met, ap length here)) (omega (arith, cycle))
      (ap (λ es. drop k (es ++ o.others)) (sym here) ∙ ap (drop k) (sym o.all) ∙ is) in
      drop_all v.met (events_to v now) (omega (arith, all, met, ap length here))

  past_met : (n : ℕ) → v.moves ≡ n → length (past_of n) ≤ v.met
  unfolding past
  past_met zero is = omega arith
  past_met (suc n) is =
      let cycle : now ≡ (at_state (suc n)).cycle = ap (λ (b : Machine). b.cycle) f.machine ∙ ap (λ m. (at_state m).cycle) is in
      let next : (at_state n).cycle < (at_state (suc n)).cycle = later-move i.rom (held_at v.board.script) (at_state n) in
      let all : events_to v (at_state n).cycle ≡ past_of (suc n) =
      events-last i v.start v.board.script (at_state n).cycle n (omega arith) next (λ k below. f.runs k (omega (arith, below, is))) in
      let few : length (events_to v (at_state n).cycle) ≤ v.met = f.behind (at_state n).cycle (omega (arith, next, cycle)) in
      omega (arith, few, ap length all)

  none_at : (n : ℕ) → is_stop i (at_state n) ≡ true → filter_map dispatch_of (point_of_state n) ≡ []
  none_at zero stop = absurd (not_both (is_stop i (machine_of v.start)) (begins v f) stop)
    where
      not_both : (b : Bool) → b ≡ false → b ≡ true → ⊥
      not_both b h g = cc
  none_at (suc n) stop = none_of_stop (is_stop i (at_state (suc n))) (is_dispatch i (at_state (suc n))) (at_state (suc n)) stop

  -- at a stop point what is told is that of the last dispatch point before it, also where the stop or a picture waits
  pub last-at-stop : is_stop (interpreter v) v.board.machine ≡ true → v.last ≡ last_view v.edition (events_to v now)
  last-at-stop stop =
      let n : ℕ = v.moves in
      let point_none : filter_map dispatch_of (point_of_state n) ≡ [] = none_at n (ap (is_stop i) (sym f.machine) ∙ stop) in
      let none : filter_map dispatch_of (events_waiting v) ≡ [] =
      ap (λ es. filter_map dispatch_of (drop v.met es)) (here ∙ append_assoc (past_of n) (pictures_of n) (point_of_state n))
      ∙ none_behind v.met (past_of n) (pictures_of n ++ point_of_state n) (past_met n refl) (none_of_pictures (frames_of n) (point_of_state n) point_none) in
      let same : filter_map dispatch_of (events_to v now) ≡ filter_map dispatch_of (events_met v) =
      ap (filter_map dispatch_of) (sym (take-append-drop v.met (events_to v now)))
      ∙ filter_map-append dispatch_of (events_met v) (events_waiting v)
      ∙ ap (λ points. filter_map dispatch_of (events_met v) ++ points) none
      ∙ append-nil (filter_map dispatch_of (events_met v)) in
      f.last ∙ ap (λ points. option_map (view_at v.edition) (slice_get points (length points - 1))) (sym same)
