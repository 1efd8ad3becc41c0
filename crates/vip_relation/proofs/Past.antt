-- The events of a run, state by state: those of the states before one, its pictures, and its point.
use Rattle.std.proofs.Common.{◌≡◌, ◌⊎◌, inl, inr, ℕ, zero, suc, ◌+◌, ◌-◌, ◌*◌, ◌<◌, ◌≤◌, Bool, true, false, cond, List, [], ◌∷◌, ◌++◌, length, filter, map, refl, sym, ap, ◌∙◌, arith, append_assoc, append-nil, length-append, add-one, Option, Some}
use Rattle.std.specs.Prelude.{nat_le, ◌&&◌, if◌then◌else◌, slice_get}
use Rattle.std.specs.Option.{option_map}
use Rattle.std.proofs.lemmas.Bool.{cases_lt, le-leb, leb-true, leb-false}
use Rattle.std.proofs.lemmas.List.{length-map}
use Rattle.machine.specs.Board.{Machine, start}
use Rattle.machine.specs.Keys.{Event as KeyEvent, held_at}
use Rattle.machine.specs.Run.{states, run_to, after_moves}
use Rattle.machine.specs.Pictures.{interrupt_at, window_end, windows_ended, picture_of, is_shown}
use Rattle.machine.proofs.Counts.{windows}
use Rattle.machine.proofs.Runs.{later-move, run_to-next, run_to-past}
use Rattle.chip8_lang.specs.Events.{Event, is_dispatch, is_stop, numbers_from, pictures_at, events_at, events_behind, events_of}
use Rattle.chip8_lang.specs.Events.Event.{Picture, Dispatch, Stopped}
use Rattle.chip8_lang.specs.Places.{Interpreter}
use Rattle.vip_board.specs.Shown.{HasPicturesSince, shown_frames, shown_since}
use Rattle.vip_video.specs.Chip.{Pictures}
use Rattle.vip_relation.specs.State.{Start, events_from, first_events, machine_of}
use Rattle.vip_relation.specs.State.Start.{Reset, Saved}
use Rattle.vip_relation.specs.Points.{point_of, point_events}
use Rattle.vip_relation.specs.declared.point.Point.{Point}
use Rattle.vip_relation.specs.declared.point.Point.TheVariants.{Dispatch as DispatchPoint, Stop as StopPoint, Other as OtherPoint}
use Rattle.vip_board.proofs.Along.{in-turn, states-more, soon-move, run-split, Later, later-run, later-one, shown-later}
use Rattle.vip_board.proofs.Windows.{ended, window-more, shown-same}

-- ---- the pictures at a state

-- the window of the next frame has not ended
not_ended : (t : ℕ) → t < window_end (windows_ended t)
not_ended t = omega (arith, windows t)

filter_same : (p q : ℕ → Bool) (w n : ℕ) → ((m : ℕ) → m < w + n → p m ≡ q m) → filter p (numbers_from w n) ≡ filter q (numbers_from w n)
filter_same p q w zero h = refl
filter_same p q w (suc n) h =
    ap (λ keep. cond keep (w ∷ filter p (numbers_from (w + 1) n)) (filter p (numbers_from (w + 1) n))) (h w (omega arith))
    ∙ ap (λ others. cond (q w) (w ∷ others) others) (filter_same p q (w + 1) n (λ m l. h m (omega (arith, l))))

-- they don't depend on the states from there on
pub pictures-later : (i : Interpreter) (xs ys : List Machine) (before t : ℕ) → before ≤ t → Later t ys
    → pictures_at i (xs ++ ys) before t ≡ pictures_at i xs before t
pictures-later i xs ys before t order later =
    ap (map Picture)
    (filter_same (is_shown i.rom (xs ++ ys)) (is_shown i.rom xs) (windows_ended before) (windows_ended t - windows_ended before)
    (λ m l. shown-later i.rom t m xs ys (ended m t (omega (arith, l, windows before, windows t, order))) later))

-- ---- state by state

-- a run from its start is one of events behind it
start_by : (i : Interpreter) (script : List KeyEvent) (s : Start) (limit : ℕ)
    → events_from i script s limit ≡ first_events s ++ events_behind i script (machine_of s) limit
unfolding events_of windows_ended
start_by i script (Reset game) limit =
    ap (events_at i (run_to i.rom (held_at script) (start game) limit) 0) (run_to-next i.rom (held_at script) limit (start game) (omega arith))
start_by i script (Saved file) limit = refl

few_first : (s : Start) → length (first_events s) ≤ 1
few_first (Reset game) = omega arith
few_first (Saved file) = omega arith

module _ (i : Interpreter) (s : Start) (script : List KeyEvent) where
  abbrev pub state : ℕ → Machine
  state n = after_moves i.rom (held_at script) (machine_of s) n

  abbrev pub earlier : ℕ → List Machine
  earlier n = states i.rom (held_at script) (machine_of s) n

  abbrev pub onward : ℕ → ℕ → List Machine
  onward limit n = run_to i.rom (held_at script) (state n) limit

  abbrev events : ℕ → List Event
  events limit = events_from i script s limit

  abbrev run : ℕ → List Machine
  run limit = run_to i.rom (held_at script) (machine_of s) limit

  -- the cycle of the state before, of which the first has none
  abbrev pub before : ℕ → ℕ
  before zero = (machine_of s).cycle
  before (suc n) = (state n).cycle

  abbrev pub pictures : ℕ → List Event
  pictures n = pictures_at i (earlier n) (before n) (state n).cycle

  abbrev pub point : ℕ → List Event
  point zero = first_events s
  point (suc n) = point_events (point_of i (state (suc n))) (state (suc n))

  -- the events of the first n states
  unfoldable pub past : ℕ → List Event
  past zero = []
  past (suc n) = past n ++ pictures n ++ point n

  -- none of the first n states is a stop point
  abbrev pub Runs : ℕ → Type 0
  Runs n = (k : ℕ) → k < n → is_stop i (state k) ≡ false

  pub in-order : (n : ℕ) → before n ≤ (state n).cycle
  in-order zero = omega arith
  in-order (suc n) = omega (arith, later-move i.rom (held_at script) (state n))

  -- no window ends at the first state
  none_first : pictures 0 ≡ []
  none_first =
      ap (λ n. map Picture (filter (is_shown i.rom (earlier 0)) (numbers_from (windows_ended (machine_of s).cycle) n)))
      (no_more (windows_ended (machine_of s).cycle))
    where
      no_more : (w : ℕ) → w - w ≡ 0
      no_more w = omega arith

  pub past-first : past 1 ≡ first_events s
  unfolding past
  past-first = ap (λ ps. ps ++ first_events s) none_first

  -- ---- the events of the run up to a limit

  goes_on : (stop dispatch : Bool) (b : Machine) (others : List Event) → stop ≡ false
      → (if stop then Stopped b ∷ [] else if dispatch then Dispatch b ∷ others else others)
      ≡ point_events (if stop then StopPoint else if dispatch then DispatchPoint else OtherPoint) b ++ others
  goes_on true dispatch b others runs = cc
  goes_on false true b others runs = refl
  goes_on false false b others runs = refl

  stops : (stop dispatch : Bool) (b : Machine) (others : List Event) → stop ≡ true
      → (if stop then Stopped b ∷ [] else if dispatch then Dispatch b ∷ others else others)
      ≡ point_events (if stop then StopPoint else if dispatch then DispatchPoint else OtherPoint) b
  stops true dispatch b others runs = refl
  stops false dispatch b others runs = cc

  last_one : (stop dispatch : Bool) (b : Machine)
      → (if stop then Stopped b ∷ [] else if dispatch then Dispatch b ∷ [] else [])
      ≡ point_events (if stop then StopPoint else if dispatch then DispatchPoint else OtherPoint) b
  last_one true dispatch b = refl
  last_one false true b = refl
  last_one false false b = refl

  -- the events behind the n-th state
  abbrev behind : ℕ → ℕ → List Event
  behind limit n = events_at i (run limit) (state n).cycle (onward limit (suc n))

  -- the pictures at a state are the same by the whole run
  pictures_whole : (limit n : ℕ) → (state n).cycle ≤ limit → pictures_at i (run limit) (before n) (state n).cycle ≡ pictures n
  pictures_whole limit n within =
      ap (λ run. pictures_at i run (before n) (state n).cycle) (run-split i.rom (held_at script) limit n (machine_of s) within)
      ∙ pictures-later i (earlier n) (onward limit n) (before n) (state n).cycle (in-order n) (later-run i.rom (held_at script) limit (state n))

  -- behind the n-th state: the pictures of the next one, its point, and the events behind that
  behind_here : (limit n : ℕ) → (state (suc n)).cycle ≤ limit → is_stop i (state (suc n)) ≡ false
      → behind limit n ≡ pictures (suc n) ++ (point (suc n) ++ behind limit (suc n))
  behind_here limit n within runs =
      ap (events_at i (run limit) (state n).cycle) (run_to-next i.rom (held_at script) limit (state (suc n)) within)
      ∙ ap (λ first. pictures_at i (run limit) (state n).cycle (state (suc n)).cycle ++ first)
      (goes_on (is_stop i (state (suc n))) (is_dispatch i (state (suc n))) (state (suc n)) (behind limit (suc n)) runs)
      ∙ ap (λ first. first ++ (point (suc n) ++ behind limit (suc n))) (pictures_whole limit (suc n) within)

  behind_stop : (limit n : ℕ) → (state (suc n)).cycle ≤ limit → is_stop i (state (suc n)) ≡ true → behind limit n ≡ pictures (suc n) ++ point (suc n)
  behind_stop limit n within stop =
      ap (events_at i (run limit) (state n).cycle) (run_to-next i.rom (held_at script) limit (state (suc n)) within)
      ∙ ap (λ first. pictures_at i (run limit) (state n).cycle (state (suc n)).cycle ++ first)
      (stops (is_stop i (state (suc n))) (is_dispatch i (state (suc n))) (state (suc n)) (behind limit (suc n)) stop)
      ∙ ap (λ first. first ++ point (suc n)) (pictures_whole limit (suc n) within)

  behind_none : (limit n : ℕ) → limit < (state (suc n)).cycle → behind limit n ≡ []
  behind_none limit n over = ap (events_at i (run limit) (state n).cycle) (run_to-past i.rom (held_at script) limit (state (suc n)) over)

  behind_last : (limit n : ℕ) → (state (suc n)).cycle ≤ limit → limit < (state (suc (suc n))).cycle → behind limit n ≡ pictures (suc n) ++ point (suc n)
  behind_last limit n within over =
      ap (events_at i (run limit) (state n).cycle)
      (run_to-next i.rom (held_at script) limit (state (suc n)) within
      ∙ ap (λ tail. state (suc n) ∷ tail) (run_to-past i.rom (held_at script) limit (state (suc (suc n))) over))
      ∙ ap (λ first. pictures_at i (run limit) (state n).cycle (state (suc n)).cycle ++ first)
      (last_one (is_stop i (state (suc n))) (is_dispatch i (state (suc n))) (state (suc n)))
      ∙ ap (λ first. first ++ point (suc n)) (pictures_whole limit (suc n) within)

  regroup : (a b c d : List Event) → a ++ (b ++ (c ++ d)) ≡ (a ++ b ++ c) ++ d
  regroup a b c d = simp append_assoc

  pub events-first : (limit : ℕ) → events limit ≡ past 1 ++ behind limit 0
  events-first limit = start_by i script s limit ∙ ap (λ first. first ++ behind limit 0) (sym past-first)

  -- a run that goes on behind the n-th state
  pub events-on : (limit n : ℕ) → (state n).cycle ≤ limit → Runs (suc n) → events limit ≡ past (suc n) ++ behind limit n
  unfolding past
  events-on limit zero within runs = events-first limit
  events-on limit (suc n) within runs =
      let first : (state n).cycle ≤ limit = omega (arith, within, later-move i.rom (held_at script) (state n)) in
      events-on limit n first (λ k l. runs k (omega (arith, l)))
      ∙ ap (λ others. past (suc n) ++ others) (behind_here limit n within (runs (suc n) (omega arith)))
      ∙ regroup (past (suc n)) (pictures (suc n)) (point (suc n)) (behind limit (suc n))

  flat : (a b c : List Event) → a ++ (b ++ c) ≡ a ++ b ++ c
  flat a b c = simp append_assoc

  -- one that ends at the n-th state
  pub events-last : (limit n : ℕ) → (state n).cycle ≤ limit → limit < (state (suc n)).cycle → Runs n → events limit ≡ past (suc n)
  unfolding past
  events-last limit zero within over runs = events-first limit ∙ ap (λ others. past 1 ++ others) (behind_none limit 0 over) ∙ append-nil (past 1)
  events-last limit (suc n) within over runs =
      let first : (state n).cycle ≤ limit = omega (arith, within, later-move i.rom (held_at script) (state n)) in
      events-on limit n first runs ∙ ap (λ others. past (suc n) ++ others) (behind_last limit n within over)
      ∙ flat (past (suc n)) (pictures (suc n)) (point (suc n))

  -- one that stops there
  events_stopped : (limit n : ℕ) → (state (suc n)).cycle ≤ limit → is_stop i (state (suc n)) ≡ true → Runs (suc n)
      → events limit ≡ past (suc (suc n))
  unfolding past
  events_stopped limit n within stop runs =
      let first : (state n).cycle ≤ limit = omega (arith, within, later-move i.rom (held_at script) (state n)) in
      events-on limit n first runs ∙ ap (λ others. past (suc n) ++ others) (behind_stop limit n within stop)
      ∙ flat (past (suc n)) (pictures (suc n)) (point (suc n))

  -- no run begins at a stop point
  module _ (begins : is_stop i (machine_of s) ≡ false) where
    pub events-stop : (limit n : ℕ) → (state n).cycle ≤ limit → is_stop i (state n) ≡ true → Runs n → events limit ≡ past (suc n)
    events-stop limit zero within stop runs = absurd (not_both (is_stop i (machine_of s)) begins stop)
      where
        not_both : (b : Bool) → b ≡ false → b ≡ true → ⊥
        not_both b h g = cc
    events-stop limit (suc n) within stop runs = events_stopped limit n within stop runs

    -- either way, those up to the n-th state come first, and a stop point is the last
    pub record Goes (limit n : ℕ) : Type 0 where
      pub others : List Event
      pub is : events limit ≡ past (suc n) ++ others
      pub stop : is_stop i (state n) ≡ true → others ≡ []

    goes_by : (limit n : ℕ) (stop : Bool) → is_stop i (state n) ≡ stop → (state n).cycle ≤ limit → Runs n → Goes limit n
    goes_by limit n true h within runs = record { others = []; is = events-stop limit n within h runs ∙ sym (append-nil (past (suc n))); stop = λ e. refl }
    goes_by limit n false h within runs =
        record { others = behind limit n; is = events-on limit n within (all_run limit n h runs); stop = λ e. cc }
      where
        all_run : (limit n : ℕ) → is_stop i (state n) ≡ false → Runs n → Runs (suc n)
        all_run limit n h runs k l = by_test (cases_lt k n)
          where
            by_test : (k < n) ⊎ (n ≤ k) → is_stop i (state k) ≡ false
            by_test (inl less) = runs k less
            by_test (inr more) = let same : k ≡ n = omega (arith, l, more) in ap (λ n. is_stop i (state n)) same ∙ h

    pub goes : (limit n : ℕ) → (state n).cycle ≤ limit → Runs n → Goes limit n
    goes limit n within runs = goes_by limit n (is_stop i (state n)) refl within runs

  -- up to a limit before the next state there are no more than those of the states up to the n-th
  pub events-short : (limit n : ℕ) → limit < (state (suc n)).cycle → Runs n → length (events limit) ≤ length (past (suc n))
  events-short limit zero over runs =
      let same : events limit ≡ past 1 = events-first limit ∙ ap (λ others. past 1 ++ others) (behind_none limit 0 over) ∙ append-nil (past 1) in
      omega (arith, ap length same)
  events-short limit (suc n) over runs =
      by_test (λ short. events-short limit n short (λ k l. runs k (omega (arith, l)))) (nat_le (state (suc n)).cycle limit) refl
    where
      by_test : (limit < (state (suc n)).cycle → length (events limit) ≤ length (past (suc n))) → (t : Bool) → nat_le (state (suc n)).cycle limit ≡ t
          → length (events limit) ≤ length (past (suc (suc n)))
      by_test shorter true h =
          let within : (state (suc n)).cycle ≤ limit = leb-true (state (suc n)).cycle limit h in
          omega (arith, ap length (events-last limit (suc n) within over runs))
      by_test shorter false h =
          let short : limit < (state (suc n)).cycle = leb-false (state (suc n)).cycle limit h in
          let few : length (events limit) ≤ length (past (suc n)) = shorter short in
          let more : length (past (suc (suc n))) ≡ length (past (suc n)) + length (pictures (suc n)) + length (point (suc n)) = unfold past in simp length-append in
          omega (arith, few, more)

  -- ---- at most one picture and one point at a state

  -- what the video chip has of pictures at the next state, by what it had at this one
  pub data Finishes (n count count' : ℕ) (finished' : Option (List (List ℕ))) : Type 0 where
    NoPicture : count' ≡ count → pictures (suc n) ≡ [] → Finishes n count count' finished'
    OnePicture : (m : ℕ) → count' ≡ count + 1 → pictures (suc n) ≡ Picture m ∷ [] → window_end m ≤ (state (suc n)).cycle
        → (state n).cycle < window_end m → finished' ≡ Some (picture_of i.rom (earlier (suc n)) m) → Finishes n count count' finished'

  -- one window at most ends in a move
  one_window : (n : ℕ) → (windows_ended (state (suc n)).cycle ≡ windows_ended (state n).cycle)
      ⊎ (windows_ended (state (suc n)).cycle ≡ suc (windows_ended (state n).cycle))
  one_window n =
      window-more (state n).cycle (state (suc n)).cycle (omega (arith, later-move i.rom (held_at script) (state n)))
      (soon-move i.rom (held_at script) (state n))

  -- the frames shown so far are the same by one state more
  abbrev since : List Machine → ℕ → Bool
  since run = shown_since (machine_of s).cycle i.rom run

  frames_kept : (n : ℕ) → shown_frames (since (earlier (suc n))) (windows_ended (state n).cycle)
      ≡ shown_frames (since (earlier n)) (windows_ended (state n).cycle)
  frames_kept n =
      shown-same (since (earlier (suc n))) (since (earlier n)) (windows_ended (state n).cycle)
      (λ m l. ap (λ shown. nat_le (machine_of s).cycle (interrupt_at m) && shown)
      (ap (λ run. is_shown i.rom run m) (states-more i.rom (held_at script) n (machine_of s))
      ∙ shown-later i.rom (state n).cycle m (earlier n) (state n ∷ []) (ended m (state n).cycle l) (later-one (state n))))

  -- the first window to end behind the start is that of a frame whose interrupt starts behind it
  abbrev pub Apart : Type 0
  Apart = (m : ℕ) → windows_ended (machine_of s).cycle ≤ m → (machine_of s).cycle ≤ interrupt_at m

  -- n windows, or one more, by the frames and by the numbers of their pictures
  none_more : (p : ℕ → Bool) (w w' : ℕ) → w' ≡ w → map Picture (filter p (numbers_from w (w' - w))) ≡ []
  none_more p w w' same = ap (λ k. map Picture (filter p (numbers_from w k))) (nothing w w' same)
    where
      nothing : (w w' : ℕ) → w' ≡ w → w' - w ≡ 0
      nothing w w' same = omega (arith, same)

  one_more : (p : ℕ → Bool) (w w' : ℕ) → w' ≡ suc w → map Picture (filter p (numbers_from w (w' - w))) ≡ cond (p w) (Picture w ∷ []) []
  one_more p w w' same = ap (λ k. map Picture (filter p (numbers_from w k))) (one w w' same) ∙ by_case (p w)
    where
      one : (w w' : ℕ) → w' ≡ suc w → w' - w ≡ 1
      one w w' same = omega (arith, same)

      by_case : (keep : Bool) → map Picture (cond keep (w ∷ []) []) ≡ cond keep (Picture w ∷ []) []
      by_case true = refl
      by_case false = refl

  module _ (n : ℕ) (p p' : Pictures) (apart : Apart) (shows : HasPicturesSince (machine_of s).cycle i.rom (earlier n) (state n).cycle p)
      (shows' : HasPicturesSince (machine_of s).cycle i.rom (earlier (suc n)) (state (suc n)).cycle p') where
    abbrev is_shown_next : ℕ → Bool
    is_shown_next = is_shown i.rom (earlier (suc n))

    abbrev since_next : ℕ → Bool
    since_next = since (earlier (suc n))

    -- the next frame counts
    late : since_next (windows_ended (state n).cycle) ≡ is_shown_next (windows_ended (state n).cycle)
    late =
        let order : (machine_of s).cycle ≤ (state n).cycle = in-turn i.rom (held_at script) n 0 (machine_of s) (omega arith) in
        let ended_by : windows_ended (machine_of s).cycle ≤ windows_ended (state n).cycle =
        omega (arith, windows (machine_of s).cycle, windows (state n).cycle, order) in
        ap (λ late. late && is_shown_next (windows_ended (state n).cycle))
        (le-leb (machine_of s).cycle (interrupt_at (windows_ended (state n).cycle)) (apart (windows_ended (state n).cycle) ended_by))

    -- the frames shown up to here
    frames_here : p.count ≡ length (shown_frames since_next (windows_ended (state n).cycle))
    frames_here = shows.count ∙ ap length (sym (frames_kept n))

    by_frame : (keep : Bool) → is_shown_next (windows_ended (state n).cycle) ≡ keep
        → windows_ended (state (suc n)).cycle ≡ suc (windows_ended (state n).cycle) → Finishes n p.count p'.count p'.finished
    by_frame true shown next =
        let w = windows_ended (state n).cycle in
        let frames : shown_frames since_next (windows_ended (state (suc n)).cycle) ≡ w ∷ shown_frames since_next w =
        ap (shown_frames since_next) next ∙ ap (λ keep. cond keep (w ∷ shown_frames since_next w) (shown_frames since_next w)) (late ∙ shown) in
        OnePicture w
        (shows'.count ∙ ap length frames ∙ ap suc (sym frames_here) ∙ sym (add-one p.count))
        (one_more is_shown_next w (windows_ended (state (suc n)).cycle) next ∙ ap (λ keep. cond keep (Picture w ∷ []) []) shown)
        (ended w (state (suc n)).cycle (omega (arith, next)))
        (not_ended (state n).cycle)
        (shows'.finished
        ∙ ap (λ l. option_map (picture_of i.rom (earlier (suc n))) (slice_get l 0)) frames)
    by_frame false shown next =
        let w = windows_ended (state n).cycle in
        let frames : shown_frames since_next (windows_ended (state (suc n)).cycle) ≡ shown_frames since_next w =
        ap (shown_frames since_next) next ∙ ap (λ keep. cond keep (w ∷ shown_frames since_next w) (shown_frames since_next w)) (late ∙ shown) in
        NoPicture
        (shows'.count ∙ ap length frames ∙ sym frames_here)
        (one_more is_shown_next w (windows_ended (state (suc n)).cycle) next ∙ ap (λ keep. cond keep (Picture w ∷ []) []) shown)

    by_window : (windows_ended (state (suc n)).cycle ≡ windows_ended (state n).cycle)
        ⊎ (windows_ended (state (suc n)).cycle ≡ suc (windows_ended (state n).cycle)) → Finishes n p.count p'.count p'.finished
    by_window (inl same) =
        NoPicture
        (shows'.count ∙ ap (λ w. length (shown_frames since_next w)) same ∙ sym frames_here)
        (none_more is_shown_next (windows_ended (state n).cycle) (windows_ended (state (suc n)).cycle) same)
    by_window (inr next) = by_frame (is_shown_next (windows_ended (state n).cycle)) refl next

    pub finishes : Finishes n p.count p'.count p'.finished
    finishes = by_window (one_window n)

  -- ---- so a run has few events

  short_map : (ms : List ℕ) (k : ℕ) → length ms ≤ k → length (map Picture ms) ≤ k
  short_map ms k h = rw length-map h

  short_filter : (p : ℕ → Bool) (w n : ℕ) → length (filter p (numbers_from w n)) ≤ n
  short_filter p w zero = omega arith
  short_filter p w (suc n) = by_case (p w) (short_filter p (w + 1) n)
    where
      by_case : (keep : Bool) → length (filter p (numbers_from (w + 1) n)) ≤ n
          → length (cond keep (w ∷ filter p (numbers_from (w + 1) n)) (filter p (numbers_from (w + 1) n))) ≤ suc n
      by_case true h = omega (arith, h)
      by_case false h = omega (arith, h)

  few_pictures : (n : ℕ) → length (pictures n) ≤ 1
  few_pictures zero = omega (arith, ap length none_first)
  few_pictures (suc n) = by_window (one_window n)
    where
      by_window : (windows_ended (state (suc n)).cycle ≡ windows_ended (state n).cycle)
          ⊎ (windows_ended (state (suc n)).cycle ≡ suc (windows_ended (state n).cycle)) → length (pictures (suc n)) ≤ 1
      by_window (inl same) =
          short_map _ 1 (omega (
            arith,
            same,
            short_filter (is_shown i.rom (earlier (suc n))) (windows_ended (state n).cycle) (windows_ended
                (state (suc n)).cycle - windows_ended (state n).cycle),
          ))
      by_window (inr next) =
          short_map _ 1 (omega (
            arith,
            next,
            short_filter (is_shown i.rom (earlier (suc n))) (windows_ended (state n).cycle) (windows_ended
                (state (suc n)).cycle - windows_ended (state n).cycle),
          ))

  pub few-points : (n : ℕ) → length (point n) ≤ 1
  few-points zero = few_first s
  few-points (suc n) = by_case (point_of i (state (suc n)))
    where
      by_case : (p : Point) → length (point_events p (state (suc n))) ≤ 1
      by_case StopPoint = omega arith
      by_case DispatchPoint = omega arith
      by_case OtherPoint = omega arith

  pub few-events : (n : ℕ) → length (past n) ≤ 2 * n
  unfolding past
  few-events zero = omega arith
  few-events (suc n) =
      let all : length (past n ++ pictures n ++ point n) ≡ length (past n) + length (pictures n) + length (point n) = simp length-append in
      omega (arith, all, few-events n, few_pictures n, few-points n)
