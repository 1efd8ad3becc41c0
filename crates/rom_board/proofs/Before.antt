-- The states of a run before a cycle don't matter to a frame whose interrupt comes at or behind it, nor so to the events from that cycle on.
use Rattle.std.proofs.Common.{◌≡◌, ◌⊎◌, inl, inr, ℕ, zero, suc, ◌+◌, ◌-◌, ◌*◌, ◌/◌, ◌<◌, ◌≤◌, Bool, true, false, cond, List, [], ◌∷◌, ◌++◌, filter, map, refl, ap, ◌∙◌, arith}
use Rattle.std.specs.Prelude.{if◌then◌else◌, nat_le, nat_lt, ◌==◌, ◌&&◌, ◌||◌, not}
use Rattle.std.specs.List.{flat_map, list_all}
use Rattle.std.proofs.lemmas.Bool.Decides.{nat_tests}
use Rattle.std.proofs.lemmas.List.Elements.{filter-append}
use Rattle.std.proofs.lemmas.List.Folds.{list_all-append}
use Rattle.machine.specs.Board.{Machine, case_of, dma_byte, length_of, move}
use Rattle.machine.specs.Keys.{Keys}
use Rattle.machine.specs.Run.{after_moves, run_to, states}
use Rattle.machine.specs.Pictures.{interrupt_at, window_end, windows_ended, is_dma, is_dma_in, filled, line_bytes, lines_from, picture_of, is_within, is_shown, place, interrupt_place, window_place}
use Rattle.machine.proofs.Counts.{windows}
use Rattle.machine.proofs.Runs.{cycle-move, later-move}
use Rattle.chip8_lang.specs.Events.{Event, events_at, is_dispatch, is_stop, numbers_from, pictures_at}
use Rattle.chip8_lang.specs.Events.Event.{Picture, Dispatch, Stopped}
use Rattle.chip8_lang.specs.Places.{Interpreter}
use Rattle.machine.specs.Keys.{Event as KeyEvent, held_at}
use Rattle.vip_board.proofs.Along.{Later, in-turn, move-first, picture-later}
use Rattle.vip_board.proofs.Windows.{ended}
use Rattle.vip_relation.specs.Points.{point_of, point_events}
use Rattle.vip_relation.specs.State.Start.{Reset, Saved}
use Rattle.vip_relation.specs.State.{Start, first_events, machine_of}
use Rattle.vip_relation.specs.declared.point.Point.{Point}
use Rattle.vip_relation.specs.declared.point.Point.TheVariants.{Dispatch as DispatchPoint, Stop as StopPoint, Other as OtherPoint}
use Rattle.vip_relation.proofs.Past.{before as cycle_before, earlier, in-order, past, pictures, point, state}
use Rattle.vip_text.specs.Screens.{picture_file}
use Rattle.vip_text.specs.StateFile.{IsCycle}
use Rattle.vip_show.specs.Output.{picture_piece, picture_pieces}

-- a frame whose window hasn't ended by a cycle at which a state may be saved has its interrupt there or later
pub frame-later : (t : ℕ) → IsCycle t → (m : ℕ) → windows_ended t ≤ m → t ≤ interrupt_at m
frame-later t is m low = by_place is.outside
  where
    by_place : (place t < interrupt_place) ⊎ (window_place ≤ place t) → t ≤ interrupt_at m
    by_place (inl early) = omega (arith, early, low, windows t)
    by_place (inr late) = omega (arith, late, low, windows t)

-- these states come at or behind a cycle
pub From : ℕ → List Machine → Type 0
From t [] = Unit {0}
From t (b ∷ bs) = (t ≤ b.cycle) × From t bs

from_states : (rom : List ℕ) (held : ℕ → Keys) (t n : ℕ) (b : Machine) → t ≤ b.cycle → From t (states rom held b n)
unfolding From
from_states rom held t zero b order = tt
from_states rom held t (suc n) b order = (order, from_states rom held t n (move rom held b) (omega (arith, order, later-move rom held b)))

from_filter : (p : Machine → Bool) (t : ℕ) (bs : List Machine) → From t bs → From t (filter p bs)
unfolding From
from_filter p t [] h = tt
from_filter p t (b ∷ bs) h = by_test (p b) (from_filter p t bs h.1)
  where
    by_test : (keep : Bool) → From t (filter p bs) → From t (cond keep (b ∷ filter p bs) (filter p bs))
    by_test true tail = (h.0, tail)
    by_test false tail = tail

pub from-run : (rom : List ℕ) (held : ℕ → Keys) (t limit : ℕ) (b : Machine) → t ≤ b.cycle → From t (run_to rom held b limit)
unfolding run_to
from-run rom held t limit b order =
    from_filter (λ s. nat_le s.cycle limit) t (states rom held b (limit + 1)) (from_states rom held t (limit + 1) b order)

-- the moves of these states end by a cycle
pub Before : List ℕ → ℕ → List Machine → Type 0
Before rom t [] = Unit {0}
Before rom t (b ∷ bs) = ((b.cycle < t) × (b.cycle + length_of rom b ≤ t)) × Before rom t bs

pub before-states : (rom : List ℕ) (held : ℕ → Keys) (t n : ℕ) (b : Machine) → (after_moves rom held b n).cycle ≤ t → Before rom t (states rom held b n)
unfolding Before
before-states rom held t zero b within = tt
before-states rom held t (suc n) b within =
    let next : (after_moves rom held (move rom held b) n).cycle ≤ t =
    omega (arith, within, ap (λ (c : Machine). c.cycle) (move-first rom held n b)) in
    let order : (move rom held b).cycle ≤ (after_moves rom held (move rom held b) n).cycle = in-turn rom held n 0 (move rom held b) (omega arith) in (
      (omega (arith, order, next, later-move rom held b), omega (arith, order, next, cycle-move rom held b)),
      before-states rom held t n (move rom held b) next,
    )

module _ (rom : List ℕ) (t : ℕ) where
  and_false : (x : Bool) → (x && false) ≡ false
  and_false true = refl
  and_false false = refl

  or_true : (x : Bool) → (x || true) ≡ true
  or_true true = refl
  or_true false = refl

  not_within : (run : List Machine) (m : ℕ) (b : Machine) → t ≤ interrupt_at m → b.cycle + length_of rom b ≤ t → is_within rom run m b ≡ false
  not_within run m b early ends =
      ap (λ second. nat_lt b.cycle (window_end m) && second) (past (b.cycle + length_of rom b) (interrupt_at m) (omega (arith, early, ends)))
      ∙ and_false (nat_lt b.cycle (window_end m))
    where
      past : (x y : ℕ) → x ≤ y → nat_lt y x ≡ false
      past x y h = grind (arith, nat_tests)

  all_on : (run : List Machine) (m : ℕ) (xs : List Machine) → t ≤ interrupt_at m → Before rom t xs
      → list_all (λ b. b.on || not (is_within rom run m b)) xs ≡ true
  unfolding Before
  all_on run m [] early before = refl
  all_on run m (b ∷ xs) early before =
      ap (λ w. (b.on || not w) && list_all (λ b. b.on || not (is_within rom run m b)) xs) (not_within run m b early before.0.1)
      ∙ ap (λ x. x && list_all (λ b. b.on || not (is_within rom run m b)) xs) (or_true b.on)
      ∙ all_on run m xs early before.1

  pub shown-before : (m : ℕ) (xs ys : List Machine) → t ≤ interrupt_at m → Before rom t xs → is_shown rom (xs ++ ys) m ≡ is_shown rom ys m
  unfolding is_shown
  shown-before m xs ys early before =
      list_all-append (λ b. b.on || not (is_within rom ys m b)) xs ys
      ∙ ap (λ x. x && list_all (λ b. b.on || not (is_within rom ys m b)) ys) (all_on ys m xs early before)

  none_of : (line : ℕ) (xs : List Machine) → t ≤ 14 * line → Before rom t xs → filter (is_dma_in line) xs ≡ []
  unfolding Before
  none_of line [] early before = refl
  none_of line (b ∷ xs) early before =
      ap (λ keep. cond keep (b ∷ filter (is_dma_in line) xs) (filter (is_dma_in line) xs))
      (elsewhere (is_dma (case_of b)) (b.cycle / 14) line (omega (arith, early, before.0.0)))
      ∙ none_of line xs early before.1
    where
      elsewhere : (dma : Bool) (x line : ℕ) → x < line → (dma && x == line) ≡ false
      elsewhere true x line h = grind (arith, nat_tests)
      elsewhere false x line h = refl

  line-before : (line : ℕ) (xs ys : List Machine) → t ≤ 14 * line → Before rom t xs → line_bytes rom (xs ++ ys) line ≡ line_bytes rom ys line
  line-before line xs ys early before =
      ap (λ bs. filled (map (dma_byte rom) bs))
      (filter-append (is_dma_in line) xs ys
      ∙ ap (λ first. first ++ filter (is_dma_in line) ys) (none_of line xs early before))

  lines-before : (n line : ℕ) (xs ys : List Machine) → t ≤ 14 * line → Before rom t xs → lines_from rom (xs ++ ys) line n ≡ lines_from rom ys line n
  lines-before zero line xs ys early before = refl
  lines-before (suc n) line xs ys early before =
      ap (λ first. first ∷ lines_from rom (xs ++ ys) (line + 1) n) (line-before line xs ys early before)
      ∙ ap (λ others. line_bytes rom ys line ∷ others) (lines-before n (line + 1) xs ys (omega (arith, early)) before)

  pub picture-before : (m : ℕ) (xs ys : List Machine) → t ≤ interrupt_at m → Before rom t xs → picture_of rom (xs ++ ys) m ≡ picture_of rom ys m
  unfolding picture_of
  picture-before m xs ys early before = lines-before 128 (262 * m + 80) xs ys (omega (arith, early)) before

filter_from : (p q : ℕ → Bool) (w n : ℕ) → ((m : ℕ) → w ≤ m → p m ≡ q m) → filter p (numbers_from w n) ≡ filter q (numbers_from w n)
filter_from p q w zero h = refl
filter_from p q w (suc n) h =
    ap (λ keep. cond keep (w ∷ filter p (numbers_from (w + 1) n)) (filter p (numbers_from (w + 1) n))) (h w (omega arith))
    ∙ ap (λ others. cond (q w) (w ∷ others) others) (filter_from p q (w + 1) n (λ m l. h m (omega (arith, l))))

module _ (i : Interpreter) (t : ℕ) (is : IsCycle t) (xs ys : List Machine) (ended_by : Before i.rom t xs) where
  later_frame : (from : ℕ) → t ≤ from → (m : ℕ) → windows_ended from ≤ m → t ≤ interrupt_at m
  later_frame from order m low = frame-later t is m (omega (arith, low, order, windows t, windows from))

  pictures_same : (from to : ℕ) → t ≤ from → pictures_at i (xs ++ ys) from to ≡ pictures_at i ys from to
  pictures_same from to order =
      ap (map Picture)
      (filter_from (is_shown i.rom (xs ++ ys)) (is_shown i.rom ys) (windows_ended from) (windows_ended to - windows_ended from)
      (λ m low. shown-before i.rom t m xs ys (later_frame from order m low) ended_by))

  pub events-before : (from : ℕ) (bs : List Machine) → t ≤ from → From t bs → events_at i (xs ++ ys) from bs ≡ events_at i ys from bs
  unfolding From
  events-before from [] order later = refl
  events-before from (b ∷ bs) order later =
      ap (λ ps. ps ++ (if is_stop i b then Stopped b ∷ [] else if is_dispatch i b then Dispatch b ∷ events_at i (xs ++ ys) b.cycle bs
      else events_at i (xs ++ ys) b.cycle bs)) (pictures_same from b.cycle order)
      ∙ ap (λ es. pictures_at i ys from b.cycle ++ (if is_stop i b then Stopped b ∷ [] else if is_dispatch i b then Dispatch b ∷ es else es))
      (events-before b.cycle bs later.0 later.1)

-- ---- the pictures among some events: all of frames whose interrupts come at or behind a cycle, or whose windows have ended by it

pub Late : ℕ → List Event → Type 0
Late t [] = Unit {0}
Late t (Picture m ∷ es) = (t ≤ interrupt_at m) × Late t es
Late t (Dispatch b ∷ es) = Late t es
Late t (Stopped b ∷ es) = Late t es

late_pictures : (t : ℕ) (p : ℕ → Bool) (w n : ℕ) (es : List Event) → ((m : ℕ) → w ≤ m → t ≤ interrupt_at m) → Late t es
    → Late t (map Picture (filter p (numbers_from w n)) ++ es)
unfolding Late
late_pictures t p w zero es all others = others
late_pictures t p w (suc n) es all others = by_test (p w) (late_pictures t p (w + 1) n es (λ m low. all m (omega (arith, low))) others)
  where
    by_test : (keep : Bool) → Late t (map Picture (filter p (numbers_from (w + 1) n)) ++ es)
        → Late t (map Picture (cond keep (w ∷ filter p (numbers_from (w + 1) n)) (filter p (numbers_from (w + 1) n))) ++ es)
    by_test true tail = (all w (omega arith), tail)
    by_test false tail = tail

pub late-events : (i : Interpreter) (t : ℕ) → IsCycle t → (run : List Machine) (from : ℕ) (bs : List Machine) → t ≤ from → From t bs
    → Late t (events_at i run from bs)
unfolding Late From
late-events i t is run from [] order later = tt
late-events i t is run from (b ∷ bs) order later =
    late_pictures t (is_shown i.rom run) (windows_ended from) (windows_ended b.cycle - windows_ended from)
    (if is_stop i b then Stopped b ∷ [] else if is_dispatch i b then Dispatch b ∷ events_at i run b.cycle bs else events_at i run b.cycle bs)
    (λ m low. frame-later t is m (omega (arith, low, order, windows t, windows from)))
    (here (is_stop i b) (is_dispatch i b) (late-events i t is run b.cycle bs later.0 later.1))
  where
    here : (stop dispatch : Bool) → Late t (events_at i run b.cycle bs)
        → Late t (if stop then Stopped b ∷ [] else if dispatch then Dispatch b ∷ events_at i run b.cycle bs else events_at i run b.cycle bs)
    here true dispatch tail = tt
    here false true tail = tail
    here false false tail = tail

pub pieces-late : (rom : List ℕ) (t : ℕ) (xs ys : List Machine) → Before rom t xs → (es : List Event) → Late t es
    → picture_pieces rom (xs ++ ys) es ≡ picture_pieces rom ys es
unfolding picture_pieces Late
pieces-late rom t xs ys before [] late = refl
pieces-late rom t xs ys before (Picture m ∷ es) late =
    ap (λ lines. picture_file lines ∷ flat_map (picture_piece rom (xs ++ ys)) es) (picture-before rom t m xs ys late.0 before)
    ∙ ap (λ pieces. picture_file (picture_of rom ys m) ∷ pieces) (pieces-late rom t xs ys before es late.1)
pieces-late rom t xs ys before (Dispatch b ∷ es) late = pieces-late rom t xs ys before es late
pieces-late rom t xs ys before (Stopped b ∷ es) late = pieces-late rom t xs ys before es late

pub Early : ℕ → List Event → Type 0
Early t [] = Unit {0}
Early t (Picture m ∷ es) = (window_end m ≤ t) × Early t es
Early t (Dispatch b ∷ es) = Early t es
Early t (Stopped b ∷ es) = Early t es

early_append : (t : ℕ) (xs ys : List Event) → Early t xs → Early t ys → Early t (xs ++ ys)
unfolding Early
early_append t [] ys first others = others
early_append t (Picture m ∷ xs) ys first others = (first.0, early_append t xs ys first.1 others)
early_append t (Dispatch b ∷ xs) ys first others = early_append t xs ys first others
early_append t (Stopped b ∷ xs) ys first others = early_append t xs ys first others

early_pictures : (t : ℕ) (p : ℕ → Bool) (w n : ℕ) → ((m : ℕ) → m < w + n → window_end m ≤ t) → Early t (map Picture (filter p (numbers_from w n)))
unfolding Early
early_pictures t p w zero all = tt
early_pictures t p w (suc n) all = by_test (p w) (early_pictures t p (w + 1) n (λ m low. all m (omega (arith, low))))
  where
    by_test : (keep : Bool) → Early t (map Picture (filter p (numbers_from (w + 1) n)))
        → Early t (map Picture (cond keep (w ∷ filter p (numbers_from (w + 1) n)) (filter p (numbers_from (w + 1) n))))
    by_test true tail = (all w (omega arith), tail)
    by_test false tail = tail

pub pieces-early : (rom : List ℕ) (t : ℕ) (xs ys : List Machine) → Later t ys → (es : List Event) → Early t es
    → picture_pieces rom (xs ++ ys) es ≡ picture_pieces rom xs es
unfolding picture_pieces Early
pieces-early rom t xs ys later [] early = refl
pieces-early rom t xs ys later (Picture m ∷ es) early =
    ap (λ lines. picture_file lines ∷ flat_map (picture_piece rom (xs ++ ys)) es) (picture-later rom t m xs ys early.0 later)
    ∙ ap (λ pieces. picture_file (picture_of rom xs m) ∷ pieces) (pieces-early rom t xs ys later es early.1)
pieces-early rom t xs ys later (Dispatch b ∷ es) early = pieces-early rom t xs ys later es early
pieces-early rom t xs ys later (Stopped b ∷ es) early = pieces-early rom t xs ys later es early

-- or by a later one
pub early-more : (t u : ℕ) → t ≤ u → (es : List Event) → Early t es → Early u es
unfolding Early
early-more t u order [] early = tt
early-more t u order (Picture m ∷ es) early = (omega (arith, early.0, order), early-more t u order es early.1)
early-more t u order (Dispatch b ∷ es) early = early-more t u order es early
early-more t u order (Stopped b ∷ es) early = early-more t u order es early

module _ (i : Interpreter) (s : Start) (script : List KeyEvent) (n : ℕ) where
  abbrev now : ℕ
  now = (state i s script n).cycle

  early_pictures_at : (k : ℕ) → k ≤ n → Early now (pictures i s script k)
  early_pictures_at k order =
      let turn : (state i s script k).cycle ≤ now = in-turn i.rom (held_at script) n k (machine_of s) order in
      early_pictures now (is_shown i.rom (earlier i s script k)) (windows_ended (cycle_before i s script k))
      (windows_ended (state i s script k).cycle - windows_ended (cycle_before i s script k))
      (λ m low.
      let ends : window_end m ≤ (state i s script k).cycle = ended m (state i s script k).cycle
      (omega (arith, low, in-order i s script k, windows (cycle_before i s script k), windows (state i s script k).cycle)) in
      omega (arith, turn, ends))

  early_point : (k : ℕ) → Early now (point i s script k)
  unfolding Early
  early_point zero = by_start s
    where
      by_start : (s : Start) → Early now (first_events s)
      by_start (Reset game) = tt
      by_start (Saved file) = tt
  early_point (suc k) = by_point (point_of i (state i s script (suc k)))
    where
      by_point : (p : Point) → Early now (point_events p (state i s script (suc k)))
      by_point StopPoint = tt
      by_point DispatchPoint = tt
      by_point OtherPoint = tt

  -- those of the states up to the n-th
  pub early-past : (k : ℕ) → k ≤ suc n → Early now (past i s script k)
  unfolding past Early
  early-past zero order = tt
  early-past (suc k) order =
      early_append now (past i s script k ++ pictures i s script k) (point i s script k)
      (early_append now (past i s script k) (pictures i s script k) (early-past k (omega (arith, order))) (early_pictures_at k (omega (arith, order))))
      (early_point k)
