-- The points of a run are at even cycles, and their variables are bytes, since each of the machines that stand for them may start a run.
use Rattle.std.proofs.Common.{◌≡◌, ℕ, zero, suc, ◌+◌, ◌-◌, ◌<◌, ◌⊎◌, inl, inr, refl, subst, arith, Bool, true, false, List, [], ◌∷◌, ◌++◌, map, length, take, drop, slice_index, slice_range, slice_get, Some, None}
use Rattle.std.specs.Prelude.{◌==◌, ◌&&◌, if◌then◌else◌, filter}
use Rattle.std.proofs.Math.Nat.{min-le_left}
use Rattle.std.proofs.lemmas.Bool.{cases_Bool, cases_lt}
use Rattle.std.proofs.lemmas.List.{get_or-drop, get_or-take, get_or_past, length-take}
use Rattle.machine.specs.Board.{Machine, start}
use Rattle.machine.specs.Keys.{Event as KeyEvent, held_at}
use Rattle.machine.specs.Pictures.{is_shown, windows_ended}
use Rattle.machine.specs.Run.{run_to}
use Rattle.machine.proofs.Runs.{run_to-next, run_to-past, later-move}
use Rattle.chip8_lang.specs.declared.view.Edition.{Edition}
use Rattle.chip8_lang.specs.Editions.{variables}
use Rattle.chip8_lang.specs.Events.{Event, events_at, events_behind, events_of, game_run, is_dispatch, is_stop, numbers_from}
use Rattle.chip8_lang.specs.Events.Event.{Picture, Dispatch, Stopped}
use Rattle.chip8_lang.specs.declared.view.Stop.{Stop}
use Rattle.chip8_lang.specs.Places.{state_of}
use Rattle.chip8_lang.specs.Screen.{Pixels}
use Rattle.chip8_lang.specs.State.{Lang}
use Rattle.chip8_lang.specs.Timed.{Shown, shown_behind, timed_run}
use Rattle.chip8_lang.specs.Timed.Shown.{Picture as TimedPicture, Point, End}
use Rattle.rom_law.specs.Runs.{state_after, state_at}
use Rattle.rom_rows.specs.Rom.{image, vip}
use Rattle.rom_run.specs.States.{Beginning, MayStart, Unstopped}
use Rattle.rom_run.specs.States.Beginning.{AtReset, AtStart}
use Rattle.rom_run.specs.Timeline.{AreShown}
use Rattle.rom_run.proofs.Starts.{dispatch_starts}
use Rattle.rom_run.proofs.Timeline.{every_time, every_time_behind}
use Rattle.rom_board.specs.LeastBounds.{CanBe, EveryPoint, EveryPointBehind}

-- what lies in RAM is a byte, and 0 is read past the variables
part_bytes : (xs : List ℕ) (from to : ℕ) → ((i : ℕ) → slice_index xs i < 256) → (i : ℕ) → slice_index (slice_range xs from to) i < 256
part_bytes xs from to bytes i = elim (cases_lt i (to - from)) [
  | inl here ↦ rw (get_or-take (to - from) (drop from xs) i 0 here, get_or-drop from xs i 0) (bytes (from + i))
  | inr past ↦ rw (get_or_past (take (to - from) (drop from xs)) i 0
      (omega (arith, past, length-take (to - from) (drop from xs), min-le_left (to - from) (length (drop from xs))))) (omega arith)
]

can_be : (e : Edition) (b : Machine) → MayStart e b → CanBe b.cycle (state_at (vip e) b)
unfolding state_of
can_be e b may = record { even = may.even; bytes = part_bytes b.ram (variables e) (variables e + 16) may.fits.ram }

-- ---- the machines

module _ (e : Edition) where
  abbrev AllStart : List Event → Type 0
  AllStart [] = Unit {0}
  AllStart (Picture m ∷ events) = AllStart events
  AllStart (Dispatch b ∷ events) = MayStart e b × AllStart events
  AllStart (Stopped b ∷ events) = AllStart events

  behind_pictures : (ms : List ℕ) (events : List Event) → AllStart events → AllStart (map Picture ms ++ events)
  behind_pictures [] events all = all
  behind_pictures (m ∷ ms) events all = behind_pictures ms events all

  module _ (script : List KeyEvent) (limit : ℕ) (run : List Machine) (first : Machine) (begins : Beginning e first) where
    abbrev at : ℕ → Machine
    at n = state_after (vip e) script first n

    abbrev Quiet : ℕ → Type 0
    Quiet n = Unstopped (vip e) script first n

    one_more : (j : ℕ) → Quiet j → is_stop (vip e).interpreter (at j) ≡ false → Quiet (suc j)
    one_more j quiet here k l = elim (cases_lt k j) [
      | inl before ↦ quiet k before
      | inr behind ↦ let same : j ≡ k = omega (arith, behind, l) in subst (λ n. is_stop (vip e).interpreter (at n) ≡ false) same here
    ]

    abbrev events : ℕ → List Machine → List Event
    events before bs = events_at (vip e).interpreter run before bs

    -- the event at a state, and those of later ones
    abbrev event_at : ℕ → List Event → List Event
    event_at j rest = if is_stop (vip e).interpreter (at j) then Stopped (at j) ∷ [] else if is_dispatch (vip e).interpreter (at j) then Dispatch (at j) ∷ rest else rest

    by_tests : (j : ℕ) (rest : List Event) → Quiet j → (Quiet (suc j) → AllStart rest)
        → (is_stop (vip e).interpreter (at j) ≡ true) ⊎ (is_stop (vip e).interpreter (at j) ≡ false)
        → (is_dispatch (vip e).interpreter (at j) ≡ true) ⊎ (is_dispatch (vip e).interpreter (at j) ≡ false)
        → AllStart (event_at j rest)
    by_tests j rest quiet all (inl stop) dispatch = rw stop tt
    by_tests j rest quiet all (inr runs) (inl dispatch) =
        rw (runs, dispatch) (dispatch_starts e script first begins j (one_more j quiet runs) dispatch, all (one_more j quiet runs))
    by_tests j rest quiet all (inr runs) (inr other) = rw (runs, other) (all (one_more j quiet runs))

    abbrev rest_of : ℕ → List Event
    rest_of j = events (at j).cycle (run_to (image e) (held_at script) (at (suc j)) limit)

    starts_at : (fuel j before : ℕ) → Quiet j → limit < (at j).cycle + fuel → AllStart (events before (run_to (image e) (held_at script) (at j) limit))
    starts_at zero j before quiet room = rw (run_to-past (image e) (held_at script) limit (at j) (omega (arith, room))) tt
    starts_at (suc fuel) j before quiet room = elim (cases_lt limit (at j).cycle) [
      | inl past ↦ rw (run_to-past (image e) (held_at script) limit (at j) past) tt
      | inr within ↦ rw (run_to-next (image e) (held_at script) limit (at j) within)
          (behind_pictures
          (filter (is_shown (vip e).interpreter.rom run) (numbers_from (windows_ended before) (windows_ended (at j).cycle - windows_ended before)))
          (event_at j (rest_of j))
          (by_tests j (rest_of j) quiet (λ q. starts_at fuel (suc j) (at j).cycle q (omega (arith, room, later-move (image e) (held_at script) (at j))))
          (cases_Bool (is_stop (vip e).interpreter (at j))) (cases_Bool (is_dispatch (vip e).interpreter (at j)))))
    ]

-- ---- the points

abbrev AllCan : List Shown → Type 0
AllCan [] = Unit {0}
AllCan (TimedPicture m screen ∷ shown) = AllCan shown
AllCan (Point t s ∷ shown) = CanBe t s × AllCan shown
AllCan (End t s stop ∷ shown) = AllCan shown

all_can : (e : Edition) (run : List Machine) (events : List Event) (shown : List Shown) → AreShown (vip e) run events shown → AllStart e events → AllCan shown
all_can e run [] [] are all = tt
all_can e run (Picture m ∷ events) (TimedPicture n screen ∷ shown) are all = all_can e run events shown are.2 all
all_can e run (Dispatch b ∷ events) (Point t s ∷ shown) are all = (
  subst (λ u. CanBe u s) are.0 (subst (CanBe b.cycle) are.1.keeps.lies.is (can_be e b all.0)),
  all_can e run events shown are.2 all.1,
)
all_can e run (Stopped b ∷ events) (End t s stop ∷ shown) are all = all_can e run events shown are.2 all
all_can e run [] (s ∷ shown) are all = absurd are
all_can e run (Picture m ∷ events) [] are all = absurd are
all_can e run (Picture m ∷ events) (Point t s ∷ shown) are all = absurd are
all_can e run (Picture m ∷ events) (End t s stop ∷ shown) are all = absurd are
all_can e run (Dispatch b ∷ events) [] are all = absurd are
all_can e run (Dispatch b ∷ events) (TimedPicture m screen ∷ shown) are all = absurd are
all_can e run (Dispatch b ∷ events) (End t s stop ∷ shown) are all = absurd are
all_can e run (Stopped b ∷ events) [] are all = absurd are
all_can e run (Stopped b ∷ events) (TimedPicture m screen ∷ shown) are all = absurd are
all_can e run (Stopped b ∷ events) (Point t s ∷ shown) are all = absurd are

nothing : (t : ℕ) (s : Lang) → None ≡ Some (Point t s) → ⊥
nothing t s h = cc

no_picture : (m : ℕ) (screen : Pixels) (t : ℕ) (s : Lang) → Some (TimedPicture m screen) ≡ Some (Point t s) → ⊥
no_picture m screen t s h = cc

no_end : (c : ℕ) (z : Lang) (stop : Stop) (t : ℕ) (s : Lang) → Some (End c z stop) ≡ Some (Point t s) → ⊥
no_end c z stop t s h = cc

point_in : (shown : List Shown) (k t : ℕ) (s : Lang) → AllCan shown → slice_get shown k ≡ Some (Point t s) → CanBe t s
point_in [] k t s all is = absurd (nothing t s is)
point_in (Point u z ∷ shown) zero t s all is = subst (λ c. CanBe c s) (cycles is) (subst (CanBe u) (states is) all.0)
  where
    cycles : Some (Point u z) ≡ Some (Point t s) → u ≡ t
    cycles h = cc

    states : Some (Point u z) ≡ Some (Point t s) → z ≡ s
    states h = cc
point_in (TimedPicture m screen ∷ shown) zero t s all is = absurd (no_picture m screen t s is)
point_in (End c z stop ∷ shown) zero t s all is = absurd (no_end c z stop t s is)
point_in (Point u z ∷ shown) (suc k) t s all is = point_in shown k t s all.1 is
point_in (TimedPicture m screen ∷ shown) (suc k) t s all is = point_in shown k t s all is
point_in (End c z stop ∷ shown) (suc k) t s all is = point_in shown k t s all is

-- ---- the laws

pub every_point : EveryPoint
unfolding events_of
every_point e game small bytes script limit k t s is =
    point_in (timed_run e script limit game) k t s
    (all_can e (game_run (vip e).interpreter game script limit) (events_of (vip e).interpreter game script limit) (timed_run e script limit game)
    (every_time e game small bytes script limit)
    (starts_at e script limit (game_run (vip e).interpreter game script limit) (start game) (AtReset game small bytes) (suc limit) 0 0 (λ k l. absurd (omega (arith, l)))
    (omega arith)))
    is

not_stop : (x z : Bool) (p : ℕ) → p ≡ 4 → ((x && p == 3) && z) ≡ false
not_stop false z p is = refl
not_stop true z p is = rw is refl

pub every_point_behind : EveryPointBehind
every_point_behind e b may script limit k t s is =
    point_in (Point b.cycle (state_of e b) ∷ shown_behind e script limit limit (windows_ended b.cycle) b.cycle (state_of e b)) k t s (
      can_be e b may,
      all_can e (run_to (image e) (held_at script) b limit) (events_behind (vip e).interpreter script b limit)
          (shown_behind e script limit limit (windows_ended b.cycle) b.cycle (state_of e b))
          (every_time_behind e b may script limit)
          (starts_at e script limit (run_to (image e) (held_at script) b limit) b (AtStart b may) (suc limit) 1 b.cycle
          (λ k l.
          let same : 0 ≡ k = omega (arith, l) in
          subst (λ n. is_stop (vip e).interpreter (state_after (vip e) script b n) ≡ false) same (not_stop _ _ b.regs.p may.stands.p))
          (omega arith)),
    ) is
