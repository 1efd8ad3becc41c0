-- By the law of a run its events are those of the language's time, one for one.
use Rattle.std.proofs.Common.{◌≡◌, ℕ, zero, suc, ◌+◌, ◌-◌, ◌<◌, ◌≤◌, ◌⊎◌, inl, inr, refl, sym, ◌∙◌, ap, subst, subst₂, arith, Bool, true, false, nat_le, List, [], ◌∷◌, ◌++◌, map, length, slice_index}
use Rattle.std.specs.Prelude.{◌*◌, ◌%◌, if◌then◌else◌, Option, Some, None}
use Rattle.std.proofs.lemmas.Bool.{cases_lt, le-leb, lt-leb}
use Rattle.machine.specs.Board.{Machine, move, start}
use Rattle.machine.specs.Keys.{Event as KeyEvent, held_at}
use Rattle.machine.specs.Pictures.{windows_ended}
use Rattle.machine.specs.Run.{run_to}
use Rattle.machine.proofs.Counts.{windows}
use Rattle.machine.proofs.Runs.{later-move, run_to-past}
use Rattle.chip8_lang.specs.declared.instr.Instr.{Instr}
use Rattle.chip8_lang.specs.declared.instr.Instr.TheVariants.{Clear, Draw, SkipDown, SkipUp, WaitKey}
use Rattle.chip8_lang.specs.declared.view.Edition.{Edition}
use Rattle.chip8_lang.specs.declared.view.Stop.{Stop}
use Rattle.chip8_lang.specs.Events.{Event, numbers_from, events_at, events_behind, events_of, game_run}
use Rattle.chip8_lang.specs.Events.Event.{Picture, Dispatch, Stopped}
use Rattle.chip8_lang.specs.Screen.{Pixels}
use Rattle.chip8_lang.specs.State.{Lang, memory_size, instr_at}
use Rattle.chip8_lang.specs.Step.{stop_of}
use Rattle.chip8_lang.specs.Ticks.{ticks}
use Rattle.chip8_lang.specs.Timed.{Next, Shown, later, first_from, let_go, pressed, after_instr, by_stop, next_point, pictures_to, shown_to, shown_by, shown_behind, timed_run}
use Rattle.chip8_lang.specs.Timed.Next.{Dispatch as NextDispatch, Stopped as NextStopped, Never}
use Rattle.chip8_lang.specs.Timed.Shown.{Picture as TimedPicture, Point, End}
use Rattle.rom_law.specs.Language.{Also, Begins, GoesOn, IsPast, nothing_else}
use Rattle.rom_law.specs.Program.{Program}
use Rattle.rom_law.specs.Runs.{state_at, state_after}
use Rattle.rom_rows.specs.Rom.{vip}
use Rattle.rom_parts.specs.fetch.Laws.{boot_moves}
use Rattle.rom_run.specs.States.{BootsTo, MayStart}
use Rattle.rom_run.specs.Timeline.{AreShown, EveryTime, EveryTimeBehind}
use Rattle.rom_run.proofs.Run.{booted, from_boot, every_run, from_any_start}

-- ---- pictures

no_picture : (k t : ℕ) (screen : Pixels) → windows_ended t ≤ k → pictures_to k t screen ≡ []
no_picture k t screen e = ap (λ n. map (λ m. TimedPicture m screen) (numbers_from k n)) none
  where
    none : windows_ended t - k ≡ 0
    none = omega (arith, e)

one_picture : (k t : ℕ) (screen : Pixels) → k + 1 ≤ windows_ended t → pictures_to k t screen ≡ TimedPicture k screen ∷ pictures_to (k + 1) t screen
one_picture k t screen l = ap (λ n. map (λ m. TimedPicture m screen) (numbers_from k n)) more
  where
    more : windows_ended t - k ≡ suc (windows_ended t - (k + 1))
    more = omega (arith, l)

module _ (e : Edition) (script : List KeyEvent) (limit : ℕ) where
  -- ---- what a state shows

  abbrev behind : ℕ → ℕ → ℕ → Lang → List Shown
  behind n k t s = shown_behind e script limit n k t s

  abbrev next : ℕ → Lang → Next
  next t s = next_point e script limit t s

  -- up to the next point, or to the limit
  abbrev shown_until : Next → ℕ
  shown_until (NextDispatch c s) = if nat_le c limit then c else limit
  shown_until (NextStopped c s stop) = if nat_le c limit then c else limit
  shown_until Never = limit

  abbrev until : ℕ → ℕ → Lang → ℕ
  until zero t s = limit
  until (suc n) t s = shown_until (next t s)

  -- a point within the limit
  point_shown : (k c : ℕ) (screen : Pixels) (more : List Shown) → c ≤ limit → windows_ended c ≤ k → shown_to e script limit k c screen more ≡ more
  point_shown k c screen more l w = rw (le-leb c limit l, no_picture k c screen w) refl

  -- none
  past_shown : (k c : ℕ) (screen : Pixels) (more : List Shown) → limit < c → windows_ended limit ≤ k → shown_to e script limit k c screen more ≡ []
  past_shown k c screen more l w = rw (lt-leb c limit l) (no_picture k limit screen w)

  past_until : (n : Next) → IsPast limit n → shown_until n ≡ limit
  past_until (NextDispatch c s) l = rw (lt-leb c limit l) refl
  past_until (NextStopped c s stop) l = rw (lt-leb c limit l) refl
  past_until Never l = refl

  nothing_by : (k : ℕ) (screen : Pixels) (f : ℕ → Lang → List Shown) (n : Next) → IsPast limit n → windows_ended limit ≤ k
      → shown_by e script limit k screen f n ≡ []
  nothing_by k screen f (NextDispatch c s) l w = past_shown k c screen _ l w
  nothing_by k screen f (NextStopped c s stop) l w = past_shown k c screen _ l w
  nothing_by k screen f Never l w = no_picture k limit screen w

  -- one picture more
  picture_to : (k c : ℕ) (screen : Pixels) (more : List Shown) → k + 1 ≤ windows_ended (if nat_le c limit then c else limit)
      → shown_to e script limit k c screen more ≡ TimedPicture k screen ∷ shown_to e script limit (k + 1) c screen more
  picture_to k c screen more l = go (nat_le c limit) l
    where
      go : (within : Bool) → k + 1 ≤ windows_ended (if within then c else limit)
          → (if within then pictures_to k c screen ++ more else pictures_to k limit screen)
          ≡ TimedPicture k screen ∷ (if within then pictures_to (k + 1) c screen ++ more else pictures_to (k + 1) limit screen)
      go true l = ap (λ z. z ++ more) (one_picture k c screen l)
      go false l = one_picture k limit screen l

  picture_by : (k : ℕ) (screen : Pixels) (f : ℕ → Lang → List Shown) (n : Next) → k + 1 ≤ windows_ended (shown_until n)
      → shown_by e script limit k screen f n ≡ TimedPicture k screen ∷ shown_by e script limit (k + 1) screen f n
  picture_by k screen f (NextDispatch c s) l = picture_to k c screen _ l
  picture_by k screen f (NextStopped c s stop) l = picture_to k c screen _ l
  picture_by k screen f Never l = one_picture k limit screen l

  -- with so many points at most
  nothing_behind : (n k t : ℕ) (s : Lang) → IsPast limit (next t s) → windows_ended limit ≤ k → behind n k t s ≡ []
  unfolding shown_behind
  nothing_behind zero k t s l w = no_picture k limit s.screen w
  nothing_behind (suc n) k t s l w = nothing_by k s.screen _ (next t s) l w

  picture_behind : (n k t : ℕ) (s : Lang) → k + 1 ≤ windows_ended (until n t s) → behind n k t s ≡ TimedPicture k s.screen ∷ behind n (k + 1) t s
  unfolding shown_behind
  picture_behind zero k t s l = one_picture k limit s.screen l
  picture_behind (suc n) k t s l = picture_by k s.screen _ (next t s) l

  point_behind : (n k t c : ℕ) (s z : Lang) → next t s ≡ NextDispatch c z → c ≤ limit → windows_ended c ≤ k
      → behind (suc n) k t s ≡ Point c z ∷ behind n (windows_ended c) c z
  unfolding shown_behind
  point_behind n k t c s z is l w =
      ap (shown_by e script limit k s.screen (λ c z. behind n (windows_ended c) c z)) is
      ∙ point_shown k c s.screen (Point c z ∷ behind n (windows_ended c) c z) l w

  stop_behind : (n k t c : ℕ) (s z : Lang) (stop : Stop) → next t s ≡ NextStopped c z stop → c ≤ limit → windows_ended c ≤ k
      → behind (suc n) k t s ≡ End c z stop ∷ []
  unfolding shown_behind
  stop_behind n k t c s z stop is l w =
      ap (shown_by e script limit k s.screen (λ c z. behind n (windows_ended c) c z)) is ∙ point_shown k c s.screen (End c z stop ∷ []) l w

  until_point : (n t c : ℕ) (s z : Lang) → next t s ≡ NextDispatch c z → c ≤ limit → until (suc n) t s ≡ c
  until_point n t c s z is l = ap shown_until is ∙ rw (le-leb c limit l) refl

  until_stop : (n t c : ℕ) (s z : Lang) (stop : Stop) → next t s ≡ NextStopped c z stop → c ≤ limit → until (suc n) t s ≡ c
  until_stop n t c s z stop is l = ap shown_until is ∙ rw (le-leb c limit l) refl

  until_past : (n t : ℕ) (s : Lang) → IsPast limit (next t s) → until n t s ≡ limit
  until_past zero t s l = refl
  until_past (suc n) t s l = past_until (next t s) l

  -- what is next comes no earlier
  after_late : (i : Instr) (t : ℕ) (s : Lang) → limit < t → IsPast limit (after_instr e script limit i t s)
  after_late Clear t s l = omega (arith, l)
  after_late (Draw x y n) t s l = omega (arith, l)
  after_late (WaitKey x) t s l = pressed_late (first_from limit (λ j. held_at script (later t (114 + 14 * j) + 1) (j % 16)) 0)
    where
      let_go_late : (j : ℕ) (o : Option ℕ) → IsPast limit (let_go e script limit x t s j o)
      let_go_late j None = tt
      let_go_late j (Some i) = omega (arith, l)

      pressed_late : (o : Option ℕ) → IsPast limit (pressed e script limit x t s o)
      pressed_late None = tt
      pressed_late (Some j) = let_go_late j _
  after_late (SkipDown x) t s l = omega (arith, l)
  after_late (SkipUp x) t s l = omega (arith, l)
  after_late _ t s l = omega (arith, l)

  late : (o : Option Stop) (t : ℕ) (s : Lang) → limit < t → IsPast limit (by_stop e script limit o t s)
  late (Some stop) t s l = omega (arith, l)
  late None t s l = after_late (instr_at s) t s l

  pub next_late : (t : ℕ) (s : Lang) → limit < t → IsPast limit (next t s)
  next_late t s l = late (stop_of e s) t s l

  -- ---- the events of a run

  module _ (run : List Machine) (also : Also) where
    abbrev x : Program
    x = vip e

    abbrev s_at : Machine → Lang
    s_at b = state_at x b

    -- n points at most come behind b, and the pictures from frame k on
    record Same (n k : ℕ) (b : Machine) (events : List Event) : Type 0 where
      from : k ≤ windows_ended (until n b.cycle (s_at b))
      are : AreShown x run events (behind n k b.cycle (s_at b))

    same : (n k : ℕ) (b : Machine) (events : List Event) → b.cycle ≤ limit → limit ≤ b.cycle + n → GoesOn x script limit run also k b events
        → Same n k b events
    same n k b [] here room g =
        record {
          from = omega (arith, g.shown here, ap windows_ended (until_past n b.cycle (s_at b) (g.none_due here)));
          are = subst (AreShown x run []) (sym (nothing_behind n k b.cycle (s_at b) (g.none_due here) (omega (arith, g.shown here)))) tt;
        }
    same n k b (Picture m ∷ events) here room g =
        let o = same n (k + 1) b events here room g.2 in
        record {
          from = omega (arith, o.from);
          are = subst (AreShown x run (Picture m ∷ events)) (sym (picture_behind n k b.cycle (s_at b) o.from)) (g.0, g.1, o.are);
        }
    same zero k b (Dispatch c ∷ events) here room g = absurd (omega (arith, room, g.0.later, g.0.within))
    same (suc n) k b (Dispatch c ∷ events) here room g =
        let o = same n k c events g.0.within (omega (arith, room, g.0.later)) g.2 in
        record {
          from = omega (arith, g.0.shown, ap windows_ended (until_point n b.cycle c.cycle (s_at b) (s_at c) (g.1.next limit g.0.within) g.0.within));
          are =
              subst (AreShown x run (Dispatch c ∷ events))
              (sym (point_behind n k b.cycle c.cycle (s_at b) (s_at c) (g.1.next limit g.0.within) g.0.within (omega (arith, g.0.shown)))) (
                refl,
                g.1.stands,
                subst (λ j. AreShown x run events (behind n j c.cycle (s_at c))) (sym g.0.shown) o.are,
              );
        }
    same zero k b (Stopped c ∷ events) here room g = absurd (omega (arith, room, g.comes.later, g.comes.within))
    same (suc n) k b (Stopped c ∷ events) here room g =
        record {
          from =
              omega (arith, g.comes.shown, ap windows_ended (until_stop n b.cycle c.cycle (s_at b) (stopped c) g.stop.stop (g.stop.next script limit) g.comes.within));
          are =
              subst₂ (AreShown x run) (ap (λ l. Stopped c ∷ l) (sym g.last))
              (sym (stop_behind n k b.cycle c.cycle (s_at b) (stopped c) g.stop.stop (g.stop.next script limit) g.comes.within (omega (arith, g.comes.shown))))
              (refl, g.stop.halts, tt);
        }
      where
        stopped : Machine → Lang
        stopped c = ticks (x.ticks_between b.cycle c.cycle) (s_at b)

-- ---- the laws

module _ (e : Edition) (b : Machine) (m : MayStart e b) (script : List KeyEvent) (limit : ℕ) where
  abbrev run_on : List Machine
  run_on = run_to (vip e).interpreter.rom (held_at script) b limit

  -- the events of these states
  abbrev AreTimed : List Machine → Type 0
  AreTimed bs =
      AreShown (vip e) run_on (events_at (vip e).interpreter run_on b.cycle bs)
      (shown_behind e script limit limit (windows_ended b.cycle) b.cycle (state_at (vip e) b))

  from_start : (limit < b.cycle) ⊎ (b.cycle ≤ limit)
      → AreTimed (run_to (vip e).interpreter.rom (held_at script) (move (vip e).interpreter.rom (held_at script) b) limit)
  from_start (inl past) =
      subst AreTimed
      (sym (run_to-past (vip e).interpreter.rom (held_at script) limit (move (vip e).interpreter.rom (held_at script) b)
      (omega (arith, past, later-move (vip e).interpreter.rom (held_at script) b))))
      (subst (AreShown (vip e) run_on [])
      (sym (nothing_behind e script limit limit (windows_ended b.cycle) b.cycle (state_at (vip e) b)
      (next_late e script limit b.cycle (state_at (vip e) b) past)
      (omega (arith, past, windows limit, windows b.cycle)))) tt)
  from_start (inr here) =
      (same e script limit run_on nothing_else limit (windows_ended b.cycle) b (events_behind (vip e).interpreter script b limit) here (omega arith)
      (from_any_start e b m script limit)).are

pub every_time_behind : EveryTimeBehind
every_time_behind e b m script limit = from_start e b m script limit (cases_lt limit b.cycle)

module _ (e : Edition) (game : List ℕ) (small : length game ≤ memory_size e) (bytes : (i : ℕ) → slice_index game i < 256) (script : List KeyEvent) (limit : ℕ) where
  abbrev run_of : List Machine
  run_of = game_run (vip e).interpreter game script limit

  abbrev at_56 : Machine
  at_56 = state_after (vip e) script (start game) boot_moves

  abbrev behind_56 : List Event
  behind_56 =
      events_at (vip e).interpreter run_of at_56.cycle
      (run_to (vip e).interpreter.rom (held_at script) (state_after (vip e) script (start game) (suc boot_moves)) limit)

  -- where the run of the board is one of the language, it is the timed run
  abbrev IsTimed : List Event → Type 0
  IsTimed events = Begins (vip e) script limit run_of nothing_else game events → AreShown (vip e) run_of events (timed_run e script limit game)

  at_reset : limit < at_56.cycle → IsTimed []
  at_reset past g = rw (lt-leb 56 limit (omega (arith, past, (booted e game small bytes script).cycle))) tt

  from_56 : at_56.cycle ≤ limit → IsTimed (Dispatch at_56 ∷ behind_56)
  from_56 here g =
      rw (le-leb 56 limit (omega (arith, here, o.cycle))) (
        o.cycle,
        g.0,
        subst₂ (λ t s. AreShown (vip e) run_of behind_56 (shown_behind e script limit limit 0 t s)) o.cycle o.first_is
            (same e script limit run_of nothing_else limit 0 at_56 behind_56 here (omega arith) g.3).are,
      )
    where
      o : BootsTo e game at_56
      o = booted e game small bytes script

  every : IsTimed (events_of (vip e).interpreter game script limit)
  every = from_boot e game small bytes script limit IsTimed at_reset from_56

pub every_time : EveryTime
every_time e game small bytes script limit = every e game small bytes script limit (every_run e game small bytes script limit)
