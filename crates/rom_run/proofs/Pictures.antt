-- Each picture is the screen of the language state at the last dispatch point before it: it shows the screen in RAM at the interrupt of its frame,
-- which is that screen, since none comes while main code changes it.
use Rattle.std.proofs.Common.{◌≡◌, ℕ, suc, ◌*◌, ◌/◌, ◌%◌, ◌<◌, ◌≤◌, ◌⊎◌, inl, inr, sym, ◌∙◌, ap, subst, arith, false, List}
use Rattle.std.specs.Prelude.{slice_get, Some}
use Rattle.std.proofs.lemmas.Bool.{cases_eq, cases_lt}
use Rattle.std.proofs.lemmas.Option.{slice_get_within}
use Rattle.machine.specs.Board.{Machine, move}
use Rattle.machine.specs.Keys.{Keys, Event, held_at}
use Rattle.machine.specs.Run.{run_to}
use Rattle.machine.specs.Pictures.{interrupt_at, window_end, picture_of, place, interrupt_place}
use Rattle.machine.specs.Ranges.{FitsMachine}
use Rattle.machine.proofs.Runs.{later-move}
use Rattle.chip8_image.specs.declared.parts.Part.TheVariants.{Timer as IsTimer}
use Rattle.chip8_lang.specs.declared.view.Edition.{Edition}
use Rattle.chip8_lang.specs.Editions.{rows_of, lines_of}
use Rattle.chip8_lang.specs.State.{Lang}
use Rattle.rom_law.specs.Program.{Program}
use Rattle.rom_law.specs.Rows.{Since, Row, dispatched}
use Rattle.rom_law.specs.Runs.{carried, state_at, state_after}
use Rattle.rom_law.proofs.Carried.{carried_state}
use Rattle.rom_law.proofs.Kept.{row_runs, row_cycles}
use Rattle.rom_law.proofs.Runs.{Shown}
use Rattle.rom_rows.specs.Rom.{image, vip}
use Rattle.rom_rows.specs.Table.{pieces}
use Rattle.rom_parts.specs.timer.Frame.{IsOutside, Makes}
use Rattle.rom_parts.specs.timer.Frame.Makes.{Runs, Waits, Accepts}
use Rattle.rom_parts.specs.timer.Scan.{Pictured}
use Rattle.rom_parts.proofs.timer.Frame.{every_move}
use Rattle.rom_run.proofs.Image.{parts}
use Rattle.rom_run.specs.Running.{Showing, Outside, Running}
use Rattle.rom_run.specs.Running.Outside.{AtRow, AtEvent}
use Rattle.rom_run.specs.Running.Running.{InMain, InRoutine}
use Rattle.rom_run.proofs.Display.{outside_shows}
use Rattle.rom_run.proofs.Moves.{interrupted}
use Rattle.rom_run.proofs.Proved.{proved}
use Rattle.rom_run.proofs.WholeTick.{main_there, served_meets, served_within}
use Rattle.rom_run.proofs.Ticks.{few_later}
use Rattle.rom_law.proofs.Places.{row_inside}

module _ (e : Edition) (script : List Event) where
  abbrev x : Program
  x = vip e

  abbrev held : ℕ → Keys
  held = held_at script

  abbrev next : Machine → Machine
  next b = move (image e) held b

  -- ---- the cycle of an interrupt isn't passed over

  main_before : (b : Machine) (h : Since) (m : ℕ) (row : Row x (pieces x) b h) → (b.regs.idle ≡ false → b.cycle % 2 ≡ 0) → FitsMachine b
      → Makes (image e) held b (next b) → b.cycle < interrupt_at m → (next b).cycle ≤ interrupt_at m
  main_before b h m row even f (Runs d i k) l = omega (arith, ap (λ (z : Machine). z.cycle) k, row_cycles x (pieces x) (proved e) b h f i row, even i, l)
  main_before b h m row even f (Waits d i k) l = omega (arith, ap (λ (z : Machine). z.cycle) k, l)
  main_before b h m row even f (Accepts i k) l = omega (arith, ap (λ (z : Machine). z.cycle) k, l)

  pub stops_before : (b : Machine) (h : Since) (m : ℕ) → Running e script b h → b.cycle < interrupt_at m → (next b).cycle ≤ interrupt_at m
  stops_before b h m (InMain (AtRow t row n time)) l =
      let ready = row_runs x (pieces x) (proved e) b h t.fits row in
      main_before b h m row t.even t.fits (every_move (image e) held b ready.on ready.enabled t.outside) l
  stops_before b h m (InMain (AtEvent t p d late y)) l = omega (arith, few_later (image e) held b, p, l)
  stops_before b h m (InRoutine s) l = let i = served_within e script b h s in omega (arith, i.0, i.1, l)

  -- nor is the end of a window
  pub stops_at_window : (b : Machine) (h : Since) (m : ℕ) → Running e script b h → b.cycle < window_end m → (next b).cycle ≤ window_end m
  stops_at_window b h m (InMain o) l = go o
    where
      -- main code runs nowhere near it
      apart : IsOutside b.cycle → (next b).cycle ≤ window_end m
      apart (inl p) = omega (arith, p, l, few_later (image e) held b)
      apart (inr p) = omega (arith, p, l, few_later (image e) held b)

      go : Outside e script b h → (next b).cycle ≤ window_end m
      go (AtRow t row n time) = apart t.outside
      go (AtEvent t p d late y) = apart t.outside
  stops_at_window b h m (InRoutine s) l = served_meets e script b h s m l

  -- ---- a board in a run

  module _ (first : Machine) where
    abbrev after : ℕ → Machine
    after i = state_after x script first i

    -- the state of the run in which frame m's interrupt came
    pub record Interrupted (m : ℕ) (h : Since) : Type 0 where
      i : ℕ
      before : Since
      outside : Outside e script (after i) before
      cycle : (after i).cycle ≡ interrupt_at m
      same : h.state ≡ before.state

    -- The board is a state of the run. Between the interrupt and the end of the window the run tells in which state it was interrupted.
    pub record InRun (b : Machine) (h : Since) : Type 0 where
      pub i : ℕ
      pub is : b ≡ after i
      pub came : (m : ℕ) → interrupt_at m < b.cycle → b.cycle < window_end m → Interrupted m h

    came_next : (b : Machine) (h : Since) → Running e script b h → (r : InRun b h) (m : ℕ) → interrupt_at m < (next b).cycle
        → (next b).cycle < window_end m → Interrupted m (carried (image e) held b h)
    came_next b h running r m l u = go (cases_lt b.cycle (interrupt_at m)) (cases_eq b.cycle (interrupt_at m))
      where
        go : (b.cycle < interrupt_at m) ⊎ (interrupt_at m ≤ b.cycle) → (b.cycle ≡ interrupt_at m) ⊎ (b.cycle ≡ interrupt_at m → ⊥)
            → Interrupted m (carried (image e) held b h)
        go (inl k) d = absurd (omega (arith, stops_before b h m running k, l))
        go (inr k) (inl d) =
            record {
              i = r.i;
              before = h;
              outside = subst (λ z. Outside e script z h) r.is (main_there e script b h running (omega (arith, d)));
              cycle = ap (λ (z : Machine). z.cycle) (sym r.is) ∙ d;
              same = carried_state (image e) held b h;
            }
        go (inr k) (inr d) =
            let o = r.came m (omega (arith, k, d)) (omega (arith, later-move (image e) held b, u)) in
            record { i = o.i; before = o.before; outside = o.outside; cycle = o.cycle; same = carried_state (image e) held b h ∙ o.same }

    -- at a dispatch point no window is scanned
    none_came : (c : Machine) (t : ℕ) (m : ℕ) → Running e script c (dispatched t (state_at x c)) → interrupt_at m < c.cycle → c.cycle < window_end m
        → Interrupted m (dispatched t (state_at x c))
    none_came c t m (InMain (AtRow i row n time)) l u = absurd (outside_window c.cycle m i.outside l u)
      where
        outside_window : (cycle m : ℕ) → (place cycle ≤ interrupt_place) ⊎ (208 * 14 ≤ place cycle) → interrupt_at m < cycle → cycle < window_end m → ⊥
        outside_window cycle m (inl k) l u = omega (arith, k, l, u)
        outside_window cycle m (inr k) l u = omega (arith, k, l, u)
    none_came c t m (InMain (AtEvent i p d late y)) l u = absurd (omega (arith, p, l, u))
    none_came c t m (InRoutine s) l u = absurd (never (ap (λ (z : Since). z.ticks) s.counted))
      where
        never : {n : ℕ} → 0 ≡ suc n → ⊥
        never k = cc

    -- so many moves on, at a dispatch point
    pub run_begins : (b : Machine) (i : ℕ) → b ≡ after i → Running e script b (dispatched b.cycle (state_at x b)) → InRun b (dispatched b.cycle (state_at x b))
    run_begins b i is running = record { i = i; is = is; came = λ m. none_came b b.cycle m running }

    -- after a move that comes to none
    pub run_on : (b : Machine) (h : Since) → Running e script b h → InRun b h → InRun (next b) (carried (image e) held b h)
    run_on b h running r = record { i = suc r.i; is = ap next r.is; came = came_next b h running r }

    -- ---- the picture

    pub shows : (limit : ℕ) (b : Machine) (h : Since) (m : ℕ) → InRun b h → b.cycle < window_end m → window_end m ≤ (next b).cycle
        → (next b).cycle ≤ limit → Shown x (run_to (image e) held first limit) m h.state
    shows limit b h m r u n l =
        record {
          shown = scanned.shown;
          shows = record {
            lines = scanned.shows.lines;
            bytes = scanned.shows.bytes;
            dots =
                λ k px line get inside. scanned.shows.dots k px line get inside ∙ seen px (k / lines_of e) inside (high k line get)
                ∙ ap (λ (z : Lang). z.screen px (k / lines_of e)) (sym o.same);
          };
        }
      where
        o : Interrupted m h
        o = r.came m (omega (arith, few_later (image e) held b, n)) u

        scanned : Pictured e (image e) (run_to (image e) held first limit) m (after o.i)
        scanned = (parts IsTimer).laws.own.picture e m o.i limit held first (interrupted e script (after o.i) o.before m o.outside o.cycle) (omega (arith, n, l))

        seen : Showing e (after o.i) o.before
        seen = outside_shows e script (after o.i) o.before o.outside (omega (arith, o.cycle))

        high : (k : ℕ) (line : List ℕ) → slice_get (picture_of (image e) (run_to (image e) held first limit) m) k ≡ Some line → k / lines_of e < rows_of e
        high k line get =
            row_inside e k (omega (arith, slice_get_within (picture_of (image e) (run_to (image e) held first limit) m) k line get, scanned.shows.lines))
