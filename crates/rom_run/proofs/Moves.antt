-- Each move of the board keeps what is known of it.
use Rattle.std.proofs.Common.{◌≡◌, ℕ, suc, ◌+◌, ◌-◌, ◌/◌, ◌<◌, ◌≤◌, ◌⊎◌, inl, inr, refl, sym, ◌∙◌, ap, subst, subst₂, arith, true, false, List, [], le_refl}
use Rattle.std.specs.Prelude.{Some, slice_get}
use Rattle.std.proofs.lemmas.Bool.{cases_eq, cases_Bool}
use Rattle.machine.specs.Bank.{value}
use Rattle.machine.specs.Opcodes.{cycles_of}
use Rattle.machine.specs.Signals.{efx_at}
use Rattle.machine.specs.Board.{Machine, case_of, move, opcode_of, main_move}
use Rattle.machine.specs.Board.Case.{Instruction}
use Rattle.machine.specs.Keys.{Keys, Event, held_at}
use Rattle.machine.specs.Run.{after_moves}
use Rattle.machine.specs.Schedule.{Tick}
use Rattle.machine.specs.Ranges.{FitsMachine}
use Rattle.machine.specs.Pictures.{interrupt_at, place, interrupt_place}
use Rattle.machine.proofs.Fits.{main-fits}
use Rattle.chip8_image.specs.declared.parts.Part.TheVariants.{Timer as IsTimer}
use Rattle.chip8_lang.specs.declared.view.Edition.{Edition}
use Rattle.chip8_lang.specs.declared.view.Stop.{Stop}
use Rattle.chip8_lang.specs.Editions.{memory_end, screen_start}
use Rattle.chip8_lang.specs.State.{Lang, instr_at}
use Rattle.chip8_lang.specs.Timed.{between_routines, interrupts, later, by_stop, next_point, routine_cycles}
use Rattle.chip8_lang.specs.Timed.Next.{Dispatch, Stopped as NextStopped}
use Rattle.chip8_lang.specs.Ticks.{ticks}
use Rattle.chip8_lang.specs.Between.{ticks_between, keys_between}
use Rattle.chip8_lang.specs.Events.{is_instruction, is_at, is_dispatch, is_stop}
use Rattle.chip8_lang.proofs.Ticks.{ticks_counted}
use Rattle.chip8_lang.specs.Step.{stop_of}
use Rattle.rom_law.specs.Code.{Input, moved, is_event}
use Rattle.rom_law.specs.Moments.{Moment, Among, is_waiting, takes_by}
use Rattle.rom_law.specs.Later.{After}
use Rattle.rom_law.proofs.Ranges.{tick_fits}
use Rattle.rom_law.proofs.Ticks.{after_none}
use Rattle.rom_law.proofs.Ticks.{after_tick as one_tick}
use Rattle.rom_law.specs.Program.{Program, KeepsState, code, Dispatches, Halts}
use Rattle.rom_law.specs.Rows.{Since, Embeds, Row, Outcome, Stepped, Stopped, now, dispatched, after_main, after_tick}
use Rattle.rom_law.specs.Rows.Outcome.{Still as Calm, Dispatched, Halted as Failed}
use Rattle.rom_law.specs.Runs.{state_at, carried, IsNext, IsEnd, Moves}
use Rattle.rom_law.proofs.Carried.{main_more, carried_main, carried_interrupt, carried_idle, carried_disabled}
use Rattle.rom_law.proofs.Events.{at_instruction, at_other, calm_points, other_pc}
use Rattle.rom_law.proofs.Kept.{row_starts, row_ticks, row_runs, row_cycles}
use Rattle.rom_law.proofs.Language.{counted_as, between_ticks, between_ticks_key, told_ticks}
use Rattle.rom_law.proofs.Later.{dispatches_after, halts_after}
use Rattle.rom_law.specs.Runs.Moves.{Still, Arrived, Halted}
use Rattle.rom_law.proofs.Schedules.{dispatch_by, halt_by}
use Rattle.rom_rows.specs.Rom.{image, vip}
use Rattle.rom_rows.specs.Table.{pieces, calm_pieces, waited_pieces}
use Rattle.rom_rows.proofs.Calm.{row_calm}
use Rattle.rom_rows.proofs.Waited.{row_joined}
use Rattle.rom_parts.specs.timer.Frame.{IsOutside, IsMainPlace, Makes}
use Rattle.rom_parts.specs.timer.Frame.Makes.{Runs, Waits, Accepts}
use Rattle.rom_parts.specs.timer.Routine.{IsInterrupted, IsTick, routine_moves}
use Rattle.rom_parts.proofs.timer.Frame.{case_accepts, case_runs, case_waits, every_move, keeps_place, keeps_waiting}
use Rattle.rom_parts.proofs.timer.Interval.{ticks_main, ticks_wait, ticks_served, keeps_interrupted, embeds_longer, embeds_more}
use Rattle.rom_run.proofs.Image.{parts}
use Rattle.rom_run.specs.Time.{Spends, WaitsBy, wait_time, Woken, Timed, BehindWait, DueInTime, most_wait, since_return}
use Rattle.rom_run.specs.Running.{IsBehind, Dated, Interval, Counted, Showing, Outside, Running}
use Rattle.rom_run.specs.Running.Counted.{NoEvent, Renewed}
use Rattle.rom_run.specs.Running.Due.{Arrives, Ends}
use Rattle.rom_run.specs.Running.Outside.{AtRow, AtEvent}
use Rattle.rom_run.specs.Time.Timed.{Before, Waiting, Behind}
use Rattle.rom_run.specs.Running.Running.{InMain, InRoutine}
use Rattle.rom_run.proofs.Proved.{proved}
use Rattle.rom_run.proofs.Room.{row_room}
use Rattle.rom_run.proofs.Behind.{waited_moves, waited_cycle, waited_awake, row_wakes}
use Rattle.rom_run.proofs.Calm.{calm_moves, calm_ticks, calm_cycle, calm_idle, calm_starts, calm_move_shows, below_screen}
use Rattle.rom_run.proofs.Woken.{row_goes, row_waits, woken_apart, woken_then, wakes, waited_at, calm_row}
use Rattle.rom_run.proofs.Ticks.{waits_more, waits_most}
use Rattle.rom_run.proofs.Exact.{return_main, return_idle, later_is, interrupts_are, due_behind, waits_are, stops_not}
use Rattle.rom_run.proofs.Next.{next_prompt, next_waited}
use Rattle.rom_run.proofs.Time.{fewer, row_in_time}
use Rattle.rom_run.proofs.Waits.{timed, sleeps, idle_cycle}

module _ (e : Edition) (script : List Event) where
  abbrev x : Program
  x = vip e

  abbrev held : ℕ → Keys
  held = held_at script

  abbrev Goes : Machine → Since → Type 0
  Goes = Running e script

  abbrev MovesOn : Since → Machine → Type 0
  MovesOn = Moves x script Goes

  -- ---- events

  -- at a dispatch or a stop the board is interrupted, or it is an event of the run
  module _ (c : Machine) (s : Lang) (k : KeepsState x c s) where
    pub runs_there : IsOutside c.cycle → (place c.cycle ≡ interrupt_place → ⊥) → case_of c ≡ Instruction
    runs_there out d = case_runs c k.on k.lies.enabled out d k.lies.awake

    interrupted_there : place c.cycle ≡ interrupt_place → (p a : ℕ) → is_at p a c ≡ false
    interrupted_there i p a = at_other c (ap is_instruction (case_accepts c k.on k.lies.enabled i)) p a

  pub dispatch_there : (c : Machine) (s : Lang) → Dispatches x c s → IsOutside c.cycle → (place c.cycle ≡ interrupt_place → ⊥)
      → (is_dispatch x.interpreter c ≡ true) × (is_stop x.interpreter c ≡ false)
  dispatch_there c s st out d = (
    at_instruction c (runs_there c s st.keeps out d) 4 x.interpreter.fetch ∙ dispatch_by x c s st,
    at_instruction c (runs_there c s st.keeps out
        d) 3 x.interpreter.halt ∙ other_pc _ 3 st.p refl,
  )

  stop_there : (c : Machine) (h : Since) {stop : Stop} → Halts x c (now h) stop → IsOutside c.cycle → (place c.cycle ≡ interrupt_place → ⊥)
      → is_stop x.interpreter c ≡ true
  stop_there c h st out d = at_instruction c (runs_there c (now h) st.keeps out d) 3 x.interpreter.halt ∙ halt_by x c (now h) _ st

  -- ---- a dispatch point

  none_yet : (a : ℕ) → 0 ≡ ticks_between a a
  none_yet a = omega (arith, ticks_counted a a)

  embeds_none : (sets : List Keys) → Embeds [] sets
  embeds_none sets = record { place = λ u. u; there = λ u k h. never u k h; order = λ u w l. l }
    where
      never : (u : ℕ) (k : Keys) → slice_get [] u ≡ Some k → slice_get sets u ≡ Some k
      never u k h = cc

  -- the record begins anew
  pub renewed : (c : Machine) (s : Lang) → FitsMachine c → Dispatches x c s → IsMainPlace c.cycle → (place c.cycle ≡ interrupt_place → ⊥)
      → Goes c (dispatched c.cycle s)
  renewed c s f d p i =
      InMain (
      AtRow
      (record {
        fits = f;
        outside = p.outside;
        even = λ a. p.even;
        from = le_refl c.cycle;
        begun = i;
        starts = p;
        behind = inl refl;
        past = λ k m a. absurd a;
        covers =
            record { ticks = none_yet c.cycle; keys = embeds_none (keys_between script c.cycle c.cycle) };
      })
      (row_starts x (pieces x) (proved e) c (dispatched c.cycle s) f ((proved e).fetch c.cycle c s f d))
      (Renewed d.keeps.lies.awake i)
      (Before (omega arith) (calm_starts e c.cycle c s f d))
      )

  -- where main code hasn't waited, its main cycles tell the cycle and the ticks
  back : (b : Machine) (h : Since) → (h.ticks ≡ 0) ⊎ IsBehind b → (h.ticks ≡ 0) ⊎ (since_return b.cycle ≤ between_routines)
  back b h (inl z) = inl z
  back b h (inr w) = inr w.back

  cycle_then : (b : Machine) (h : Since) → Interval e script b h → (place b.cycle ≡ interrupt_place → ⊥) → Spends b h 0
      → (b.cycle ≡ later h.from h.spent) × (interrupts h.from h.spent ≡ h.ticks)
  cycle_then b h t d s = (
    later_is h.from h.spent h.ticks b.cycle t.starts.outside t.begun d t.covers.ticks (omega (arith, s)) (back b h t.behind),
    interrupts_are h.from h.spent h.ticks b.cycle t.starts.outside t.begun d t.covers.ticks (omega (arith, s)) (back b h t.behind),
  )

  -- behind a wait no interrupt comes
  wait_apart : (c : Machine) (h : Since) → BehindWait e c h → place c.cycle ≡ interrupt_place → ⊥
  wait_apart c h w i = woken_apart e w.old w.before 2 (omega arith) w.woken (omega (arith, i, w.cycle))

  -- ---- what a state comes to that a dispatch or a stop has made

  module _ (c : Machine) (h : Since) (t : Interval e script c h) (p : IsMainPlace c.cycle) (soon : DueInTime e c h) (shows : place c.cycle ≡ interrupt_place → Showing e c h) where
    next : (st : Stepped x c h (state_at x c)) → (is_waiting (instr_at h.state) ≡ false) ⊎ BehindWait e c h → (place c.cycle ≡ interrupt_place → ⊥)
        → IsNext x script c h
    next st makes d limit here = go makes soon.exact
      where
        prompt : is_waiting (instr_at h.state) ≡ false → Spends c h 0 → next_point e script limit h.from h.state ≡ Dispatch c.cycle (state_at x c)
        prompt p s =
            let n = cycle_then c h t d s in
            next_prompt e script limit h (state_at x c) c.cycle st.runs st.between st.time st.told (t.past p) t.starts.even n.0 n.1 p here

        waited : BehindWait e c h → next_point e script limit h.from h.state ≡ Dispatch c.cycle (state_at x c)
        waited w =
            next_waited e script limit h (state_at x c) c.cycle st.runs st.between (subst (λ s. WaitsBy s w.woken.most) (sym w.state) w.woken.waits)
            (subst₂ (λ a s. c.cycle ≡ due_behind e (instr_at s) a s) (sym w.from) (sym w.state)
            (waited_at e w.old w.before w.woken c.cycle w.cycle st.between.key
            (λ n u. sym w.spent ∙ st.time n (ap (λ s. takes_by e (instr_at s) s st.between.key) w.state ∙ u))))
            (w.ticks ∙ subst₂ (λ a s. w.before.ticks ≡ interrupts a (wait_time e s - 1) + 1) (sym w.from) (sym w.state) w.woken.ticks)

        go : (is_waiting (instr_at h.state) ≡ false) ⊎ BehindWait e c h → Spends c h 0 ⊎ BehindWait e c h → next_point e script limit h.from h.state ≡ Dispatch c.cycle (state_at x c)
        go (inr w) o = waited w
        go (inl p) (inr w) = waited w
        go (inl p) (inl s) = prompt p s

    stops : (stop : Stop) → Stopped x c h stop → (place c.cycle ≡ interrupt_place → ⊥) → IsEnd x c h stop
    stops stop st d keys limit = go soon.exact
      where
        go : Spends c h 0 ⊎ BehindWait e c h → next_point e keys limit h.from h.state ≡ NextStopped c.cycle (now h) stop
        go (inl s) =
            let n = cycle_then c h t d s in
            ap (λ o. by_stop e keys limit o h.from h.state) st.fits
            ∙ (λ i. NextStopped (sym (n.0 ∙ ap (later h.from) st.time) i) (ticks ((ap (interrupts h.from) (sym st.time) ∙ n.1) i) h.state) stop)
        go (inr w) = absurd (stops_not (ap (stop_of e) w.state ∙ row_goes e w.old w.before w.woken.row) st.fits)

    arrives : (s : Lang) → Stepped x c h s → (is_waiting (instr_at h.state) ≡ false) ⊎ BehindWait e c h → MovesOn h c
    arrives s st makes = go (cases_eq (place c.cycle) interrupt_place)
      where
        goes_on : place c.cycle ≡ interrupt_place → (is_waiting (instr_at h.state) ≡ false) ⊎ BehindWait e c h → is_waiting (instr_at h.state) ≡ false
        goes_on i (inl p) = p
        goes_on i (inr w) = absurd (wait_apart c h w i)

        here : Stepped x c h (state_at x c)
        here = subst (Stepped x c h) (sym st.stands.keeps.lies.is) st

        go : (place c.cycle ≡ interrupt_place) ⊎ (place c.cycle ≡ interrupt_place → ⊥) → MovesOn h c
        go (inl i) =
            Still (interrupted_there c s st.stands.keeps i 4 x.interpreter.fetch) (interrupted_there c s st.stands.keeps i 3 x.interpreter.halt)
            (InMain (AtEvent t i (Arrives s st (goes_on i makes)) soon (shows i)))
        go (inr d) =
            Arrived (dispatch_there c s st.stands t.outside d).0 (dispatch_there c s st.stands t.outside d).1 t.covers here (next here makes d)
            (renewed c (state_at x c) t.fits here.stands p d)

    ends : (stop : Stop) → Stopped x c h stop → MovesOn h c
    ends stop st = go (cases_eq (place c.cycle) interrupt_place)
      where
        go : (place c.cycle ≡ interrupt_place) ⊎ (place c.cycle ≡ interrupt_place → ⊥) → MovesOn h c
        go (inl i) =
            Still (interrupted_there c (now h) st.halts.keeps i 4 x.interpreter.fetch)
            (interrupted_there c (now h) st.halts.keeps i 3 x.interpreter.halt) (InMain (AtEvent t i (Ends stop st) soon (shows i)))
        go (inr d) = Halted (stop_there c h st.halts t.outside d) t.covers stop st (stops stop st d)

  -- ---- a main move

  -- it adds two cycles and its set of keys
  pub counts_main : (b : Machine) (h : Since) → Interval e script b h → Row x (pieces x) b h → (place b.cycle ≡ interrupt_place → ⊥)
      → b.regs.idle ≡ false → carried (image e) held b h ≡ main_more (image e) held b h 2
  counts_main b h t row i awake =
      let ready = row_runs x (pieces x) (proved e) b h t.fits row in
      carried_main (image e) held b h (case_runs b ready.on ready.enabled t.outside i awake) ready.enabled
      (row_cycles x (pieces x) (proved e) b h t.fits awake row)

  module _ (b : Machine) (h : Since) (t : Interval e script b h) (row : Row x (pieces x) b h) (i : place b.cycle ≡ interrupt_place → ⊥) (awake : b.regs.idle ≡ false) (time : Timed e b h) where
    u : Input
    u = record { efx = efx_at (b.cycle + 1) true; held = held (b.cycle + 1) }

    c : Machine
    c = moved (code x) u (record b { cycle = b.cycle + 2 })

    h' : Since
    h' = after_main u h

    main_is : move x.interpreter.rom held b
        ≡ record (main_move x.interpreter.rom (efx_at (b.cycle + 1) true) (held (b.cycle + 1)) b) {
          cycle = b.cycle
              + cycles_of (opcode_of x.interpreter.rom b);
        } → move x.interpreter.rom held b ≡ c
    unfolding c u
    main_is m =
        m ∙ ap (λ n. record (main_move x.interpreter.rom (efx_at (b.cycle + 1) true) (held (b.cycle + 1)) b) { cycle = b.cycle + n })
        (row_cycles x (pieces x) (proved e) b h t.fits awake row)

    there : IsMainPlace (b.cycle + 2)
    there = keeps_place b.cycle (record { outside = t.outside; even = t.even awake }) i

    fits : FitsMachine c
    unfolding c u
    fits =
        main-fits x.interpreter.rom (proved e).rom u.efx u.held (record b { cycle = b.cycle + 2 })
        (record { regs = t.fits.regs; ram = t.fits.ram; size = t.fits.size; key = t.fits.key })

    fits_there : FitsMachine (record b { cycle = b.cycle + 2 })
    fits_there = record { regs = t.fits.regs; ram = t.fits.ram; size = t.fits.size; key = t.fits.key }

    -- before a wait it comes to a row before it, and behind a wait to one behind it
    before : Row x (calm_pieces x) b h → Outcome x (calm_pieces x) c h'
    unfolding c u h'
    before r = calm_moves e u (record b { cycle = b.cycle + 2 }) h fits_there awake (calm_cycle e b h (b.cycle + 2) t.fits awake r)

    behind : Row x (waited_pieces x) b h → Outcome x (waited_pieces x) c h'
    unfolding c u h'
    behind r = waited_moves e u (record b { cycle = b.cycle + 2 }) h (waited_cycle e b h (b.cycle + 2) r)

    -- before a wait it leaves the screen
    shows_on : Row x (calm_pieces x) b h → value c.regs.r.r2 < screen_start e → Showing e c h'
    unfolding c u h'
    shows_on r below = calm_move_shows e u (record b { cycle = b.cycle + 2 }) h fits_there awake fits below (calm_cycle e b h (b.cycle + 2) t.fits awake r)

    -- behind a wait it stays in the row of the latest wait
    woken_on : is_event (code x) c ≡ false → Woken e b h → Woken e c h'
    unfolding c u h'
    woken_on calm w =
        record {
          woke = w.woke;
          return = w.return;
          exact = w.exact;
          ticks = w.ticks;
          most = w.most;
          waits = w.waits;
          since = omega (arith, w.since);
          least = omega (arith, w.least);
          row = calm_row e c h' calm (behind w.row);
        }

    -- and the board isn't interrupted
    apart : Woken e b h → place c.cycle ≡ interrupt_place → Showing e c h'
    unfolding c u
    apart w i = absurd (woken_apart e b h 2 (omega arith) w i)

    spends : (n : ℕ) → Spends b h n → Spends c h' n
    unfolding c u h'
    spends n s = omega (arith, s)

    behind_wait : Woken e b h → BehindWait e c h'
    unfolding c u h'
    behind_wait w = record { old = b; before = h; woken = w; cycle = refl; spent = refl; ticks = refl; from = refl; state = refl }

    exact : Timed e b h → Spends c h' 0 ⊎ BehindWait e c h'
    unfolding c u h'
    exact (Before s r) = inl (spends 0 s)
    exact (Waiting n s l idle r) = absurd (sleeps (sym idle ∙ awake))
    exact (Behind n s l r w) = inr (behind_wait w)

    soon : DueInTime e c h'
    unfolding h'
    soon =
        let s = row_in_time e script b h t row time in
        record {
          waited = s.waited;
          spends = spends s.waited s.spends;
          suffices = λ bound k. fewer bound _ _ (omega arith) (s.suffices bound k);
          exact = exact time;
        }

    carried_is : carried x.interpreter.rom held b h ≡ h'
    unfolding h' u
    carried_is = counts_main b h t row i awake

    behind_on : (h.ticks ≡ 0) ⊎ IsBehind b → (h'.ticks ≡ 0) ⊎ IsBehind c
    unfolding c h'
    behind_on (inl z) = inl z
    behind_on (inr w) =
        let on = return_main b.cycle (t.even awake) i w.back in
        inr (record { back = omega (arith, on.0, on.1); moved = λ k. omega (arith, on.0) })

    spends_prompt : is_waiting (instr_at h.state) ≡ false → Timed e b h → Spends b h 0
    spends_prompt p (Before s r) = s
    spends_prompt p (Waiting n s l idle r) = absurd (sleeps (sym idle ∙ awake))
    spends_prompt p (Behind n s l r w) = absurd (waits_are h.state w.waits p)

    past_on : is_waiting (instr_at h.state) ≡ false → (m : Moment) → Among m h'.moments → Dated script h.from m
    unfolding u h'
    past_on p m (inr a) = t.past p m a
    past_on p m (inl is) =
        let n = cycle_then b h t i (spends_prompt p time) in
        subst (Dated script h.from) (sym is) (record { ticks = sym n.1; held = ap (λ c. held (c + 1)) n.0 })

    interval : Interval e script c h'
    unfolding c u h'
    interval =
        record {
          fits = fits;
          outside = there.outside;
          even = λ a. there.even;
          from = omega (arith, t.from);
          begun = t.begun;
          starts = t.starts;
          behind = behind_on t.behind;
          past = past_on;
          covers =
              record {
                ticks = t.covers.ticks ∙ sym (ticks_main h.from b.cycle (t.even awake) i);
                keys = embeds_more script h.from b.cycle t.from h.keys t.covers.keys;
              };
        }

    main_place : IsMainPlace c.cycle
    unfolding c u
    main_place = there

    stays : is_event (code x) c ≡ false → Row x (pieces x) c h' → Timed e c h' → MovesOn h' c
    stays calm r later = Still (calm_points c x calm).0 (calm_points c x calm).1 (InMain (AtRow interval r (NoEvent calm) later))

    run_on : Spends b h 0 → Row x (calm_pieces x) b h → Outcome x (calm_pieces x) c h' → MovesOn h' c
    run_on s r (Calm calm r') = stays calm (row_calm x c h' r') (Before (spends 0 s) r')
    run_on s r (Dispatched z st makes) =
        arrives c h' interval main_place soon (λ i. shows_on r (below_screen e c z st.stands.keeps.lies.stack)) z st (inl makes)
    run_on s r (Failed stop st) = ends c h' interval main_place soon (λ i. shows_on r (below_screen e c (now h') st.halts.keeps.lies.stack)) stop st

    run_behind : (n : ℕ) → Spends b h n → n ≤ most_wait → Woken e b h → Outcome x (waited_pieces x) c h' → MovesOn h' c
    run_behind n s l w (Calm calm r) = stays calm (row_joined x c h' r) (Behind n (spends n s) l r (woken_on calm w))
    run_behind n s l w (Dispatched z st makes) = arrives c h' interval main_place soon (apart w) z st (inr (behind_wait w))
    run_behind n s l w (Failed stop st) = ends c h' interval main_place soon (apart w) stop st

    main_run : Timed e b h → MovesOn h' c
    main_run (Before s r) = run_on s r (before r)
    main_run (Waiting n s l idle r) = absurd (sleeps (sym idle ∙ awake))
    main_run (Behind n s l r w) = run_behind n s l w (behind r)

    main_comes : move x.interpreter.rom held b
        ≡ record (main_move x.interpreter.rom (efx_at (b.cycle + 1) true) (held (b.cycle + 1)) b) {
          cycle = b.cycle
              + cycles_of (opcode_of x.interpreter.rom b);
        } → MovesOn (carried x.interpreter.rom held b h) (move x.interpreter.rom held b)
    main_comes m = subst₂ MovesOn (sym carried_is) (sym (main_is m)) (main_run time)

  -- ---- an idle cycle

  uncounted : (b : Machine) → Counted e b → (b.regs.idle ≡ true) ⊎ (place b.cycle ≡ interrupt_place) → is_event (code x) b ≡ false
  uncounted b (NoEvent m) k = m
  uncounted b (Renewed a d) (inl i) = absurd (sleeps (sym i ∙ a))
  uncounted b (Renewed a d) (inr p) = absurd (d p)

  idle_behind : (b : Machine) (h : Since) → Interval e script b h → (place b.cycle ≡ interrupt_place → ⊥) → b.regs.idle ≡ true
      → (h.ticks ≡ 0) ⊎ IsBehind b → (h.ticks ≡ 0) ⊎ IsBehind (timed (b.cycle + 1) b)
  idle_behind b h t i idle (inl z) = inl z
  idle_behind b h t i idle (inr w) =
      let on = return_idle b.cycle i w.back in
      inr (record { back = omega (arith, on.0, on.1); moved = λ k. omega (arith, on.0, w.moved idle) })

  idle_interval : (b : Machine) (h : Since) → Interval e script b h → (place b.cycle ≡ interrupt_place → ⊥) → b.regs.idle ≡ true
      → Interval e script (timed (b.cycle + 1) b) h
  idle_interval b h t i idle =
      record {
        fits = record { regs = t.fits.regs; ram = t.fits.ram; size = t.fits.size; key = t.fits.key };
        outside = keeps_waiting b.cycle t.outside i;
        even = λ a. absurd (sleeps (sym idle ∙ a));
        from = omega (arith, t.from);
        begun = t.begun;
        starts = t.starts;
        behind = idle_behind b h t i idle t.behind;
        past = t.past;
        covers =
            record {
              ticks = t.covers.ticks ∙ sym (ticks_wait h.from b.cycle i);
              keys = embeds_longer script h.from b.cycle (b.cycle + 1) h.keys (omega arith) t.covers.keys;
            };
      }

  idle_timed : (b : Machine) (h : Since) → Interval e script b h → (place b.cycle ≡ interrupt_place → ⊥) → b.regs.idle ≡ true → Timed e b h
      → Timed e (timed (b.cycle + 1) b) h
  idle_timed b h t i idle (Before s r) =
      Waiting 1 (omega (arith, s)) (record { most = omega (arith, waits_more b.cycle t.outside i); moved = idle_moved t.behind }) idle
      (calm_idle e b h (b.cycle + 1) idle r)
    where
      idle_moved : (h.ticks ≡ 0) ⊎ IsBehind b → (h.ticks ≡ 0) ⊎ (1 + 2 ≤ since_return (b.cycle + 1))
      idle_moved (inl z) = inl z
      idle_moved (inr w) = inr (omega (arith, (return_idle b.cycle i w.back).0, w.moved idle))
  idle_timed b h t i idle (Waiting n s l _ r) =
      Waiting (n + 1) (omega (arith, s)) (record { most = omega (arith, l.most, waits_more b.cycle t.outside i); moved = idle_on t.behind l.moved }) idle
      (calm_idle e b h (b.cycle + 1) idle r)
    where
      idle_on : (h.ticks ≡ 0) ⊎ IsBehind b → (h.ticks ≡ 0) ⊎ (n + 2 ≤ since_return b.cycle) → (h.ticks ≡ 0) ⊎ (n + 1 + 2 ≤ since_return (b.cycle + 1))
      idle_on (inl z) k = inl z
      idle_on (inr w) (inl z) = inl z
      idle_on (inr w) (inr k) = inr (omega (arith, (return_idle b.cycle i w.back).0, k))
  idle_timed b h t i idle (Behind n s l r w) = absurd (sleeps (sym idle ∙ waited_awake e b h r))

  idle_comes : (b : Machine) (h : Since) → Interval e script b h → Row x (pieces x) b h → Counted e b → Timed e b h
      → (place b.cycle ≡ interrupt_place → ⊥) → b.regs.idle ≡ true → MovesOn h (timed (b.cycle + 1) b)
  idle_comes b h t row n time i idle =
      let calm = uncounted b n (inl idle) in
      Still (calm_points (timed (b.cycle + 1) b) x calm).0 (calm_points (timed (b.cycle + 1) b) x calm).1
      (InMain (AtRow (idle_interval b h t i idle) (idle_cycle e b h (b.cycle + 1) idle row) (NoEvent calm) (idle_timed b h t i idle time)))

  -- ---- the interrupt routine

  -- main code is interrupted with all that the routine wants
  pub interrupted : (b : Machine) (h : Since) (m : ℕ) → Outside e script b h → b.cycle ≡ interrupt_at m → IsInterrupted e m b
  interrupted b h m (AtRow t row n time) i =
      let ready = row_runs x (pieces x) (proved e) b h t.fits row in
      let r = row_room e b h row in
      record { cycle = i; on = ready.on; enabled = ready.enabled; latch = ready.latch; entry = ready.entry; fits = t.fits; room = r.low; top = r.high }
  interrupted b h m (AtEvent t p (Arrives s st makes) late y) i = keeps_interrupted e m b s t.fits st.stands.keeps i
  interrupted b h m (AtEvent t p (Ends stop st) late y) i = keeps_interrupted e m b (now h) t.fits st.halts.keeps i

  -- in the routine the program counter is R1
  by_r1 : (c : Machine) → c.regs.p ≡ 1 → (is_dispatch x.interpreter c ≡ false) × (is_stop x.interpreter c ≡ false)
  by_r1 c p = calm_points c x (rw p refl)

  -- c is where it returns: one tick was made
  module _ (b : Machine) (h : Since) (m : ℕ) (cycle : b.cycle ≡ interrupt_at m) (c : Machine) (k : Tick (memory_end e) b c) (at : c.cycle ≡ interrupt_at m + routine_cycles) (p : IsMainPlace c.cycle) where
    tick_interval : Interval e script b h → Interval e script c (after_tick h)
    tick_interval t =
        record {
          fits = tick_fits (memory_end e) b c t.fits k;
          outside = p.outside;
          even = λ a. p.even;
          from = omega (arith, t.from, cycle, at);
          begun = t.begun;
          starts = t.starts;
          behind =
              inr (record { back = omega (arith, at); moved = λ i. absurd (sleeps (sym i ∙ ap (λ (z : Machine). z.regs.idle) k.is)) });
          past = t.past;
          covers =
              record {
                ticks =
                    ap suc (t.covers.ticks ∙ ap (ticks_between h.from) cycle) ∙ sym (ticks_served h.from m (omega (arith, t.from, cycle, t.begun)))
                    ∙ ap (ticks_between h.from) (sym at);
                keys = embeds_longer script h.from b.cycle c.cycle h.keys (omega (arith, cycle, at)) t.covers.keys;
              };
        }

    ticked : b.regs.idle ≡ false → After (memory_end e) 1 b c
    ticked awake = one_tick (memory_end e) 0 b b c awake (after_none (memory_end e) b) k

    in_place : place b.cycle ≡ interrupt_place
    in_place = omega (arith, cycle)

    more : h.ticks + 1 ≡ suc h.ticks
    more = omega arith

    tick_spends : (n : ℕ) → Spends b h n → Spends c (after_tick h) n
    tick_spends n s = omega (arith, s, cycle, at)

    -- a wait ends
    tick_wakes : (n : ℕ) → Interval e script b h → Row x (pieces x) b h → Timed e b h → Spends b h n → n ≤ most_wait → b.regs.idle ≡ true
        → Timed e c (after_tick h)
    tick_wakes n t row time s l i =
        let w = row_waits e b h i row in
        Behind n (tick_spends n s) l (row_wakes e b c h t.fits i k row)
        (wakes e c h m w (row_wakes e b c h t.fits i k row) at (woken_then e script b h m t i w time cycle))

    tick_timed : Interval e script b h → Row x (pieces x) b h → Timed e b h → Timed e c (after_tick h)
    tick_timed t row (Before s r) = go (cases_Bool b.regs.idle)
      where
        go : (b.regs.idle ≡ true) ⊎ (b.regs.idle ≡ false) → Timed e c (after_tick h)
        go (inl i) = tick_wakes 0 t row (Before s r) s (omega arith) i
        go (inr i) = Before (tick_spends 0 s) (calm_ticks e b c h t.fits i k r)
    tick_timed t row (Waiting n s l i r) = tick_wakes n t row (Waiting n s l i r) s (omega (arith, l.most, waits_most b.cycle t.outside)) i
    tick_timed t row (Behind n s l r w) = absurd (woken_apart e b h 0 (omega arith) w (omega (arith, in_place)))

    tick_exact : Spends b h 0 ⊎ BehindWait e b h → Spends c (after_tick h) 0 ⊎ BehindWait e c (after_tick h)
    tick_exact (inl s) = inl (tick_spends 0 s)
    tick_exact (inr w) = absurd (wait_apart b h w in_place)

    tick_soon : DueInTime e b h → DueInTime e c (after_tick h)
    tick_soon s =
        record { waited = s.waited; spends = tick_spends s.waited s.spends; suffices = s.suffices; exact = tick_exact s.exact }

    -- it isn't interrupted at once
    behind_it : place c.cycle ≡ interrupt_place → Showing e c (after_tick h)
    behind_it i = absurd (omega (arith, at, i))

    returned : Outside e script b h → MovesOn (after_tick h) c
    returned (AtRow t row n time) =
        let calm = ap (is_event (code x)) k.is ∙ uncounted b n (inr in_place) in
        Still (calm_points c x calm).0 (calm_points c x calm).1
        (InMain (AtRow (tick_interval t) (row_ticks x (pieces x) (proved e) b c h t.fits k row) (NoEvent calm) (tick_timed t row time)))
    returned (AtEvent t _ (Arrives s st makes) late y) =
        arrives c (after_tick h) (tick_interval t) p (tick_soon late) behind_it (ticks 1 s) (
        record {
          runs = st.runs;
          between = counted_as (sym more) (between_ticks 1 e h.state h.ticks h.keys s st.between);
          time = λ n t. st.time n (ap (x.takes h.state) (sym (between_ticks_key 1 e h.state h.ticks h.keys s st.between)) ∙ t);
          told = told_ticks 1 e h.state h.ticks h.keys s st.between h.moments h.spent st.told;
          stands = dispatches_after x 1 b c (ticked st.stands.keeps.lies.awake) t.fits s st.stands;
        }
        )
        (inl makes)
    returned (AtEvent t _ (Ends stop st) late y) =
        ends c (after_tick h) (tick_interval t) p (tick_soon late) behind_it stop
        (record { fits = st.fits; time = st.time; halts = halts_after x 1 b c (ticked st.halts.keeps.lies.awake) t.fits (now h) stop st.halts })

  module _ (b : Machine) (h : Since) (m : ℕ) (o : Outside e script b h) (cycle : b.cycle ≡ interrupt_at m) where
    tick : IsTick e (image e) m b held
    tick = (parts IsTimer).laws.own.tick e m b held (interrupted b h m o cycle)

    -- so many moves on, still in the routine
    serves : (k : ℕ) → suc k < routine_moves → MovesOn (after_tick h) (after_moves (image e) held b (suc k))
    serves k l =
        let quiet = by_r1 (after_moves (image e) held b (suc k)) (tick.inside (suc k) (omega arith) l).by_r1 in
        Still quiet.0 quiet.1 (InRoutine
        (record {
          start = b;
          before = h;
          counted = refl;
          outside = o;
          m = m;
          cycle = cycle;
          k = suc k;
          some = omega arith;
          inside = l;
          is = refl;
        }))

    returns : MovesOn (after_tick h) (after_moves (image e) held b routine_moves)
    returns = returned b h m cycle (after_moves (image e) held b routine_moves) tick.tick tick.cycle tick.place o

    pub routine_comes : (k : ℕ) → k < routine_moves → MovesOn (after_tick h) (after_moves (image e) held b (suc k))
    routine_comes k l = go (cases_eq (suc k) routine_moves)
      where
        go : (suc k ≡ routine_moves) ⊎ (suc k ≡ routine_moves → ⊥) → MovesOn (after_tick h) (after_moves (image e) held b (suc k))
        go (inl last) = subst (λ n. MovesOn (after_tick h) (after_moves (image e) held b n)) (sym last) returns
        go (inr d) = serves k (omega (arith, l, d))

  -- ---- every move

  -- the interrupt is one tick
  accepts : (b : Machine) (h : Since) → b.on ≡ true → b.regs.ie ≡ true → b.cycle ≡ interrupt_at (b.cycle / 3668) → carried (image e) held b h ≡ after_tick h
  accepts b h on ie i = carried_interrupt (image e) held b h (case_accepts b on ie (omega (arith, i)))

  row_comes : (b : Machine) (h : Since) (t : Interval e script b h) (row : Row x (pieces x) b h) (n : Counted e b) (time : Timed e b h) → b.on ≡ true
      → b.regs.ie ≡ true → Makes (image e) held b (move (image e) held b) → MovesOn (carried (image e) held b h) (move (image e) held b)
  row_comes b h t row n time on ie (Runs d i m) = main_comes b h t row d i time m
  row_comes b h t row n time on ie (Waits d i m) =
      subst₂ MovesOn (sym (carried_idle (image e) held b h (case_waits b on ie t.outside d i))) (sym m) (idle_comes b h t row n time d i)
  row_comes b h t row n time on ie (Accepts i m) =
      subst (λ z. MovesOn z (move (image e) held b)) (sym (accepts b h on ie i)) (routine_comes b h _ (AtRow t row n time) i 0 (omega arith))

  pub board_moves : (b : Machine) (h : Since) → Goes b h → MovesOn (carried (image e) held b h) (move (image e) held b)
  board_moves b h (InMain (AtRow t row n time)) =
      let ready = row_runs x (pieces x) (proved e) b h t.fits row in
      row_comes b h t row n time ready.on ready.enabled (every_move (image e) held b ready.on ready.enabled t.outside)
  board_moves b h (InMain (AtEvent t p d late y)) =
      let o = interrupted b h (b.cycle / 3668) (AtEvent t p d late y) at in
      subst (λ z. MovesOn z (move (image e) held b)) (sym (accepts b h o.on o.enabled at))
      (routine_comes b h (b.cycle / 3668) (AtEvent t p d late y) at 0 (omega arith))
    where
      at : b.cycle ≡ interrupt_at (b.cycle / 3668)
      at = omega (arith, p)
  board_moves b h (InRoutine s) =
      subst₂ MovesOn (sym s.counted ∙ sym (carried_disabled (image e) held b h disabled)) (ap (move (image e) held) (sym s.is))
      (routine_comes s.start s.before s.m s.outside s.cycle s.k s.inside)
    where
      disabled : b.regs.ie ≡ false
      disabled = ap (λ (z : Machine). z.regs.ie) s.is ∙ ((tick s.start s.before s.m s.outside s.cycle).inside s.k s.some s.inside).disabled
