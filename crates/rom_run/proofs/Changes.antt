-- Behind the wait for the display, and from the first write to the screen on, main code runs up to the next dispatch point without an interrupt.
use Rattle.std.proofs.Common.{◌≡◌, ℕ, zero, suc, ◌+◌, ◌-◌, ◌/◌, ◌≤◌, ◌⊎◌, inl, inr, refl, sym, ◌∙◌, ap, subst, subst₂, arith, Bool, true, false, if◌then◌else◌, List}
use Rattle.std.specs.Prelude.{Some, None}
use Rattle.std.proofs.lemmas.Bool.{cases_eq}
use Rattle.machine.specs.Signals.{dma_at, efx_at}
use Rattle.machine.specs.Instruction.{inputs, stepped}
use Rattle.machine.specs.Board.{Machine, byte_of, case_of, flags_of, main_move, move}
use Rattle.machine.specs.Board.Case.{Dma, Interrupt, Idle, Instruction}
use Rattle.machine.specs.Keys.{Event, Keys, held_at}
use Rattle.machine.specs.Pictures.{interrupt_at, place, interrupt_place}
use Rattle.machine.specs.Run.{after_moves}
use Rattle.machine.proofs.Runs.{later-move}
use Rattle.chip8_image.specs.declared.parts.Part.TheVariants.{Timer as IsTimer}
use Rattle.chip8_lang.specs.declared.view.Edition.{Edition}
use Rattle.chip8_lang.specs.declared.view.Stop.{Stop}
use Rattle.chip8_lang.specs.Events.{is_dispatch}
use Rattle.chip8_lang.specs.Step.{stop_of}
use Rattle.chip8_lang.specs.Timed.{routine_cycles}
use Rattle.rom_law.specs.Code.{Input, moved}
use Rattle.rom_law.specs.Program.{Program, code}
use Rattle.rom_law.specs.Rows.{Since, Row, Outcome, after_main, after_tick}
use Rattle.rom_law.specs.Rows.Outcome.{Still as Calm, Dispatched, Halted as Failed}
use Rattle.rom_law.specs.Runs.{carried, state_after, record_after, Moves}
use Rattle.rom_law.specs.Runs.Moves.{Still, Arrived, Halted}
use Rattle.rom_law.proofs.Carried.{carried_disabled, carried_interrupt, carried_state}
use Rattle.rom_law.proofs.Kept.{row_cycles, row_runs}
use Rattle.rom_law.proofs.States.{holds_after, since_still}
use Rattle.rom_rows.specs.Rom.{image, vip}
use Rattle.rom_rows.specs.Table.{pieces, calm_pieces, waited_pieces}
use Rattle.rom_parts.specs.timer.Frame.{Makes}
use Rattle.rom_parts.specs.timer.Frame.Makes.{Runs, Waits, Accepts}
use Rattle.rom_parts.specs.timer.Routine.{IsTick, routine_moves}
use Rattle.rom_parts.proofs.timer.Frame.{case_accepts, case_runs, every_move, keeps_place}
use Rattle.rom_run.specs.Display.{WritesScreen, RunsMain, SameInterval, AtDisplay, Changes}
use Rattle.rom_run.specs.Display.AtDisplay.{HasWaited, Writes}
use Rattle.rom_run.specs.Laws.{ChangesSoon, WritesSoon}
use Rattle.rom_run.specs.Running.{Interval, Outside, Running, Serving}
use Rattle.rom_run.specs.Running.Outside.{AtRow, AtEvent}
use Rattle.rom_run.specs.Running.Running.{InMain, InRoutine}
use Rattle.rom_run.specs.States.{MayStart, Unstopped}
use Rattle.rom_run.specs.Time.{Woken, most_changing}
use Rattle.rom_run.specs.Time.Timed.{Before, Waiting, Behind}
use Rattle.rom_run.proofs.Behind.{waited_moves, waited_cycle, waited_awake, row_wakes}
use Rattle.rom_run.proofs.Calm.{calm_writes}
use Rattle.rom_run.proofs.Display.{due_awake, woken_since}
use Rattle.rom_run.proofs.Image.{parts}
use Rattle.rom_run.proofs.Moves.{board_moves, counts_main, dispatch_there, interrupted}
use Rattle.rom_run.proofs.Proved.{proved}
use Rattle.rom_run.proofs.Run.{starts_running}
use Rattle.rom_run.proofs.WholeTick.{served_awake, served_disabled, served_within}
use Rattle.rom_run.proofs.States.{there_taken}
use Rattle.rom_run.proofs.Ticks.{few_later}
use Rattle.rom_run.proofs.Waits.{sleeps}
use Rattle.rom_run.proofs.Woken.{row_goes, row_waits, woken_then, wakes, woken_apart, woken_few}

-- where the next move is an instruction, the processor doesn't idle
awake_by : (d i w : Bool) → (if d then Dma else if i then Interrupt else if w then Idle else Instruction) ≡ Instruction → w ≡ false
awake_by true i w k = cc
awake_by false true w k = cc
awake_by false false true k = cc
awake_by false false false k = refl

no_interrupt : Instruction ≡ Interrupt → ⊥
no_interrupt k = cc

no_stop : {stop : Stop} → None ≡ Some stop → ⊥
no_stop k = cc

module _ (e : Edition) (script : List Event) where
  abbrev x : Program
  x = vip e

  abbrev held : ℕ → Keys
  held = held_at script

  abbrev next : Machine → Machine
  next b = move (image e) held b

  abbrev on : Machine → Since → Since
  on b h = carried (image e) held b h

  -- ---- main code writes to the screen behind the wait alone

  running : (b : Machine) → case_of b ≡ Instruction → b.regs.idle ≡ false
  running b k = awake_by (dma_at b.cycle b.on) _ b.regs.idle k

  too_low : (b : Machine) (h : Since) → Row x (calm_pieces x) b h → WritesScreen x held b → ⊥
  too_low b h r w =
      omega (
        arith,
        w.screen,
        calm_writes e b h (running b w.runs) r (inputs (stepped b.regs b.regs.p) (byte_of (image e) b)
            (flags_of (efx_at (b.cycle + 1) b.on) (held (b.cycle + 1) b.key)) 0) w.write w.is,
      )

  writes_woken : (b : Machine) (h : Since) → Running e script b h → WritesScreen x held b → Woken e b h
  writes_woken b h (InMain (AtRow t row n (Before s r))) w = absurd (too_low b h r w)
  writes_woken b h (InMain (AtRow t row n (Waiting k s l i r))) w = absurd (too_low b h r w)
  writes_woken b h (InMain (AtRow t row n (Behind k s l r o))) w = o
  writes_woken b h (InMain (AtEvent t p d late y)) w = absurd (no_interrupt (sym w.runs ∙ there_taken e script b h (InMain (AtEvent t p d late y)) p))
  writes_woken b h (InRoutine s) w = absurd (sleeps (sym w.main ∙ served_disabled e script b h s))

  -- ---- behind the wait

  -- main code runs there
  record InRow (b : Machine) (h : Since) : Type 0 where
    interval : Interval e script b h
    row : Row x (pieces x) b h

  woken_row : (b : Machine) (h : Since) → Running e script b h → Woken e b h → InRow b h
  woken_row b h (InMain (AtRow t row n time)) w = record { interval = t; row = row }
  woken_row b h (InMain (AtEvent t p d late y)) w = absurd (woken_apart e b h 0 (omega arith) w (omega (arith, p)))
  woken_row b h (InRoutine s) w =
      let i = served_within e script b h s in absurd (omega (arith, i.0, i.1, later-move (image e) held b, woken_since e script b h w))

  module _ (b : Machine) (h : Since) (r : InRow b h) (w : Woken e b h) where
    apart : place b.cycle ≡ interrupt_place → ⊥
    apart p = woken_apart e b h 0 (omega arith) w (omega (arith, p))

    awake : b.regs.idle ≡ false
    awake = waited_awake e b h w.row

    abbrev u : Input
    u = record { efx = efx_at (b.cycle + 1) true; held = held (b.cycle + 1) }

    abbrev c : Machine
    c = moved (code x) u (record b { cycle = b.cycle + 2 })

    -- the next state, where it is no dispatch point
    stays : is_dispatch x.interpreter c ≡ false → Outcome x (waited_pieces x) c (after_main u h) → Woken e c (after_main u h)
    stays d (Calm calm row) =
        record {
          woke = w.woke;
          return = w.return;
          exact = w.exact;
          ticks = w.ticks;
          most = w.most;
          waits = w.waits;
          since = omega (arith, w.since);
          least = omega (arith, w.least);
          row = row;
        }
    stays d (Dispatched s st makes) =
        absurd (sleeps (sym (dispatch_there e script c s st.stands
        (keeps_place b.cycle (record { outside = r.interval.outside; even = r.interval.even awake }) apart).outside
        (woken_apart e b h 2 (omega arith) w)).0 ∙ d))
    stays d (Failed stop st) = absurd (no_stop (sym (row_goes e b h w.row) ∙ st.fits))

    outcome : Outcome x (waited_pieces x) c (after_main u h)
    outcome = waited_moves e u (record b { cycle = b.cycle + 2 }) h (waited_cycle e b h (b.cycle + 2) w.row)

    go : is_dispatch x.interpreter (next b) ≡ false → Makes (image e) held b (next b) → Woken e (next b) (on b h)
    go d (Runs p i m) =
        subst₂ (Woken e) (sym main) (sym (counts_main e script b h r.interval r.row p i))
        (stays (ap (is_dispatch x.interpreter) (sym main) ∙ d) outcome)
      where
        main : next b ≡ c
        main =
            m ∙ ap (λ n. record (main_move (image e) (efx_at (b.cycle + 1) true) (held (b.cycle + 1)) b) { cycle = b.cycle + n })
            (row_cycles x (pieces x) (proved e) b h r.interval.fits awake r.row)
    go d (Waits p i m) = absurd (sleeps (sym i ∙ awake))
    go d (Accepts at m) = absurd (apart (omega (arith, at)))

    woken_on : is_dispatch x.interpreter (next b) ≡ false → Woken e (next b) (on b h)
    woken_on d =
        let ready = row_runs x (pieces x) (proved e) b h r.interval.fits r.row in
        go d (every_move (image e) held b ready.on ready.enabled r.interval.outside)

    instruction_there : case_of b ≡ Instruction
    instruction_there =
        let ready = row_runs x (pieces x) (proved e) b h r.interval.fits r.row in case_runs b ready.on ready.enabled r.interval.outside apart awake

    main_there : RunsMain b
    main_there = record { main = (row_runs x (pieces x) (proved e) b h r.interval.fits r.row).enabled; awake = awake }

  -- ---- what has begun goes on up to the dispatch point

  -- main code waits; or the routine that ends the wait runs; or it is behind the wait
  data Begun (b : Machine) (h : Since) : Type 0 where
    Idles : b.regs.idle ≡ true → Begun b h
    Serves : (s : Serving e script b h) → s.start.regs.idle ≡ true → Begun b h
    Past : Woken e b h → Begun b h

  -- the routine has returned
  woken_at : (b : Machine) (h : Since) (m : ℕ) → Outside e script b h → b.cycle ≡ interrupt_at m → b.regs.idle ≡ true
      → Woken e (after_moves (image e) held b routine_moves) (after_tick h)
  woken_at b h m (AtRow t row n time) at i =
      let w = row_waits e b h i row in
      let tick : IsTick e (image e) m b held = (parts IsTimer).laws.own.tick e m b held (interrupted e script b h m (AtRow t row n time) at) in
      wakes e (after_moves (image e) held b routine_moves) h m w
      (row_wakes e b (after_moves (image e) held b routine_moves) h t.fits i tick.tick row) tick.cycle (woken_then e script b h m t i w time at)
  woken_at b h m (AtEvent t p d late y) at i = absurd (due_awake e script b h i d)

  module _ (b : Machine) (h : Since) (s : Serving e script b h) (i : s.start.regs.idle ≡ true) where
    same : on b h ≡ h
    same = carried_disabled (image e) held b h (served_disabled e script b h s)

    serves_on : Begun (next b) (on b h)
    serves_on = here (cases_eq (suc s.k) routine_moves)
      where
        here : (suc s.k ≡ routine_moves) ⊎ (suc s.k ≡ routine_moves → ⊥) → Begun (next b) (on b h)
        here (inl last) =
            Past
            (subst₂ (Woken e)
            (ap (after_moves (image e) held s.start) (sym last) ∙ ap next (sym s.is))
            (sym s.counted ∙ sym same)
            (woken_at s.start s.before s.m s.outside s.cycle i))
        here (inr d) =
            Serves
            (record {
              start = s.start;
              before = s.before;
              counted = same ∙ s.counted;
              outside = s.outside;
              m = s.m;
              cycle = s.cycle;
              k = suc s.k;
              some = omega arith;
              inside = omega (arith, s.inside, d);
              is = ap next s.is;
            })
            i

  -- where it waits
  idles_on : (b : Machine) (h : Since) (o : Outside e script b h) → b.on ≡ true → b.regs.ie ≡ true → b.regs.idle ≡ true
      → Makes (image e) held b (next b) → Begun (next b) (on b h)
  idles_on b h o on_is ie i (Runs p j m) = absurd (sleeps (sym i ∙ j))
  idles_on b h o on_is ie i (Waits p j m) = Idles (ap (λ (z : Machine). z.regs.idle) m ∙ i)
  idles_on b h o on_is ie i (Accepts at m) =
      Serves
      (record {
        start = b;
        before = h;
        counted = carried_interrupt (image e) held b h (case_accepts b on_is ie (omega (arith, at)));
        outside = o;
        m = b.cycle / 3668;
        cycle = at;
        k = 1;
        some = omega arith;
        inside = omega arith;
        is = refl;
      })
      i

  begun_next : (b : Machine) (h : Since) → Running e script b h → Begun b h → is_dispatch x.interpreter (next b) ≡ false → Begun (next b) (on b h)
  begun_next b h (InMain (AtRow t row n time)) (Idles i) d =
      let ready = row_runs x (pieces x) (proved e) b h t.fits row in
      idles_on b h (AtRow t row n time) ready.on ready.enabled i (every_move (image e) held b ready.on ready.enabled t.outside)
  begun_next b h (InMain (AtEvent t p due late y)) (Idles i) d = absurd (due_awake e script b h i due)
  begun_next b h (InRoutine s) (Idles i) d = absurd (sleeps (sym i ∙ served_awake e script b h s))
  begun_next b h r (Serves s i) d = serves_on b h s i
  begun_next b h r (Past w) d = Past (woken_on b h (woken_row b h r w) w d)

  -- ---- along a run

  module _ (first : Machine) (starts : MayStart e first) where
    abbrev at : ℕ → Machine
    at n = state_after x script first n

    abbrev since : ℕ → Since
    since n = record_after x script first n

    runs : (n : ℕ) → Unstopped x script first (suc n) → Running e script (at n) (since n)
    runs n u = holds_after x script (Running e script) (board_moves e script) first (starts_running e script first starts) n u

    abbrev Same : ℕ → ℕ → Type 0
    Same j i = SameInterval x script first j i

    abbrev BegunAt : ℕ → Type 0
    BegunAt n = Begun (at n) (since n)

    -- where it waits, and r moves later
    begun_after : (k r : ℕ) → Unstopped x script first (suc (k + r)) → Same k (k + r) → (at k).regs.idle ≡ true → BegunAt (k + r)
    begun_after k zero u same i = subst BegunAt none (Idles i)
      where
        none : k ≡ k + 0
        none = omega arith
    begun_after k (suc r) u same i =
        subst BegunAt more
        (subst (Begun (at (suc (k + r)))) (sym (since_still x script (Running e script) (board_moves e script) first (k + r) quiet))
        (begun_next (at (k + r)) (since (k + r)) (runs (k + r) (λ j l. u j (omega (arith, l))))
        (begun_after k r (λ j l. u j (omega (arith, l))) (λ j l m. same j l (omega (arith, m))) i) quiet))
      where
        more : suc (k + r) ≡ k + suc r
        more = omega arith

        quiet : is_dispatch x.interpreter (at (suc (k + r))) ≡ false
        quiet = same (suc (k + r)) (omega arith) (omega arith)

    begun_at : (k j : ℕ) → k ≤ j → Unstopped x script first (suc j) → Same k j → (at k).regs.idle ≡ true → BegunAt j
    begun_at k j l u same i = subst BegunAt split (begun_after k (j - k) (λ n m. u n (omega (arith, m, l))) (λ n m o. same n m (omega (arith, o, l))) i)
      where
        split : k + (j - k) ≡ j
        split = omega (arith, l)

    -- main code is behind the wait there
    woken_there : (j : ℕ) → Unstopped x script first (suc j) → AtDisplay x script first j → Woken e (at j) (since j)
    woken_there j u (HasWaited k l same i main) = past (begun_at k j l u same i)
      where
        past : BegunAt j → Woken e (at j) (since j)
        past (Idles o) = absurd (sleeps (sym o ∙ main.awake))
        past (Serves s o) = absurd (sleeps (sym main.main ∙ served_disabled e script (at j) (since j) s))
        past (Past w) = w
    woken_there j u (Writes w) = writes_woken (at j) (since j) (runs j u) w

    -- and stays behind that wait, up to n moves
    record StaysBehind (woke n : ℕ) : Type 0 where
      woken : Woken e (at n) (since n)
      from : woke ≤ (at n).cycle
      to : (at n).cycle ≤ woke + most_changing

    begins_behind : (n : ℕ) (w : Woken e (at n) (since n)) → StaysBehind w.woke n
    begins_behind n w = record { woken = w; from = omega (arith, w.since, w.least); to = omega (arith, w.since, woken_few e (at n) (since n) w) }

    stays_behind : (woke n : ℕ) → place woke ≡ interrupt_place + routine_cycles → Unstopped x script first (suc n)
        → is_dispatch x.interpreter (at (suc n)) ≡ false → StaysBehind woke n → StaysBehind woke (suc n)
    stays_behind woke n p u d o =
        record {
          woken = subst (Woken e (at (suc n))) (sym (since_still x script (Running e script) (board_moves e script) first n d)) w;
          from = omega (arith, o.from, later-move (image e) held (at n));
          to =
              omega (
                arith,
                p,
                o.to,
                o.from,
                few_later (image e) held (at n),
                later-move (image e) held (at n),
                woken_since e script (at (suc n)) (on
                    (at n) (since n)) w,
              );
        }
      where
        w : Woken e (at (suc n)) (on (at n) (since n))
        w = woken_on (at n) (since n) (woken_row (at n) (since n) (runs n u) o.woken) o.woken d

    behind_after : (j r : ℕ) → Unstopped x script first (suc (j + r)) → Same j (j + r) → (w : Woken e (at j) (since j)) → StaysBehind w.woke (j + r)
    behind_after j zero u same w = subst (StaysBehind w.woke) none (begins_behind j w)
      where
        none : j ≡ j + 0
        none = omega arith
    behind_after j (suc r) u same w =
        subst (StaysBehind w.woke) more
        (stays_behind w.woke (j + r) w.return (λ n l. u n (omega (arith, l))) (same (suc (j + r)) (omega arith) (omega arith))
        (behind_after j r (λ n l. u n (omega (arith, l))) (λ n l m. same n l (omega (arith, m))) w))
      where
        more : suc (j + r) ≡ j + suc r
        more = omega arith

    behind_at : (j i : ℕ) → j ≤ i → Unstopped x script first (suc i) → Same j i → (w : Woken e (at j) (since j)) → StaysBehind w.woke i
    behind_at j i l u same w =
        subst (StaysBehind w.woke) split (behind_after j (i - j) (λ n m. u n (omega (arith, m, l))) (λ n m o. same n m (omega (arith, o, l))) w)
      where
        split : j + (i - j) ≡ i
        split = omega (arith, l)

    -- where its next move comes to
    goes_on : (i : ℕ) → Running e script (at i) (since i) → Woken e (at i) (since i) → (is_dispatch x.interpreter (at (suc i)) ≡ true) ⊎ RunsMain (at (suc i))
    goes_on i r w = after (board_moves e script (at i) (since i) r)
      where
        after : Moves x script (Running e script) (on (at i) (since i)) (at (suc i)) → (is_dispatch x.interpreter (at (suc i)) ≡ true) ⊎ RunsMain (at (suc i))
        after (Still d z k) =
            let w' = woken_on (at i) (since i) (woken_row (at i) (since i) r w) w d in
            inr (main_there (at (suc i)) (on (at i) (since i)) (woken_row (at (suc i)) (on (at i) (since i)) k w') w')
        after (Arrived d z j st due k) = inl d
        after (Halted z j stop st cycle) =
            absurd (no_stop (sym (ap (stop_of e) (carried_state (image e) held (at i) (since i))
            ∙ row_goes e (at i) (since i) w.row) ∙ st.fits))

    -- from the return on up to the end of its next move
    changes_from : (j i woke : ℕ) → place woke ≡ interrupt_place + routine_cycles → woke ≤ (at j).cycle → Running e script (at i) (since i)
        → StaysBehind woke i → Changes x script first j i
    changes_from j i woke p from r o =
        record {
          most = o.woken.most;
          waits = o.woken.waits;
          returned = woke;
          return = omega (arith, p);
          from = from;
          soon = omega (arith, o.to, few_later (image e) held (at i));
          quiet = λ m l k. omega (arith, p, o.to, few_later (image e) held (at i), l, k);
          runs = instruction_there (at i) (since i) (woken_row (at i) (since i) r o.woken) o.woken;
          on = goes_on i r o.woken;
        }

    pub changes : (j i : ℕ) → j ≤ i → Unstopped x script first (suc i) → Same j i → AtDisplay x script first j → Changes x script first j i
    changes j i l u same display =
        let w = woken_there j (λ n m. u n (omega (arith, m, l))) display in
        changes_from j i w.woke w.return (begins_behind j w).from (runs i u) (behind_at j i l u same w)

-- ---- the laws

pub writes_soon : WritesSoon
writes_soon e script b h r w = let o = writes_woken e script b h r w in record { most = o.most; waits = o.waits; here = woken_since e script b h o }

pub changes_soon : ChangesSoon
changes_soon e script first starts j i l u same display = changes e script first starts j i l u same display
