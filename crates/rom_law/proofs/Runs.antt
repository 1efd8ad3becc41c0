-- The law of a run holds where each move of the board comes to what it should, in time and with its pictures, and boot comes to a first dispatch.
use Rattle.std.proofs.Common.{◌≡◌, ℕ, zero, suc, ◌+◌, ◌-◌, ◌<◌, ◌≤◌, ◌⊎◌, inl, inr, refl, sym, ◌∙◌, ap, subst, subst₂, arith, le_refl, Bool, true, false, cond, List, [], ◌∷◌, ◌++◌, filter, map}
use Rattle.std.specs.Prelude.{None}
use Rattle.std.proofs.lemmas.Bool.{cases_lt}
use Rattle.machine.specs.Board.{Machine, move, start}
use Rattle.machine.specs.Keys.{held_at}
use Rattle.machine.specs.Keys.{Event as KeyEvent}
use Rattle.machine.specs.Run.{run_to}
use Rattle.machine.specs.Pictures.{window_end, windows_ended, picture_of, is_shown}
use Rattle.machine.proofs.Counts.{windows}
use Rattle.machine.proofs.Runs.{later-move, run_to-next, run_to-past}
use Rattle.chip8_lang.specs.State.{Lang, first}
use Rattle.chip8_lang.specs.Ticks.{ticks}
use Rattle.chip8_lang.specs.Timed.Next.{Dispatch as NextDispatch, Stopped as NextStopped}
use Rattle.chip8_lang.specs.Between.{Between, keys_between}
use Rattle.chip8_lang.specs.Bounds.{boot_bound}
use Rattle.chip8_lang.specs.Events.{Event, events_at, events_of, numbers_from, is_dispatch, is_stop, events_behind}
use Rattle.chip8_lang.specs.Events.Event.{Picture, Dispatch, Stopped}
use Rattle.rom_law.specs.Language.{InTime, NextAt, IsPast, nothing_else, GoesOn, Begins}
use Rattle.rom_law.specs.Pictures.{ShowsScreen}
use Rattle.rom_law.specs.Program.{Program, Dispatches, Halts}
use Rattle.rom_law.specs.Rows.{Since, dispatched}
use Rattle.rom_law.specs.Runs.{state_at, state_after, carried, Moves}
use Rattle.rom_law.specs.Runs.Moves.{Still, Arrived, Halted}
use Rattle.rom_law.proofs.Carried.{carried_from, carried_state, covers_between}

-- ---- what is asked of a ROM

-- the picture of frame m in a run is there, and shows the screen of s
pub record Shown (x : Program) (run : List Machine) (m : ℕ) (s : Lang) : Type 0 where
  pub shown : is_shown x.interpreter.rom run m ≡ true
  pub shows : ShowsScreen x.edition (picture_of x.interpreter.rom run m) s.screen

-- each move comes to what it should, with the record carried on, and in time; none goes past the end of a window; where a window ends in one, the
-- picture shows the screen at the last dispatch point; where one would end behind the limit, so does what is next by the language's time
pub record Carries (x : Program) (script : List KeyEvent) (limit : ℕ) (run : List Machine) (Running : Machine → Since → Type 0) : Type 0 where
  pub moves : (b : Machine) (h : Since) → Running b h
      → Moves x script Running (carried x.interpreter.rom (held_at script) b h) (move x.interpreter.rom (held_at script) b)
  pub timely : (b : Machine) (h : Since) → Running b h → InTime x script h.from h.state (move x.interpreter.rom (held_at script) b).cycle
  pub meets : (b : Machine) (h : Since) (m : ℕ) → Running b h → b.cycle < window_end m → (move x.interpreter.rom (held_at script) b).cycle ≤ window_end m
  pub shown : (b : Machine) (h : Since) (m : ℕ) → Running b h → b.cycle < window_end m
      → window_end m ≤ (move x.interpreter.rom (held_at script) b).cycle → (move x.interpreter.rom (held_at script) b).cycle ≤ limit
      → Shown x run m h.state
  pub none_due : (b : Machine) (h : Since) → Running b h → h.from ≤ b.cycle → b.cycle ≤ limit
      → limit < (move x.interpreter.rom (held_at script) b).cycle → IsPast limit (x.next script limit h.from h.state)

-- boot comes to a first dispatch, with no event before
pub record Boots (x : Program) (game : List ℕ) (script : List KeyEvent) (Running : Machine → Since → Type 0) : Type 0 where
  pub moves : ℕ
  pub quiet : (m : ℕ) → m < moves
      → (is_dispatch x.interpreter (state_after x script (start game) m) ≡ false)
      × (is_stop x.interpreter (state_after x script (start game) m) ≡ false)
  pub soon : (state_after x script (start game) moves).cycle ≤ boot_bound
  pub dispatch : is_dispatch x.interpreter (state_after x script (start game) moves) ≡ true
  pub runs : is_stop x.interpreter (state_after x script (start game) moves) ≡ false
  pub stands : Dispatches x (state_after x script (start game) moves) (first x.edition game)
  pub running : let b = state_after x script (start game) moves in Running b (dispatched b.cycle (state_at x b))

-- ---- time

-- what isn't too late isn't too late earlier
in_time_before : (x : Program) (script : List KeyEvent) (from : ℕ) (s : Lang) (t u : ℕ) → u ≤ t → InTime x script from s t → InTime x script from s u
in_time_before x script from s t u l i = record { bound = λ n k. omega (arith, i.bound n k, l); keys = λ k v w f p. omega (arith, i.keys k v w f p, l) }

-- nothing is too late before it may come
in_time_first : (x : Program) (script : List KeyEvent) (from : ℕ) (s : Lang) (t : ℕ) → t ≤ from → InTime x script from s t
in_time_first x script from s t l = record { bound = λ n k. omega (arith, l); keys = λ k v w f p. omega (arith, l, f, p.behind) }

-- ---- the events at one state more

-- no window ends in boot
no_window : (before t : ℕ) → t ≤ boot_bound → windows_ended t - windows_ended before ≡ 0
no_window before t soon = omega (arith, soon, windows t, windows before)

module _ (x : Program) (script : List KeyEvent) (limit : ℕ) (run : List Machine) where
  abbrev Goes : ℕ → Machine → List Event → Type 0
  Goes k b es = GoesOn x script limit run nothing_else k b es

  abbrev events : ℕ → List Machine → List Event
  events before bs = events_at x.interpreter run before bs

  -- of n frames from k on, those that have a picture
  abbrev frames : ℕ → ℕ → List ℕ
  frames k n = filter (is_shown x.interpreter.rom run) (numbers_from k n)

  -- each frame whose window ends after cycle `before`, and by cycle t, has a picture of the screen of s
  abbrev Each : ℕ → ℕ → Lang → Type 0
  Each before t s = (m : ℕ) → before < window_end m → window_end m ≤ t → Shown x run m s

  module _ (b : Machine) (before t : ℕ) (order : before ≤ t) (each : Each before t (state_at x b)) (r : List Event) (on : Goes (windows_ended t) b r) where
    frames_on : (n k : ℕ) → windows_ended before ≤ k → k + n ≡ windows_ended t → Goes k b (map Picture (frames k n) ++ r)
    frames_on zero k from to = subst (λ j. Goes j b r) same on
      where
        same : windows_ended t ≡ k
        same = omega (arith, to)
    frames_on (suc n) k from to = go (is_shown x.interpreter.rom run k) here.shown (frames_on n (k + 1) (omega (arith, from)) (omega (arith, to)))
      where
        here : Shown x run k (state_at x b)
        here = each k (omega (arith, from, windows before)) (omega (arith, to, windows t))

        go : (shown : Bool) → shown ≡ true → Goes (k + 1) b (map Picture (frames (k + 1) n) ++ r)
            → Goes k b (map Picture (cond shown (k ∷ frames (k + 1) n) (frames (k + 1) n)) ++ r)
        go true e on = (refl, here.shows, on)
        go false e on = cc

    -- the pictures of the move come first
    pictures_on : Goes (windows_ended before) b (map Picture (frames (windows_ended before) (windows_ended t - windows_ended before)) ++ r)
    pictures_on = frames_on (windows_ended t - windows_ended before) (windows_ended before) (omega arith) (omega (arith, order, windows t, windows before))

  -- behind a dispatch point b
  module _ (b : Machine) (before : ℕ) (c : Machine) (bs : List Machine) (order : before ≤ c.cycle) (each : Each before c.cycle (state_at x b)) where
    on_quiet : is_dispatch x.interpreter c ≡ false → is_stop x.interpreter c ≡ false → Goes (windows_ended c.cycle) b (events c.cycle bs)
        → Goes (windows_ended before) b (events before (c ∷ bs))
    on_quiet d s on = rw (d, s) (pictures_on b before c.cycle order each (events c.cycle bs) on)

    on_dispatch : is_dispatch x.interpreter c ≡ true → is_stop x.interpreter c ≡ false
        → Goes (windows_ended c.cycle) b (Dispatch c ∷ events c.cycle bs) → Goes (windows_ended before) b (events before (c ∷ bs))
    on_dispatch d s on = rw (d, s) (pictures_on b before c.cycle order each (Dispatch c ∷ events c.cycle bs) on)

    on_stop : is_stop x.interpreter c ≡ true → Goes (windows_ended c.cycle) b (Stopped c ∷ []) → Goes (windows_ended before) b (events before (c ∷ bs))
    on_stop s on = rw s (pictures_on b before c.cycle order each (Stopped c ∷ []) on)

  -- and in boot
  module _ (before : ℕ) (c : Machine) (bs : List Machine) (soon : c.cycle ≤ boot_bound) where
    boot_quiet : is_dispatch x.interpreter c ≡ false → is_stop x.interpreter c ≡ false → events before (c ∷ bs) ≡ events c.cycle bs
    boot_quiet d s = rw (d, s, no_window before c.cycle soon) refl

    boot_dispatch : is_dispatch x.interpreter c ≡ true → is_stop x.interpreter c ≡ false → events before (c ∷ bs) ≡ Dispatch c ∷ events c.cycle bs
    boot_dispatch d s = rw (d, s, no_window before c.cycle soon) refl

-- ---- a run from a state of which `Running` holds

-- the step from the state y at a dispatch point in cycle a to the one at c
record Made (x : Program) (script : List KeyEvent) (c : Machine) (a : ℕ) (y : Lang) : Type 0 where
  runs : x.stop_of y ≡ None
  between : Between x.edition y (x.ticks_between a c.cycle) (keys_between script a c.cycle) (state_at x c)
  next : (limit : ℕ) → c.cycle ≤ limit → x.next script limit a y ≡ NextDispatch c.cycle (state_at x c)

module _ (x : Program) (script : List KeyEvent) (limit : ℕ) (run : List Machine) (Running : Machine → Since → Type 0) (carries : Carries x script limit run Running) where
  abbrev next : Machine → Machine
  next b = move x.interpreter.rom (held_at script) b

  abbrev rest : Machine → List Machine
  rest b = run_to x.interpreter.rom (held_at script) b limit

  -- the law of the events at these states, behind the dispatch point b
  abbrev Behind : Machine → ℕ → List Machine → Type 0
  Behind b before bs = GoesOn x script limit run nothing_else (windows_ended before) b (events_at x.interpreter run before bs)

  later : (b : Machine) → b.cycle < (next b).cycle
  later b = later-move x.interpreter.rom (held_at script) b

  -- c is in the run, and b is the last dispatch point before its move
  abbrev Kept : ℕ → Type 0
  Kept fuel =
      (b c : Machine) (h : Since) → h.from ≡ b.cycle → h.state ≡ state_at x b → Running c h → b.cycle ≤ c.cycle → c.cycle ≤ limit
      → limit < c.cycle + fuel → Behind b c.cycle (rest (next c))

  module _ (b c : Machine) (h : Since) (f : h.from ≡ b.cycle) (s : h.state ≡ state_at x b) (r : Running c h) (behind_b : b.cycle ≤ c.cycle) (inside : c.cycle ≤ limit) where
    -- the record as the move carries it on
    h' : Since
    h' = carried x.interpreter.rom (held_at script) c h

    from_b : h'.from ≡ b.cycle
    unfolding h'
    from_b = carried_from x.interpreter.rom (held_at script) c h ∙ f

    state_b : h'.state ≡ state_at x b
    unfolding h'
    state_b = carried_state x.interpreter.rom (held_at script) c h ∙ s

    in_time : InTime x script b.cycle (state_at x b) (next c).cycle
    in_time = subst₂ (λ a z. InTime x script a z (next c).cycle) f s (carries.timely c h r)

    -- the pictures whose windows end in the move
    each : (next c).cycle ≤ limit → Each x script limit run c.cycle (next c).cycle (state_at x b)
    each here m past by = subst (Shown x run m) s (carries.shown c h m r past by here)

    order : c.cycle ≤ (next c).cycle
    order = omega (arith, later c)

    comes : (next c).cycle ≤ limit → NextAt x script limit (windows_ended (next c).cycle) b (next c).cycle
    comes here = record { later = omega (arith, behind_b, later c); within = here; soon = in_time; shown = refl }

    moved : (fuel : ℕ) → Kept fuel → limit < c.cycle + suc fuel → (next c).cycle ≤ limit → Moves x script Running h' (next c)
        → Behind b c.cycle (next c ∷ rest (next (next c)))
    moved fuel on enough here (Still d z r') =
        on_quiet x script limit run b c.cycle (next c) (rest (next (next c))) order (each here) d z
        (on b (next c) h' from_b state_b r' (omega (arith, behind_b, later c)) here (omega (arith, enough, later c)))
    moved fuel on enough here (Arrived d z i st due r') =
        on_dispatch x script limit run b c.cycle (next c) (rest (next (next c))) order (each here) d z (
          comes here,
          record { runs = made.runs; between = made.between; next = made.next; stands = st.stands },
          on (next c) (next c) (dispatched (next c).cycle (state_at x (next c))) refl refl r' (le_refl (next c).cycle) here (omega (arith, enough, later c)),
        )
      where
        made : Made x script (next c) b.cycle (state_at x b)
        made =
            subst₂ (Made x script (next c)) from_b state_b
            (record { runs = st.runs; between = covers_between x script (next c) h' (state_at x (next c)) i st; next = due })
    moved fuel on enough here (Halted z i stop st due) =
        on_stop x script limit run b c.cycle (next c) (rest (next (next c))) order (each here) z (
        record {
          comes = comes here;
          stop =
              record {
                stop = stop;
                fits = ap x.stop_of (sym state_b) ∙ st.fits;
                next =
                    subst₂ (λ a y. (keys : List KeyEvent) (most : ℕ)
                    → x.next keys most a y ≡ NextStopped (next c).cycle (ticks (x.ticks_between a (next c).cycle) y) stop) from_b state_b
                    (λ keys most. due keys most ∙ ap (λ n. NextStopped (next c).cycle (ticks n h'.state) stop) i.ticks);
                halts =
                    subst₂ (λ y a. Halts x (next c) (ticks (x.ticks_between a (next c).cycle) y) stop) state_b from_b
                    (subst (λ n. Halts x (next c) (ticks n h'.state) stop) i.ticks st.halts);
              };
          also_is = tt;
          last = refl;
        }
        )

    moves_on : Moves x script Running h' (next c)
    unfolding h'
    moves_on = carries.moves c h r

    -- the limit comes before the next state
    past_limit : limit < (next c).cycle → Behind b c.cycle (rest (next c))
    past_limit past =
        subst (Behind b c.cycle) (sym none)
        (record {
          soon = in_time_before x script b.cycle (state_at x b) (next c).cycle (limit + 1) (omega (arith, past)) in_time;
          none_due = λ l. subst₂ (λ a y. IsPast limit (x.next script limit a y)) f s (carries.none_due c h r (omega (arith, f, behind_b)) inside past);
          shown = λ l. omega (arith, inside, past, windows limit, windows c.cycle, carries.meets c h (windows_ended c.cycle) r open_yet);
          also_is = tt;
        })
      where
        none : rest (next c) ≡ []
        none = run_to-past x.interpreter.rom (held_at script) limit (next c) past

        open_yet : c.cycle < window_end (windows_ended c.cycle)
        open_yet = omega (arith, windows c.cycle)

    kept_on : (fuel : ℕ) → Kept fuel → limit < c.cycle + suc fuel → (limit < (next c).cycle) ⊎ ((next c).cycle ≤ limit) → Behind b c.cycle (rest (next c))
    kept_on fuel on enough (inl past) = past_limit past
    kept_on fuel on enough (inr here) =
        subst (Behind b c.cycle) (sym (run_to-next x.interpreter.rom (held_at script) limit (next c) here))
        (moved fuel on enough here moves_on)

  kept : (fuel : ℕ) → Kept fuel
  kept zero b c h f s r l inside enough = past_limit b c h f s r l inside (omega (arith, enough, later c))
  kept (suc fuel) b c h f s r l inside enough = kept_on b c h f s r l inside fuel (kept fuel) enough (cases_lt limit (next c).cycle)

  -- behind a dispatch point
  pub behind : (b : Machine) → Running b (dispatched b.cycle (state_at x b)) → b.cycle ≤ limit → Behind b b.cycle (rest (next b))
  behind b r here = kept (suc limit) b b (dispatched b.cycle (state_at x b)) refl refl r (le_refl b.cycle) here (omega arith)

-- ---- a run from a dispatch point

module _ (x : Program) (script : List KeyEvent) (limit : ℕ) (Running : Machine → Since → Type 0) (b : Machine) where
  abbrev run_from : List Machine
  run_from = run_to x.interpreter.rom (held_at script) b limit

  abbrev After : List Machine → List Machine → Type 0
  After all bs = GoesOn x script limit all nothing_else (windows_ended b.cycle) b (events_at x.interpreter all b.cycle bs)

  pub goes_on : Carries x script limit run_from Running → Running b (dispatched b.cycle (state_at x b))
      → GoesOn x script limit run_from nothing_else (windows_ended b.cycle) b (events_behind x.interpreter script b limit)
  goes_on carries running = go (cases_lt limit b.cycle)
    where
      go : (limit < b.cycle) ⊎ (b.cycle ≤ limit) → After run_from (run_to x.interpreter.rom (held_at script) (move x.interpreter.rom (held_at script) b) limit)
      go (inl past) =
          subst₂ After
          (sym (run_to-past x.interpreter.rom (held_at script) limit b past))
          (sym (run_to-past x.interpreter.rom (held_at script) limit (move x.interpreter.rom (held_at script) b)
          (omega (arith, past, later-move x.interpreter.rom (held_at script) b))))
          (record {
            soon = in_time_first x script b.cycle (state_at x b) (limit + 1) (omega (arith, past));
            none_due = λ l. absurd (omega (arith, past, l));
            shown = λ l. absurd (omega (arith, past, l));
            also_is = tt;
          })
      go (inr here) = behind x script limit run_from Running carries b running here

-- ---- a run from reset

module _ (x : Program) (game : List ℕ) (script : List KeyEvent) (limit : ℕ) (Running : Machine → Since → Type 0) (boots : Boots x game script Running) where
  abbrev run_of : List Machine
  run_of = run_to x.interpreter.rom (held_at script) (start game) limit

  abbrev booted : ℕ → Machine
  booted m = state_after x script (start game) m

  -- the events from the first dispatch point on
  abbrev pub begun : List Event
  begun =
      let b = booted boots.moves in Dispatch b ∷ events_at x.interpreter run_of b.cycle (run_to x.interpreter.rom (held_at script) (booted (suc boots.moves)) limit)

  -- what holds of these, where the limit leaves time for them, and else of no events, holds of the events of the run
  module _ (P : List Event → Type 0) (none : limit < (booted boots.moves).cycle → P []) (some : (booted boots.moves).cycle ≤ limit → P begun) where
    abbrev Begun : ℕ → List Machine → Type 0
    Begun before bs = P (events_at x.interpreter run_of before bs)

    -- past the limit there are no events
    none_at : (before m : ℕ) → (booted m).cycle ≤ (booted boots.moves).cycle → limit < (booted m).cycle
        → Begun before (run_to x.interpreter.rom (held_at script) (booted m) limit)
    none_at before m soon past =
        subst (Begun before) (sym (run_to-past x.interpreter.rom (held_at script) limit (booted m) past)) (none (omega (arith, soon, past)))

    begins : (before : ℕ) → Begun before (run_to x.interpreter.rom (held_at script) (booted boots.moves) limit)
    begins before = go (cases_lt limit (booted boots.moves).cycle)
      where
        go : (limit < (booted boots.moves).cycle) ⊎ ((booted boots.moves).cycle ≤ limit)
            → Begun before (run_to x.interpreter.rom (held_at script) (booted boots.moves) limit)
        go (inl past) = none_at before boots.moves (le_refl (booted boots.moves).cycle) past
        go (inr here) =
            subst P
            (sym (ap (events_at x.interpreter run_of before) (run_to-next x.interpreter.rom (held_at script) limit (booted boots.moves) here)
            ∙ boot_dispatch x script limit run_of before (booted boots.moves) _ boots.soon boots.dispatch boots.runs))
            (some here)

    abbrev From : ℕ → ℕ → Type 0
    From m before = ((booted m).cycle ≤ (booted boots.moves).cycle) × Begun before (run_to x.interpreter.rom (held_at script) (booted m) limit)

    boot_on : (m before : ℕ) → m < boots.moves → From (suc m) (booted m).cycle → From m before
    boot_on m before inside ahead = (soon, go (cases_lt limit (booted m).cycle))
      where
        soon : (booted m).cycle ≤ (booted boots.moves).cycle
        soon = omega (arith, ahead.0, later-move x.interpreter.rom (held_at script) (booted m))

        go : (limit < (booted m).cycle) ⊎ ((booted m).cycle ≤ limit) → Begun before (run_to x.interpreter.rom (held_at script) (booted m) limit)
        go (inl past) = none_at before m soon past
        go (inr here) =
            subst P
            (sym (ap (events_at x.interpreter run_of before) (run_to-next x.interpreter.rom (held_at script) limit (booted m) here)
            ∙ boot_quiet x script limit run_of before (booted m) _ (omega (arith, soon, boots.soon)) (boots.quiet m inside).0 (boots.quiet m inside).1))
            ahead.1

    boot : (r m : ℕ) → m + r ≡ boots.moves → (before : ℕ) → From m before
    boot zero m e before = subst (λ k. From k before) (sym same) (le_refl (booted boots.moves).cycle, begins before)
      where
        same : m ≡ boots.moves
        same = omega (arith, e)
    boot (suc r) m e before = boot_on m before (omega (arith, e)) (boot r (suc m) (omega (arith, e)) (booted m).cycle)

    pub boot_events : P (events_of x.interpreter game script limit)
    unfolding events_of
    boot_events = (boot boots.moves 0 (omega arith) 0).1

  pub begins_so : Carries x script limit run_of Running → Begins x script limit run_of nothing_else game (events_of x.interpreter game script limit)
  begins_so carries =
      boot_events (Begins x script limit run_of nothing_else game) (λ past. (omega (arith, boots.soon, past), tt))
      (λ here. (
        boots.stands,
        boots.soon,
        here,
        subst (λ k. GoesOn x script limit run_of nothing_else k (booted boots.moves)
            (events_at x.interpreter run_of (booted boots.moves).cycle
            (run_to x.interpreter.rom (held_at script) (booted (suc boots.moves)) limit))) first_frame
            (behind x script limit run_of Running carries (booted boots.moves) boots.running here),
      ))
    where
      first_frame : windows_ended (booted boots.moves).cycle ≡ 0
      first_frame = omega (arith, boots.soon, windows (booted boots.moves).cycle)
