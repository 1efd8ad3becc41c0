-- FX0A ends in time: the sets of keys of its main moves are those of cycles of the run, so that its loop finds a key that is down for long enough, and
-- then that this key is up.
use Rattle.std.proofs.Common.{◌≡◌, ℕ, ◌+◌, ◌/◌, ◌%◌, ◌<◌, ◌≤◌, ◌⊎◌, inl, inr, sym, ◌∙◌, ap, subst, subst₂, arith, le_refl, true, false, List, [], ◌∷◌, ◌++◌, length}
use Rattle.std.specs.Prelude.{slice_get, Option, Some, None}
use Rattle.std.proofs.lemmas.Bool.{cases_eq, cases_lt}
use Rattle.std.proofs.lemmas.Option.{slice_get_within}
use Rattle.machine.specs.Board.{Machine, move}
use Rattle.machine.specs.Keys.{Keys, Event, held_at}
use Rattle.machine.proofs.Runs.{later-move}
use Rattle.chip8_image.specs.declared.parts.Part.TheVariants.{Keys as IsKeys}
use Rattle.chip8_lang.specs.declared.view.Edition.{Edition}
use Rattle.chip8_lang.specs.Bounds.{Pressed, bound_of, key_cycles}
use Rattle.chip8_lang.specs.State.{Lang}
use Rattle.chip8_lang.proofs.Ticks.{ticks_counted}
use Rattle.rom_law.specs.Language.{InTime}
use Rattle.rom_law.specs.Program.{Program}
use Rattle.rom_law.specs.Rows.{Since, Row, dispatched, after_tick}
use Rattle.rom_law.specs.Runs.{carried}
use Rattle.rom_law.proofs.Carried.{main_more, carried_from, carried_state, carried_interrupt, carried_idle, carried_disabled}
use Rattle.rom_law.proofs.Kept.{row_runs, row_cycles}
use Rattle.rom_law.proofs.Language.{get_append}
use Rattle.rom_rows.specs.Rom.{image, vip}
use Rattle.rom_rows.specs.Table.{pieces}
use Rattle.rom_parts.specs.keys.Laws.{Counted, Lately, Scans, Within}
use Rattle.rom_run.proofs.Image.{parts}
use Rattle.rom_parts.proofs.keys.Sets.{get_last, length_more}
use Rattle.rom_parts.specs.timer.Frame.{Makes}
use Rattle.rom_parts.specs.timer.Frame.Makes.{Runs, Waits, Accepts}
use Rattle.rom_parts.proofs.timer.Frame.{accepted, case_accepts, case_waits, every_move}
use Rattle.rom_run.specs.Time.{Spends, Timed}
use Rattle.rom_run.specs.Running.{Interval, Running}
use Rattle.rom_run.specs.Running.Outside.{AtRow, AtEvent}
use Rattle.rom_run.specs.Running.Running.{InMain, InRoutine}
use Rattle.rom_run.proofs.Bound.{timely}
use Rattle.rom_run.proofs.Cycles.{Passed, Soon, Next, soon_first, soon_interrupt, soon_routine, soon_main, soon_next, few_passed, next_main, moves_to, from_u, while_down, all_made}
use Rattle.rom_run.proofs.Endless.{KeyRow, key_row, never_waited}
use Rattle.rom_run.proofs.Endless.KeyRow.{Approaches, Seeks, Holds, Leaves}
use Rattle.rom_run.proofs.Moves.{counts_main, interrupted}
use Rattle.rom_run.proofs.Proved.{proved}
use Rattle.rom_run.proofs.WholeTick.{served_within, served_disabled}

-- a set of keys can't have a key down and up
clash : (o : Option Keys) (a c : Keys) (k : ℕ) → o ≡ Some a → o ≡ Some c → a k ≡ true → c k ≡ false → ⊥
clash o a c k f g down up = differ (sym down ∙ ap (λ z. z k) (same (sym f ∙ g)) ∙ up)
  where
    differ : true ≡ false → ⊥
    differ z = cc

    same : Some a ≡ Some c → a ≡ c
    same z = cc

module _ (e : Edition) (script : List Event) where
  abbrev x : Program
  x = vip e

  abbrev held : ℕ → Keys
  held = held_at script

  abbrev next : Machine → Machine
  next b = move (image e) held b

  -- ---- what is known besides `Running`

  -- set j was held down in the cycle after the fetch of a main move, with j main moves before it
  record Sample (sets : List Keys) (from end j : ℕ) : Type 0 where
    cycle : ℕ
    made : Passed from j cycle
    before : cycle < end
    there : slice_get sets j ≡ Some (held (cycle + 1))

  -- the state at the last dispatch point has no bound, and since then a key was pressed long enough
  record Pressing (from : ℕ) (s : Lang) (u w : ℕ) : Type 0 where
    free : bound_of e s ≡ None
    since : from ≤ u
    pressed : Pressed script u w

  -- In cycle t: each main move took two cycles; without a bound each set of keys is that of a cycle of the run, since main code didn't wait for the
  -- display; and where a key was pressed for long enough, time is left.
  pub record KeysKnown (t : ℕ) (h : Since) : Type 0 where
    counted : Counted h
    sampled : bound_of e h.state ≡ None → (j : ℕ) → j < length h.keys → Sample h.keys h.from t j
    soon : (u w : ℕ) → Pressing h.from h.state u w → Soon t w

  -- at a dispatch point
  pub begins : (t : ℕ) (s : Lang) → KeysKnown t (dispatched t s)
  begins t s = record { counted = omega arith; sampled = λ k j l. absurd (omega (arith, l)); soon = λ u w q. soon_first t u w q.since q.pressed.behind }

  -- the keys stay
  passes : (t n : ℕ) (h : Since) → t ≤ n → KeysKnown t h → ((u w : ℕ) → Pressing h.from h.state u w → Soon n w) → KeysKnown n h
  passes t n h l k soon =
      record {
        counted = k.counted;
        sampled = λ f j i. let s = k.sampled f j i in
            record { cycle = s.cycle; made = s.made; before = omega (arith, s.before, l); there = s.there };
        soon = soon;
      }

  ticked : (t : ℕ) (h : Since) → KeysKnown t h → KeysKnown t (after_tick h)
  ticked t h k = record { counted = k.counted; sampled = k.sampled; soon = k.soon }

  -- ---- where main code runs

  module _ (b : Machine) (h : Since) (t : Interval e script b h) (row : Row x (pieces x) b h) (time : Timed e b h) (known : KeysKnown b.cycle h) where
    module _ (free : bound_of e h.state ≡ None) where
      spends : Spends b h 0
      spends = never_waited e b h free script t row time

      made : Passed h.from (length h.keys) b.cycle
      made = record { outside = t.outside; after = t.from; count = omega (arith, spends, known.counted, t.covers.ticks, ticks_counted h.from b.cycle) }

    -- no more than six main moves have been made since a cycle before w
    record Early (w : ℕ) : Type 0 where
      j : ℕ
      cycle : ℕ
      passed : Passed h.from j cycle
      few : length h.keys ≤ j + 6
      order : cycle ≤ b.cycle
      early : cycle < w

    module _ (u w : ℕ) (q : Pressing h.from h.state u w) where
      here : b.cycle < w + key_cycles
      here = (known.soon u w q).here

      now_early : b.cycle < w → Early w
      now_early l = record { j = length h.keys; cycle = b.cycle; passed = made q.free; few = omega arith; order = le_refl b.cycle; early = l }

      -- a key was down in one of the last six sets
      key_late : (n k : ℕ) → n ≤ 6 → k < 16 → Lately n h.keys k true → Early w
      key_late n k six fits l = go (cases_lt s.cycle w)
        where
          s : Sample h.keys h.from b.cycle l.time
          s = known.sampled q.free l.time (slice_get_within h.keys l.time l.at.held l.at.there)

          go : (s.cycle < w) ⊎ (w ≤ s.cycle) → Early w
          go (inl early) =
              record {
                j = l.time;
                cycle = s.cycle;
                passed = s.made;
                few = omega (arith, l.late, six);
                order = omega (arith, s.before);
                early = early;
              }
          go (inr late) =
              absurd (clash (slice_get h.keys l.time) l.at.held (held (s.cycle + 1)) k l.at.there s.there l.at.is
              (q.pressed.up (s.cycle + 1) k (omega (arith, late)) (omega (arith, s.before, here)) fits))

      -- the loop finds the key while it is down
      finds : Scans x b h → w ≤ b.cycle → ⊥
      finds scans late =
          clash (slice_get h.keys up.time) (held (s.cycle + 1)) up.at.held q.pressed.key s.there up.at.there
          (q.pressed.down (s.cycle + 1) (omega (arith, from_u h.from u v.0 up.time s.cycle q.since s.made v.1 up.from))
          (while_down h.from u v.0 up.time s.cycle q.since s.made v.1 up.before)) up.at.is
        where
          v : (v : ℕ) × Next u v
          v = next_main u

          up : Within (moves_to h.from v.0) 400 h.keys q.pressed.key false
          up =
              (parts IsKeys).laws.own.none_stays e b h scans known.counted (moves_to h.from v.0)
              (all_made h.from u v.0 (length h.keys) b.cycle q.since (made q.free) v.1 (omega (arith, q.pressed.behind, late))) q.pressed.key
              q.pressed.fits

          s : Sample h.keys h.from b.cycle up.time
          s = known.sampled q.free up.time (slice_get_within h.keys up.time up.at.held up.at.there)

      early_by : KeyRow e b h → Early w
      early_by (Approaches l) =
          now_early (omega (
            arith,
            few_passed h.from (length h.keys) b.cycle u (made q.free) (omega
                (arith, l, known.counted)) q.since,
            q.pressed.behind,
          ))
      early_by (Seeks scans) = go (cases_lt b.cycle w)
        where
          go : (b.cycle < w) ⊎ (w ≤ b.cycle) → Early w
          go (inl l) = now_early l
          go (inr late) = absurd (finds scans late)
      early_by (Holds turn looks o) = key_late 1 b.key (omega arith) t.fits.key ((parts IsKeys).laws.own.stays_down e b h turn looks o)
      early_by (Leaves turn looks r) = key_late 5 (r.start.regs.r.re.lo % 16) (omega arith) (omega arith) ((parts IsKeys).laws.own.goes_up e b h turn looks r).1

      soon_by : Soon (b.cycle + 2) w × Soon (b.cycle + 1) w
      soon_by =
          let o = early_by (key_row e b h q.free row) in (
            soon_main h.from o.j o.cycle (length h.keys) b.cycle w o.passed (made q.free) o.few o.order o.early,
            soon_next h.from o.j o.cycle (length
                h.keys) b.cycle w o.passed (made q.free) o.few o.order o.early,
          )

    -- a main move adds its set
    abbrev set : Keys
    set = held (b.cycle + 1)

    new_sample : bound_of e h.state ≡ None → (j : ℕ) → j < length (h.keys ++ set ∷ []) → Sample (h.keys ++ set ∷ []) h.from (b.cycle + 2) j
    new_sample free j l = go (cases_eq j (length h.keys))
      where
        go : (j ≡ length h.keys) ⊎ (j ≡ length h.keys → ⊥) → Sample (h.keys ++ set ∷ []) h.from (b.cycle + 2) j
        go (inl is) =
            subst (Sample (h.keys ++ set ∷ []) h.from (b.cycle + 2)) (sym is)
            (record { cycle = b.cycle; made = made free; before = omega arith; there = get_last h.keys set })
        go (inr d) =
            let s = known.sampled free j (omega (arith, l, d, length_more h.keys (set ∷ []))) in
            record { cycle = s.cycle; made = s.made; before = omega (arith, s.before); there = get_append h.keys (set ∷ []) j _ s.there }

    main_known : KeysKnown (b.cycle + 2) (main_more (image e) held b h 2)
    main_known = record { counted = omega (arith, known.counted, length_more h.keys (set ∷ [])); sampled = new_sample; soon = λ u w q. (soon_by u w q).0 }

    next_known : KeysKnown (b.cycle + 1) h
    next_known = passes b.cycle (b.cycle + 1) h (omega arith) known (λ u w q. (soon_by u w q).1)

    row_known : b.on ≡ true → b.regs.ie ≡ true → Makes (image e) held b (next b) → KeysKnown (next b).cycle (carried (image e) held b h)
    row_known on ie (Runs d i m) =
        subst₂ KeysKnown (sym (ap (λ (z : Machine). z.cycle) m ∙ ap (λ z. b.cycle + z) (row_cycles x (pieces x) (proved e) b h t.fits i row)))
        (sym (counts_main e script b h t row d i)) main_known
    row_known on ie (Waits d i m) =
        subst₂ KeysKnown (sym (ap (λ (z : Machine). z.cycle) m)) (sym (carried_idle (image e) held b h (case_waits b on ie t.outside d i))) next_known
    row_known on ie (Accepts i m) =
        subst₂ KeysKnown (sym (ap (λ (z : Machine). z.cycle) m)) (sym (carried_interrupt (image e) held b h (case_accepts b on ie (omega (arith, i)))))
        (ticked (b.cycle + 1) h next_known)

  -- ---- every move

  pub known_on : (b : Machine) (h : Since) → Running e script b h → KeysKnown b.cycle h → KeysKnown (next b).cycle (carried (image e) held b h)
  known_on b h (InMain (AtRow t row n time)) k =
      let ready = row_runs x (pieces x) (proved e) b h t.fits row in
      row_known b h t row time k ready.on ready.enabled (every_move (image e) held b ready.on ready.enabled t.outside)
  known_on b h (InMain (AtEvent t p d late y)) k =
      let o = interrupted e script b h (b.cycle / 3668) (AtEvent t p d late y) (omega (arith, p)) in
      subst₂ KeysKnown (sym (ap (λ (z : Machine). z.cycle) (accepted (image e) held b o.on o.enabled p)))
      (sym (carried_interrupt (image e) held b h (case_accepts b o.on o.enabled p)))
      (ticked (b.cycle + 1) h (passes b.cycle (b.cycle + 1) h (omega arith) k (λ u w q. soon_interrupt b.cycle w (k.soon u w q) p)))
  known_on b h (InRoutine s) k =
      let i = served_within e script b h s in
      subst (KeysKnown (next b).cycle) (sym (carried_disabled (image e) held b h (served_disabled e script b h s)))
      (passes b.cycle (next b).cycle h (omega (arith, later-move (image e) held b)) k
      (λ u w q. soon_routine s.m b.cycle (next b).cycle w (k.soon u w q) i.0 (omega (arith, later-move (image e) held b, i.1))
      (later-move (image e) held b) i.1))

  -- ---- in time

  -- each move ends within the bound, and in time for a key that is pressed for long enough
  pub in_time : (b : Machine) (h : Since) → Running e script b h → KeysKnown b.cycle h → InTime x script h.from h.state (next b).cycle
  in_time b h r k =
      record {
        bound = λ bound is. timely e script b h bound r is;
        keys = λ free u w since pressed. ((known_on b h r k).soon u w (
            record {
              free = ap (bound_of e) (carried_state (image e) held b h) ∙ free;
              since = subst (λ z. z ≤ u) (sym (carried_from (image e) held b h)) since;
              pressed = pressed;
            }
            )).here;
      }
