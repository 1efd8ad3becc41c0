-- What the debugger's commands write of a run is what they write of its transcript.
use Rattle.std.proofs.Common.{◌≡◌, ◌⊎◌, inl, inr, ℕ, zero, suc, ◌+◌, ◌-◌, ◌*◌, ◌/◌, ◌%◌, ◌<◌, ◌≤◌, Bool, true, false, cond, List, [], ◌∷◌, ◌++◌, length, filter, map, drop, replicate, Option, Some, None, slice_get, slice_index, refl, sym, ap, subst, ◌∙◌, arith}
use Rattle.std.specs.Prelude.{◌==◌, ◌&&◌, if◌then◌else◌, nat_le, nat_lt, max, min, find, codes}
use Rattle.std.specs.Option.{option_map, option_map_or}
use Rattle.std.proofs.lemmas.Bool.{cases_lt, le-leb, lt-leb, ne_eqb, ltb-true}
use Rattle.std.proofs.lemmas.List.{take_all}
use Rattle.std.proofs.lemmas.List.Folds.{find_at}
use Rattle.std.proofs.lemmas.Nat.Bits.{bit_at-zero}
use Rattle.std.proofs.lemmas.Option.{slice_get-map}
use Rattle.machine.specs.Board.{Machine}
use Rattle.machine.specs.Keys.{Event as KeyEvent, held_at}
use Rattle.machine.specs.Pictures.{is_shown, windows_ended}
use Rattle.machine.proofs.Runs.{later-move}
use Rattle.chip8_lang.specs.declared.view.Edition.{Edition}
use Rattle.chip8_lang.specs.Editions.{rows_of}
use Rattle.chip8_lang.specs.Events.{Event, is_dispatch, is_stop, numbers_from}
use Rattle.chip8_lang.specs.Events.Event.{Picture, Dispatch, Stopped}
use Rattle.chip8_lang.specs.Places.{Interpreter, pixels, state_of}
use Rattle.chip8_lang.specs.Screen.{empty, is_set}
use Rattle.chip8_lang.specs.View.{view_at}
use Rattle.rom_law.specs.Language.{end_cycle}
use Rattle.asm_core.specs.Origins.{no_origins}
use Rattle.vip_byte.specs.Text.{newline}
use Rattle.vip_relation.specs.Follows.{last_dispatch}
use Rattle.chip8_image.specs.Interpreters.{interpreter_of}
use Rattle.vip_relation.specs.Points.{point_events}
use Rattle.vip_relation.specs.declared.point.Point.TheVariants.{Dispatch as DispatchPoint, Stop as StopPoint, Other as OtherPoint}
use Rattle.vip_relation.specs.State.Start.{Reset, Saved}
use Rattle.vip_relation.specs.State.{Start, VipState, begun, events_to, first_events, machine_of, screen_bytes, screen_size}
use Rattle.vip_board.proofs.Along.{in-turn}
use Rattle.vip_relation.proofs.Past.{state, earlier, before, past, past-first, pictures, point}
use Rattle.vip_relation.proofs.Waits.{earlier-at}
use Rattle.rom_board.proofs.Passed.{NoStop, before_point, no_stop_append, no_stop_before, other_point, with_point}
use Rattle.vip_text.specs.Endings.{Ending}
use Rattle.vip_text.specs.Endings.Ending.{AtLimit}
use Rattle.vip_text.specs.Screens.{screen_lines}
use Rattle.vip_text.specs.Traces.{plain, told_line}
use Rattle.vip_show.specs.Endings.{ending_after}
use Rattle.vip_words.specs.Spoken.{Spoken}
use Rattle.vip_words.specs.declared.debug_commands.Command.{Command}
use Rattle.vip_words.specs.declared.debug_commands.Command.TheVariants as command
use Rattle.vip_words.specs.declared.debug_commands.Running.{Running}
use Rattle.vip_words.specs.declared.debug_commands.Running.TheVariants.{At, Step, To, Watch}
use Rattle.vip_words.specs.declared.debug_commands.Seeking.{Seeking}
use Rattle.vip_words.specs.declared.debug_commands.Seeking.TheVariants.{Next, Break}
use Rattle.vip_words.specs.declared.debug_commands.Telling.TheVariants.{Code, State, Screen}
use Rattle.vip_debug.proofs.TargetRuns.{Reached, all-moves, last-here, until, until-from, until-past}
use Rattle.vip_debug.specs.Answers.{Arrival, Place, all_met, at_point, events_by, has_pc, lines_at, met_at, moved_on, moves_until, place_after, at_start, place_with, points_ahead, ran, running_lines, seeking_lines, sought, stop_by, stop_text, told, written}
use Rattle.vip_debug.specs.Answers.{pieces as pieces_of}
use Rattle.vip_debug.specs.Code.{clear_byte, code_lines}
use Rattle.vip_debug.specs.Commands.{came}
use Rattle.vip_debug.specs.Game.{run_at}
use Rattle.vip_debug.specs.TargetRun as run
use Rattle.vip_debug.specs.declared.looks.Looks.{Looks}
use Rattle.vip_debug.proofs.Reaching.{all_past, at_begin, last_until, with_one}
use Rattle.vip_verbs.specs.Outcome.{debug_ending, ending_where, run_ending, stopped_by}
use Rattle.vip_call.specs.Commands.{AllAnswered, Answers, NamesStop, ShowsCode, ahead, found_line, last_met, place_at, screen_text, state_text, stops_by}
use Rattle.vip_call.specs.Commands.{sought as sought_point}
use Rattle.vip_call.specs.Transcript.{Point, end_line, last_point}
use Rattle.vip_call.proofs.DebugLemmas.{stop_is}
use Rattle.vip_call.proofs.MetLemmas.{ahead_is, dispatches, is_ahead, met_is, more_moves, next_over, reached_few, within_limit}
use Rattle.vip_call.proofs.ShownCode.{code_in_memory}
use Rattle.vip_call.proofs.TranscriptLemmas.{last_is_last, point_of, points_of}

-- ---- dispatch points among some events

-- the machine b is one of these
record Among (b : Machine) (bs : List Machine) : Type 0 where
  place : ℕ
  there : slice_get bs place ≡ Some b

dropped : (b : Machine) (m j : ℕ) (es : List Event) → slice_get (dispatches (drop m es)) j ≡ Some b → Among b (dispatches es)
dropped b zero j es there = record { place = j; there = there }
dropped b (suc m) j [] there = cc
dropped b (suc m) j (Picture k ∷ es) there = dropped b m j es there
dropped b (suc m) j (Dispatch c ∷ es) there = let a = dropped b m j es there in record { place = suc a.place; there = a.there }
dropped b (suc m) j (Stopped c ∷ es) there = dropped b m j es there

-- it is in the one list or in the other
one_of_both : (b : Machine) (j : ℕ) (xs ys : List Event) → slice_get (dispatches (xs ++ ys)) j ≡ Some b → Among b (dispatches xs) ⊎ Among b (dispatches ys)
one_of_both b j [] ys there = inr (record { place = j; there = there })
one_of_both b j (Picture k ∷ xs) ys there = one_of_both b j xs ys there
one_of_both b zero (Dispatch c ∷ xs) ys there = inl (record { place = 0; there = there })
one_of_both b (suc j) (Dispatch c ∷ xs) ys there = go (one_of_both b j xs ys there)
  where
    go : Among b (dispatches xs) ⊎ Among b (dispatches ys) → Among b (c ∷ dispatches xs) ⊎ Among b (dispatches ys)
    go (inl a) = inl (record { place = suc a.place; there = a.there })
    go (inr a) = inr a
one_of_both b j (Stopped c ∷ xs) ys there = one_of_both b j xs ys there

no_dispatch : (ms : List ℕ) → dispatches (map Picture ms) ≡ []
no_dispatch [] = refl
no_dispatch (m ∷ ms) = no_dispatch ms

-- ---- lists

filter_points :
    (e : Edition) (test : Point → Bool) (bs : List Machine)
    → filter test (map (point_of e) bs) ≡ map (point_of e) (filter (λ b. test (point_of e b)) bs)
filter_points e test [] = refl
filter_points e test (b ∷ bs) = by_test (test (point_of e b)) (filter_points e test bs)
  where
    by_test :
        (keep : Bool) → filter test (map (point_of e) bs) ≡ map (point_of e) (filter (λ c. test (point_of e c)) bs)
        → cond keep (point_of e b ∷ filter test (map (point_of e) bs)) (filter test (map (point_of e) bs))
        ≡ map (point_of e) (cond keep (b ∷ filter (λ c. test (point_of e c)) bs) (filter (λ c. test (point_of e c)) bs))
    by_test true others = ap (λ ps. point_of e b ∷ ps) others
    by_test false others = others

find_point :
    (e : Edition) (test : Point → Bool) (bs : List Machine)
    → find test (map (point_of e) bs) ≡ option_map (point_of e) (find (λ b. test (point_of e b)) bs)
find_point e test [] = refl
find_point e test (b ∷ bs) = by_test (test (point_of e b)) (find_point e test bs)
  where
    by_test :
        (found : Bool) → find test (map (point_of e) bs) ≡ option_map (point_of e) (find (λ c. test (point_of e c)) bs)
        → cond found (Some (point_of e b)) (find test (map (point_of e) bs))
        ≡ option_map (point_of e) (cond found (Some b) (find (λ c. test (point_of e c)) bs))
    by_test true others = refl
    by_test false others = others

-- any of those ahead of a cycle
later_than : (t : ℕ) (bs : List Machine) (b : Machine) (j : ℕ) → slice_get (filter (is_ahead t) bs) j ≡ Some b → t < b.cycle
later_than t [] b j there = cc
later_than t (c ∷ bs) b j there = by_test (nat_lt t c.cycle) refl j (later_than t bs b) there
  where
    by_test :
        (keep : Bool) → nat_lt t c.cycle ≡ keep → (j : ℕ) → ((k : ℕ) → slice_get (filter (is_ahead t) bs) k ≡ Some b → t < b.cycle)
        → slice_get (cond keep (c ∷ filter (is_ahead t) bs) (filter (is_ahead t) bs)) j ≡ Some b → t < b.cycle
    by_test true less zero others there = let same : c ≡ b = cc in subst (λ (z : Machine). t < z.cycle) same (ltb-true t c.cycle less)
    by_test true less (suc j) others there = others j there
    by_test false more j others there = others j there

-- any of those that a test keeps
kept : (test : Machine → Bool) (bs : List Machine) (b : Machine) (j : ℕ) → slice_get (filter test bs) j ≡ Some b → Among b bs
kept test [] b j there = cc
kept test (c ∷ bs) b j there = by_test (test c) j (kept test bs b) there
  where
    by_test :
        (keep : Bool) (j : ℕ) → ((k : ℕ) → slice_get (filter test bs) k ≡ Some b → Among b bs)
        → slice_get (cond keep (c ∷ filter test bs) (filter test bs)) j ≡ Some b → Among b (c ∷ bs)
    by_test true zero others there = record { place = 0; there = there }
    by_test true (suc j) others there = let a = others j there in record { place = suc a.place; there = a.there }
    by_test false j others there = let a = others j there in record { place = suc a.place; there = a.there }

-- the stop is the last of some events, in whose cycle the run is over
pub over_at : (limit : ℕ) (es : List Event) (b : Machine) → NoStop es → end_cycle limit (es ++ Stopped b ∷ []) ≡ b.cycle
unfolding NoStop
over_at limit [] b none = refl
over_at limit (Picture m ∷ es) b none = over_at limit es b none
over_at limit (Dispatch c ∷ es) b none = over_at limit es b none
over_at limit (Stopped c ∷ es) b none = absurd none

-- no stop point, no other end than the limit
ends_at_limit : (e : Edition) (pc : ℕ) (opcode : Option ℕ) (es : List Event) → NoStop es → ending_after e pc opcode es ≡ AtLimit
unfolding ending_after NoStop
ends_at_limit e pc opcode [] none = refl
ends_at_limit e pc opcode (Picture m ∷ es) none = ends_at_limit e pc opcode es none
ends_at_limit e pc opcode (Dispatch b ∷ es) none = ends_at_limit e (view_at e b).pc (view_at e b).opcode es none
ends_at_limit e pc opcode (Stopped b ∷ es) none = absurd none

-- a dark screen
dark : (rows n : ℕ) → pixels rows (replicate n 0) ≡ empty
dark rows n = λ i x y. unlit x y i
  where
    all_zero : (k j : ℕ) → slice_index (replicate k 0) j ≡ 0
    all_zero zero j = refl
    all_zero (suc k) zero = refl
    all_zero (suc k) (suc j) = all_zero k j

    off : (inside : Bool) (k : ℕ) → (inside && is_set 0 k) ≡ false
    off true k = ap (λ bit. bit == 1) (bit_at-zero k)
    off false k = refl

    unlit : (x y : ℕ) → pixels rows (replicate n 0) x y ≡ false
    unlit x y =
        ap (λ byte. (nat_lt x 64 && nat_lt y rows) && is_set byte (7 - x % 8)) (all_zero n (8 * y + x / 8))
        ∙ off (nat_lt x 64 && nat_lt y rows) (7 - x % 8)

module _
    (e : Edition) (s : Start) (script : List KeyEvent) (begins : is_stop (interpreter_of e) (machine_of s) ≡ false) (limit : ℕ)
    (late : (machine_of s).cycle ≤ limit) (over : ℕ)
    (over_is :
    is_stop (interpreter_of e) (state (interpreter_of e) s script (moves_until (begun e s script) limit)) ≡ true
    → over ≡ (state (interpreter_of e) s script (moves_until (begun e s script) limit)).cycle)
    (looks : Looks) where
  abbrev i : Interpreter
  i = interpreter_of e

  abbrev v : VipState
  v = begun e s script

  abbrev at_state : ℕ → Machine
  at_state n = state i s script n

  abbrev past_of : ℕ → List Event
  past_of n = past i s script n

  abbrev ReachedInTime : ℕ → Type 0
  ReachedInTime n = Reached (run_at v 0) limit n

  abbrev events : List Event
  events = events_to v limit

  abbrev points : List Point
  points = points_of e events

  abbrev ending : Ending
  ending = run_ending e s script limit

  abbrev end : ℕ
  end = moves_until v limit

  -- ---- the state of a dispatch point

  record Stands (n : ℕ) (b : Machine) : Type 0 where
    k : ℕ
    below : k < n
    is : b ≡ at_state k
    runs : is_stop i (at_state k) ≡ false

  at_last : (n : ℕ) (b : Machine) → Among b (dispatches (point i s script n)) → Stands (suc n) b
  at_last zero b a = record { k = 0; below = omega arith; is = first s a; runs = begins }
    where
      first : (s : Start) → Among b (dispatches (first_events s)) → b ≡ machine_of s
      first (Reset game) a = let none : slice_get [] a.place ≡ Some b = a.there in cc
      first (Saved file) a = by_place a.place a.there
        where
          by_place : (j : ℕ) → slice_get (machine_of (Saved file) ∷ []) j ≡ Some b → b ≡ machine_of (Saved file)
          by_place zero there = cc
          by_place (suc j) there = cc
  at_last (suc n) b a = by_test (is_stop i (at_state (suc n))) (is_dispatch i (at_state (suc n))) refl a.place a.there
    where
      by_test :
          (stop dispatch : Bool) → is_stop i (at_state (suc n)) ≡ stop → (j : ℕ)
          → slice_get (dispatches (point_events (if stop then StopPoint else if dispatch then DispatchPoint else OtherPoint) (at_state (suc n)))) j ≡ Some b
          → Stands (suc (suc n)) b
      by_test true dispatch runs j there = cc
      by_test false true runs zero there = let same : at_state (suc n) ≡ b = cc in record { k = suc n; below = omega arith; is = sym same; runs = runs }
      by_test false true runs (suc j) there = cc
      by_test false false runs j there = cc

  stands : (n : ℕ) (b : Machine) → Among b (dispatches (past_of n)) → Stands n b
  unfolding past
  stands zero b a = let none : slice_get [] a.place ≡ Some b = a.there in cc
  stands (suc n) b a = first (stands n b) (one_of_both b a.place (past_of n ++ pictures i s script n) (point i s script n) a.there)
    where
      old : Stands n b → Stands (suc n) b
      old c = record { k = c.k; below = omega (arith, c.below); is = c.is; runs = c.runs }

      frames : List ℕ
      frames =
          filter (is_shown i.rom (earlier i s script n))
          (numbers_from (windows_ended (before i s script n)) (windows_ended (at_state n).cycle - windows_ended (before i s script n)))

      shown : Among b (dispatches (pictures i s script n)) → ⊥
      shown p = let none : slice_get [] p.place ≡ Some b = sym (ap (λ bs. slice_get bs p.place) (no_dispatch frames)) ∙ p.there in cc

      second :
          (Among b (dispatches (past_of n)) → Stands n b) → Among b (dispatches (past_of n)) ⊎ Among b (dispatches (pictures i s script n))
          → Stands (suc n) b
      second before (inl p) = old (before p)
      second before (inr p) = absurd (shown p)

      first :
          (Among b (dispatches (past_of n)) → Stands n b)
          → Among b (dispatches (past_of n ++ pictures i s script n)) ⊎ Among b (dispatches (point i s script n)) → Stands (suc n) b
      first before (inl p) = second before (one_of_both b p.place (past_of n) (pictures i s script n) p.there)
      first before (inr p) = at_last n b p

  -- so many moves are made up to its cycle
  until_is : (n : ℕ) → ReachedInTime n → moves_until v (at_state n).cycle ≡ n
  until_is n r =
      omega (
        arith,
        until (run_at v 0) (at_state n).cycle,
        all-moves (run_at v 0) (at_state n).cycle n (omega arith) r.runs,
        last-here (run_at v 0) (at_state n).cycle n (omega arith) (later-move i.rom (held_at script) (at_state n)),
      )

  -- a dispatch point of the run is the state at which the board stands when it has come to it
  record Found (b : Machine) : Type 0 where
    there : at_state (moves_until v b.cycle) ≡ b
    runs : is_stop i (at_state (moves_until v b.cycle)) ≡ false

  found : (b : Machine) → Among b (dispatches events) → Found b
  found b a = record { there = ap at_state same ∙ sym c.is; runs = ap (λ n. is_stop i (at_state n)) same ∙ c.runs }
    where
      c : Stands (suc end) b
      c = stands (suc end) b (subst (λ es. Among b (dispatches es)) (all_past e s script begins limit late) a)

      last : ReachedInTime end
      last = last_until e s script begins limit late

      here : ReachedInTime c.k
      here = record { within = omega (arith, earlier_cycle, last.within); runs = λ j l. last.runs j (omega (arith, l, c.below)) }
        where
          earlier_cycle : (at_state c.k).cycle ≤ (at_state end).cycle
          earlier_cycle = in-turn i.rom (held_at script) end c.k (machine_of s) (omega (arith, c.below))

      same : moves_until v b.cycle ≡ c.k
      same = ap (λ (z : Machine). moves_until v z.cycle) c.is ∙ until_is c.k here

  -- a run that doesn't stop ends at its limit
  runs_out : is_stop i (at_state end) ≡ false → ending ≡ AtLimit
  runs_out runs = ends_at_limit e 0 None events (subst NoStop (sym (all_past e s script begins limit late)) none)
    where
      none : NoStop (past_of (suc end))
      none =
          subst NoStop (sym (with_point i s script end))
          (no_stop_append (before_point i s script end) (point i s script end)
          (no_stop_before i s script end (last_until e s script begins limit late).runs) (other_point i s script end runs))

  -- ---- the stop

  -- the board stands so where every event up to a cycle is met
  abbrev place : ℕ → Place
  place t = all_met v (moves_until v t)

  -- the board is at a stop point exactly where the run's stop has come
  module _ (t : ℕ) (behind_start : (machine_of s).cycle ≤ t) (order : t ≤ limit) where
    abbrev made : ℕ
    made = moves_until v t

    stops_at : is_stop i (at_state made) ≡ stops_by e looks limit points ending over ending t
    stops_at = by_test (is_stop i (at_state end)) refl
      where
        last : ReachedInTime end
        last = last_until e s script begins limit late

        few : made ≤ end
        few = more_moves e s script begins t limit behind_start order

        running : is_stop i (at_state end) ≡ false → (made < end) ⊎ (end ≤ made) → is_stop i (at_state made) ≡ false
        running runs (inl less) = last.runs made less
        running runs (inr more) = let same : made ≡ end = omega (arith, few, more) in ap (λ k. is_stop i (at_state k)) same ∙ runs

        earlier : is_stop i (at_state end) ≡ true → t < over → (made < end) ⊎ (end ≤ made) → is_stop i (at_state made) ≡ false
        earlier stop before (inl less) = last.runs made less
        earlier stop before (inr more) =
            let same : made ≡ end = omega (arith, few, more) in
            absurd (omega (arith, before, over_is stop, (last_until e s script begins t behind_start).within, ap (λ k. (at_state k).cycle) same))

        stopped : is_stop i (at_state end) ≡ true → (t < over) ⊎ (over ≤ t) → is_stop i (at_state made) ≡ nat_le over t
        stopped stop (inl before) = earlier stop before (cases_lt made end) ∙ sym (lt-leb over t before)
        stopped stop (inr behind) =
            let all = reached_few e s script begins t end (record { within = omega (arith, behind, over_is stop); runs = last.runs }) in
            let same : made ≡ end = omega (arith, few, all) in
            ap (λ k. is_stop i (at_state k)) same ∙ stop ∙ sym (le-leb over t behind)

        by_test : (stop : Bool) → is_stop i (at_state end) ≡ stop → is_stop i (at_state made) ≡ stops_by e looks limit points ending over ending t
        by_test true stop =
            stopped stop (cases_lt t over)
            ∙ ap (λ z. stops_by e looks limit points ending over z t) (stop_is e s script begins limit late end last stop)
        by_test false runs =
            running runs (cases_lt made end)
            ∙ ap (λ z. stops_by e looks limit points ending over z t) (sym (runs_out runs))

    -- so its stop is the run's
    ends_as : ending_where v made ≡ (if stops_by e looks limit points ending over ending t then ending else AtLimit)
    ends_as = by_test (is_stop i (at_state made)) refl
      where
        reached_here : ReachedInTime made
        reached_here = let h = last_until e s script begins t behind_start in record { within = omega (arith, order, h.within); runs = h.runs }

        by_test :
            (stop : Bool) → is_stop i (at_state made) ≡ stop
            → ending_where v made ≡ (if stops_by e looks limit points ending over ending t then ending else AtLimit)
        by_test true stop =
            ap (λ s. if s then stopped_by (stop_by v made) else AtLimit) stop
            ∙ stop_is e s script begins limit late made reached_here stop
            ∙ ap (λ s. if s then ending else AtLimit) (sym stop ∙ stops_at)
        by_test false runs =
            ap (λ s. if s then stopped_by (stop_by v made) else AtLimit) runs
            ∙ ap (λ s. if s then ending else AtLimit) (sym runs ∙ stops_at)

    -- and that is the line that is written there
    names_stop : (a : Arrival) (lines : List (List ℕ)) → a.place.moves ≡ made → NamesStop e looks limit points ending over t (lines_at v a lines)
    unfolding lines_at
    names_stop a lines is stop =
        ap (λ s. if s then stop_text (stop_by v a.place.moves) ∷ [] else if a.completed then lines else (codes "end" ++ newline) ∷ []) stopped
        ∙ ap (λ z. end_line z ∷ []) (ap (λ k. stopped_by (stop_by v k)) is ∙ stop_is e s script begins limit late made reached_here (stops_at ∙ stop))
      where
        reached_here : ReachedInTime made
        reached_here = let h = last_until e s script begins t behind_start in record { within = omega (arith, order, h.within); runs = h.runs }

        stopped : is_stop i (at_state a.place.moves) ≡ true
        stopped = ap (λ k. is_stop i (at_state k)) is ∙ stops_at ∙ stop

    -- ---- what is met, and what is ahead

    -- the events that are met there are those up to the cycle
    by_is : events_by v made ≡ events_to v t
    by_is =
        all_past e s script begins (at_state made).cycle (in-turn i.rom (held_at script) made 0 (machine_of s) (omega arith))
        ∙ ap (λ k. past_of (suc k))
        (until_is made (let h = last_until e s script begins t behind_start in record { within = omega (arith, order, h.within); runs = h.runs }))
        ∙ sym (all_past e s script begins t behind_start)

    met_here : met_at v (place t) ≡ events_to v t
    met_here = take_all (length (events_by v made)) (events_by v made) (omega arith) ∙ by_is

    last_is : last_met e looks limit points ending over t ≡ option_map (point_of e) (last_dispatch (met_at v (place t)))
    last_is =
        ap last_point (filter_points e (λ p. nat_le p.cycle t) (dispatches events))
        ∙ ap (λ bs. last_point (map (point_of e) bs)) (sym (met_is e s script begins limit t behind_start order))
        ∙ last_is_last e (events_to v t)
        ∙ ap (λ es. option_map (point_of e) (last_dispatch es)) (sym met_here)

    ahead_here : ahead e looks limit points ending over t ≡ map (point_of e) (points_ahead v limit (place t))
    ahead_here =
        filter_points e (λ p. nat_lt t p.cycle) (dispatches events)
        ∙ ap (map (point_of e))
        (sym (ahead_is e s script begins limit t behind_start order) ∙ ap (λ es. dispatches (drop (length es) events)) (sym by_is))

    -- ---- lines of code

    -- where the board stands at a point, those of its state
    code_shown :
        (address count : ℕ) (last : Option Machine) → last_dispatch (events_to v t) ≡ last
        → ShowsCode e looks limit points ending over address count (option_map (point_of e) last) t
        (code_lines (clear_byte i.rom (at_state made)) looks.origins address count)
    code_shown address count None is = tt
    code_shown address count (Some b) is = λ here from to.
        let among : Among b (dispatches events) =
        kept (λ c. nat_le c.cycle t) (dispatches events) b (length (dispatches (events_to v t)) - 1)
        (sym (ap (λ bs. slice_get bs (length (dispatches (events_to v t)) - 1)) (met_is e s script begins limit t behind_start order)) ∙ is) in
        let there : at_state made ≡ b = ap (λ c. at_state (moves_until v c)) (sym here) ∙ (found b among).there in
        ap (λ c. code_lines (clear_byte i.rom c) looks.origins address count) there ∙ code_in_memory e i.rom b looks.origins address count from to

  -- ---- a command

  -- the board comes from the place of one cycle to that of another, and what is written is what the points say
  record Comes (c : Command) (t : ℕ) : Type 0 where
    to : ℕ
    from : (machine_of s).cycle ≤ to
    within : to ≤ limit
    is : place_with v limit c (place t) ≡ place to
    answers : Answers e looks limit points ending over c t to (pieces_of looks v limit c (place t))

  -- a command that looks for a dispatch point
  found_here : (b : Machine) → Among b (dispatches events) → seeking_lines looks v (at_point v limit (Some b)) ≡ found_line e looks limit points ending over (Some (point_of e b)) ∷ []
  unfolding lines_at view_at
  found_here b a =
      let f = found b a in
      ap (λ stop. if stop then stop_text (stop_by v (moves_until v b.cycle)) ∷ [] else told_line looks.origins looks.columns (view_at e (at_state (moves_until v b.cycle)))
      ∷ []) f.runs
      ∙ ap (λ (c : Machine). told_line looks.origins looks.columns (view_at e c) ∷ []) f.there

  -- or to the end of the run
  end_here : seeking_lines looks v (at_point v limit None) ≡ end_line ending ∷ []
  unfolding lines_at
  end_here = by_test (is_stop i (at_state end)) refl
    where
      by_test : (stop : Bool) → is_stop i (at_state end) ≡ stop → seeking_lines looks v (at_point v limit None) ≡ end_line ending ∷ []
      by_test true stop =
          ap (λ t. if t then stop_text (stop_by v end) ∷ [] else (codes "end" ++ newline) ∷ []) stop
          ∙ ap (λ z. end_line z ∷ []) (stop_is e s script begins limit late end (last_until e s script begins limit late) stop)
      by_test false runs =
          ap (λ t. if t then stop_text (stop_by v end) ∷ [] else (codes "end" ++ newline) ∷ []) runs
          ∙ ap (λ z. end_line z ∷ []) (sym (runs_out runs))

  module _ (t : ℕ) (behind_start : (machine_of s).cycle ≤ t) (order : t ≤ limit) where
    -- a dispatch point ahead comes later
    ahead_by : (b : Machine) (j : ℕ) → Some b ≡ slice_get (points_ahead v limit (place t)) j → t < b.cycle
    ahead_by b j at =
        later_than t (dispatches events) b j
        (ap (λ bs. slice_get bs j)
        (sym (ahead_is e s script begins limit t behind_start order)
        ∙ ap (λ es. dispatches (drop (length es) events)) (sym (by_is t behind_start order)))
        ∙ sym at)

    seeks :
        (seeking : Seeking) (j : ℕ) (to : Option Machine) → (sought v limit seeking (place t)) ≡ at_point v limit to
        → to ≡ slice_get (points_ahead v limit (place t)) j
        → sought_point e looks limit points ending over seeking t ≡ option_map (point_of e) to → Comes (command.Seeks seeking) t
    seeks seeking j None goes at is = record {
      to = limit;
      from = late;
      within = omega arith;
      is = ap (λ (a : Arrival). a.place) goes;
      answers =
          subst
          (λ p. (limit ≡ place_at e looks limit points ending over t p)
          × (seeking_lines looks v (sought v limit seeking (place t)) ≡ found_line e looks limit points ending over p ∷ []))
          (sym is) (omega (arith, order), ap (seeking_lines looks v) goes ∙ end_here);
    }
    seeks seeking j (Some b) goes at is =
        let a : Among b (dispatches events) = dropped b (length (events_by v (moves_until v t))) j events (sym at) in
        record {
          to = b.cycle;
          from = omega (arith, behind_start, ahead_by b j at);
          within = omega (arith, earlier-at (limit + 1) events (within_limit e s script begins limit late) a.place b a.there);
          is = ap (λ (a : Arrival). a.place) goes;
          answers =
              subst
              (λ p. (b.cycle ≡ place_at e looks limit points ending over t p)
              × (seeking_lines looks v (sought v limit seeking (place t)) ≡ found_line e looks limit points ending over p ∷ []))
              (sym is) (refl, ap (seeking_lines looks v) goes ∙ found_here b a);
        }

    -- a command that runs the board: these are the moves that it makes, and a cycle up to which they are made
    abbrev moves : Running → ℕ
    moves running = (came (run_at v (moves_until v t)) limit running).moves

    moved : (k : ℕ) → moved_on v k (place t) ≡ all_met v (moves_until v t + k)
    moved zero = let same : moves_until v t ≡ moves_until v t + 0 = omega arith in ap (all_met v) same
    moved (suc k) = ap (λ none. if none then place t else all_met v (moves_until v t + suc k)) (ne_eqb (suc k) 0 (λ z. omega (arith, z)))

    runs :
        (running : Running) (to : ℕ) → (machine_of s).cycle ≤ to → to ≤ limit → moves_until v t + moves running ≡ moves_until v to
        → (place_with v limit (command.Runs running) (place t) ≡ place to)
        × NamesStop e looks limit points ending over to (running_lines v limit running (place t))
    runs running to from within is =
        let there : moved_on v (moves running) (place t) ≡ place to = moved (moves running) ∙ ap (all_met v) is in
        (there, names_stop to from within (ran v limit running (place t)) _ (ap (λ (p : Place). p.moves) there))

    -- `to` a cycle makes the moves up to there
    goes_to : (c : ℕ) → c ≤ limit → moves_until v t + run.moves_until (run_at v (moves_until v t)) c ≡ moves_until v (max t c)
    goes_to c within = by_test (cases_lt c (at_state n).cycle) (cases_lt t c)
      where
        n : ℕ
        n = moves_until v t

        k : ℕ
        k = run.moves_until (run_at v n) c

        here : Reached (run_at v 0) t n
        here = last_until e s script begins t behind_start

        by_test : (c < (at_state n).cycle) ⊎ ((at_state n).cycle ≤ c) → (t < c) ⊎ (c ≤ t) → n + k ≡ moves_until v (max t c)
        by_test (inl past) order =
            let stays : max t c ≡ t = omega (arith, past, here.within) in
            let none : k ≡ 0 = until-past (run_at v 0) c n past in
            omega (arith, none, ap (moves_until v) stays)
        by_test (inr behind) (inl more) =
            let later : max t c ≡ c = omega (arith, more) in
            let all : moves_until v c ≡ n + k = until-from (run_at v 0) c n (record { within = behind; runs = here.runs }) in
            omega (arith, all, ap (moves_until v) later)
        by_test (inr behind) (inr few) =
            let from : (machine_of s).cycle ≤ c = omega (arith, behind, in-turn i.rom (held_at script) n 0 (machine_of s) (omega arith)) in
            let stays : max t c ≡ t = omega (arith, few) in
            let all : moves_until v c ≡ n + k = until-from (run_at v 0) c n (record { within = behind; runs = here.runs }) in
            omega (arith, all, more_moves e s script begins c t from few, ap (moves_until v) stays)

    -- any other one comes to a state that isn't before
    record ComesOn (k : ℕ) : Type 0 where
      to : ℕ
      later : t ≤ to
      within : to ≤ limit
      is : moves_until v t + k ≡ moves_until v to

    comes_on : (k : ℕ) → ReachedInTime (moves_until v t + k) → ComesOn k
    comes_on zero r = record { to = t; later = omega arith; within = order; is = omega arith }
    comes_on (suc k) r = record {
      to = (at_state m).cycle;
      later = omega (arith, next, in-turn i.rom (held_at script) m (suc n) (machine_of s) (omega arith));
      within = r.within;
      is = sym (until_is m r);
    }
      where
        n : ℕ
        n = moves_until v t

        m : ℕ
        m = n + suc k

        next : t < (at_state (suc n)).cycle
        next = next_over e s script begins t behind_start (r.runs n (omega arith))

    running_comes :
        (running : Running)
        → ((to : ℕ) → (t ≤ to) × (to ≤ max t limit) × NamesStop e looks limit points ending over to (running_lines v limit running (place t))
        → Answers e looks limit points ending over (command.Runs running) t to (running_lines v limit running (place t)))
        → Comes (command.Runs running) t
    running_comes running said =
        let reached : ReachedInTime (moves_until v t + moves running) =
        subst ReachedInTime (ap (λ (p : Place). p.moves) (moved (moves running)))
        (with_one e s script begins limit late (command.Runs running) (place t) here) in
        let c = comes_on (moves running) reached in
        let r = runs running c.to (omega (arith, behind_start, c.later)) c.within c.is in
        record {
          to = c.to;
          from = omega (arith, behind_start, c.later);
          within = c.within;
          is = r.0;
          answers = said c.to (c.later, omega (arith, c.within), r.1);
        }
      where
        here : ReachedInTime (moves_until v t)
        here = let h = last_until e s script begins t behind_start in record { within = omega (arith, order, h.within); runs = h.runs }

    comes : (c : Command) → Comes c t
    unfolding view_at state_of
    comes (command.Runs (To cycle)) =
        let r = runs (To cycle) (max t (min cycle limit)) (omega (arith, behind_start)) (omega (arith, order)) (goes_to (min cycle limit) (omega arith)) in
        record { to = max t (min cycle limit); from = omega (arith, behind_start); within = omega (arith, order); is = r.0; answers = (refl, r.1) }
    comes (command.Runs (Step count)) = running_comes (Step count) (λ to a. a)
    comes (command.Runs (At address)) = running_comes (At address) (λ to a. a)
    comes (command.Runs (Watch address count)) = running_comes (Watch address count) (λ to a. a)
    comes (command.Shows showing) = record { to = t; from = behind_start; within = order; is = refl; answers = refl }
    comes (command.Tells (Code address count)) =
        record {
          to = t;
          from = behind_start;
          within = order;
          is = refl;
          answers = (
            refl,
            subst
                (λ last. ShowsCode e looks limit points ending over address count last t (told looks v (Code address count) (place t)))
                (ap (λ es. option_map (point_of e) (last_dispatch es)) (sym (met_here t behind_start order)) ∙ sym (last_is t behind_start order))
                (code_shown t behind_start order address count (last_dispatch (events_to v t)) refl),
          );
        }
    comes (command.Seeks (Next n)) =
        seeks (Next n) (n - 1) (slice_get (points_ahead v limit (place t)) (n - 1)) refl refl
        (ap (λ ps. slice_get ps (n - 1)) (ahead_here t behind_start order) ∙ slice_get-map (point_of e) (points_ahead v limit (place t)) (n - 1))
    comes (command.Seeks (Break pc)) =
        seeks (Break pc) _ (find (has_pc v pc) (points_ahead v limit (place t))) refl (find_at (has_pc v pc) (points_ahead v limit (place t)))
        (ap (find (λ p. p.state.pc == pc)) (ahead_here t behind_start order) ∙ find_point e (λ p. p.state.pc == pc) (points_ahead v limit (place t)))
    comes (command.Tells State) =
        record {
          to = t;
          from = behind_start;
          within = order;
          is = refl;
          answers = (
            refl,
            ap (λ s. s ∷ []) (states (last_dispatch (met_at v (place t))) ∙ ap (state_text e looks limit points ending over) (sym (last_is t behind_start order))),
          );
        }
      where
        states : (last : Option Machine) → option_map_or (told_line looks.origins (record looks.columns { time = true })) (option_map (view_at e) last) (codes "none" ++ newline)
            ≡ state_text e looks limit points ending over (option_map (point_of e) last)
        states None = refl
        states (Some b) = refl
    comes (command.Tells Screen) =
        record {
          to = t;
          from = behind_start;
          within = order;
          is = refl;
          answers = (
            refl,
            ap (λ s. s ∷ []) (screens (last_dispatch (met_at v (place t))) ∙ ap (screen_text e looks limit points ending over) (sym (last_is t behind_start order))),
          );
        }
      where
        screens : (last : Option Machine) → screen_lines (pixels (rows_of e) (option_map_or (screen_bytes e) last (replicate (screen_size e) 0))) (rows_of e)
            ≡ screen_text e looks limit points ending over (option_map (point_of e) last)
        screens None = ap (λ s. screen_lines s (rows_of e)) (dark (rows_of e) (screen_size e))
        screens (Some b) = refl

  -- ---- all commands

  answered :
      (commands : List Spoken) (t : ℕ) → (machine_of s).cycle ≤ t → t ≤ limit
      → AllAnswered e looks limit points ending over (ending_where v (place_after v limit commands (place t)).moves) commands t
      (written looks v limit commands (place t))
  answered [] t behind_start order = (refl, ends_as t behind_start order)
  answered (c ∷ commands) t behind_start order =
      let a = comes t behind_start order c.command in
      record {
        place = a.to;
        here = pieces_of looks v limit c.command (place t);
        rest = written looks v limit commands (place_with v limit c.command (place t));
        split = refl;
        answers = a.answers;
        others =
            subst
            (λ p. AllAnswered e looks limit points ending over (ending_where v (place_after v limit commands p).moves) commands a.to
            (written looks v limit commands p))
            (sym a.is) (answered commands a.to a.from a.within);
      }

  -- they begin before the first move, where the start's point is met
  abbrev standing : ℕ → List Event → Place
  standing moves es = record { moves = moves; met = length es }

  starts : at_start v ≡ place (machine_of s).cycle
  starts = ap (standing 0) (sym only) ∙ ap (all_met v) (sym none)
    where
      none : moves_until v (machine_of s).cycle ≡ 0
      none = until_is 0 (at_begin e s script begins limit late)

      only : events_by v 0 ≡ first_events s
      only =
          all_past e s script begins (machine_of s).cycle (omega arith) ∙ ap (λ k. past_of (suc k)) none ∙ past-first i s script

  pub answers :
      (commands : List Spoken)
      → AllAnswered e looks limit points ending over (debug_ending v limit commands) commands (machine_of s).cycle (written looks v limit commands (at_start v))
  answers commands =
      subst
      (λ p. AllAnswered e looks limit points ending over (ending_where v (place_after v limit commands p).moves) commands (machine_of s).cycle
      (written looks v limit commands p))
      (sym starts) (answered commands (machine_of s).cycle (omega arith) late)

-- ---- the last dispatch point of a run up to a cycle

module _ (e : Edition) (s : Start) (script : List KeyEvent) (begins : is_stop (interpreter_of e) (machine_of s) ≡ false) (t : ℕ) (b : Machine) where
  last_among : (bs : List Machine) → slice_get bs (length bs - 1) ≡ Some b → Among b bs
  last_among bs is = record { place = length bs - 1; there = is }

  -- it is the state at which the board stands
  pub found_point :
      (machine_of s).cycle ≤ t → last_dispatch (events_to (begun e s script) t) ≡ Some b → b.cycle ≡ t
      → state (interpreter_of e) s script (moves_until (begun e s script) t) ≡ b
  found_point late is here =
      ap (λ c. state (interpreter_of e) s script (moves_until (begun e s script) c)) (sym here)
      ∙ (found e s script begins t late (state (interpreter_of e) s script (moves_until (begun e s script) t)).cycle (λ stop. refl) (record { columns = plain; origins = no_origins }) b
      (last_among (dispatches (events_to (begun e s script) t)) is)).there
