-- Each run is a run of CHIP-8, by the laws of every run and of every state of the interpreter's ROM.
use Rattle.std.proofs.Common.{◌≡◌, ◌⊎◌, inl, inr, ℕ, suc, ◌+◌, ◌<◌, ◌≤◌, true, false, List, [], ◌∷◌, ◌++◌, length, min, take, Option, Some, None, refl, sym, ap, subst, ◌∙◌, arith}
use Rattle.std.proofs.lemmas.Bool.{cases_eq, cases_lt, cases_Bool}
use Rattle.std.proofs.lemmas.List.{length-take, take-append-drop, take-append-le}
use Rattle.std.specs.Option.{option_map}
use Rattle.machine.specs.Board.{Machine, start as start_with}
use Rattle.machine.specs.Keys.{held_at}
use Rattle.machine.specs.Keys.{Event as KeyEvent}
use Rattle.machine.specs.Pictures.{picture_of, windows_ended}
use Rattle.machine.specs.Run.{after_moves, run_to}
use Rattle.chip8_lang.specs.declared.view.Edition.{Edition}
use Rattle.chip8_lang.specs.declared.view.Edition.TheVariants.{Usual, Tall}
use Rattle.chip8_lang.specs.declared.view.Stop.{Stop}
use Rattle.chip8_lang.specs.declared.view.Stop.TheVariants.{MachineCall, Unknown, FetchOutside, ReadOutside, WriteOutside, StackFull, StackEmpty}
use Rattle.chip8_lang.specs.declared.view.StopRecord.{StopRecord}
use Rattle.chip8_lang.specs.Bounds.{boot_bound}
use Rattle.chip8_lang.specs.Events.{Event, events_of, game_run, is_stop, events_behind}
use Rattle.chip8_lang.specs.Events.Event.{Picture, Dispatch, Stopped}
use Rattle.chip8_lang.specs.Places.{state_of}
use Rattle.chip8_lang.specs.Step.{stop_number}
use Rattle.chip8_lang.specs.Timed.{next_point, shown_behind, timed_run}
use Rattle.chip8_lang.specs.View.{opcode_at, view_at}
use Rattle.rom_law.specs.Language.{Begins, GoesOn, IsPast, IsStop, frames_of, nothing_else}
use Rattle.rom_law.specs.Program.{Program, Dispatches}
use Rattle.rom_law.specs.Runs.{record_after, state_after, state_at}
use Rattle.rom_rows.specs.Rom.{image, vip}
use Rattle.rom_run.specs.Laws.{EveryRun as EveryRunOfRom, EveryState, FromAnyStart}
use Rattle.rom_run.specs.Running.{Running, Booting}
use Rattle.rom_run.specs.States.{StateKnown, MayStart, Unstopped}
use Rattle.rom_run.specs.Timeline.{AreShown, EveryTime as EveryTimeOfRom, EveryTimeBehind as BehindOfRom}
use Rattle.rom_run.specs.States.StateKnown.{InBoot, Runs as RunsThere}
use Rattle.rom_run.proofs.Timeline.{next_late}
use Rattle.rom_run.proofs.Waits.{sleeps}
use Rattle.vip_relation.specs.Follows.{FileFits, Fits, Follows, GameFits}
use Rattle.vip_relation.specs.Meets.{HasStopped, MeetsNext}
use Rattle.vip_relation.specs.State.{Start, VipState, events_from, events_left, events_met, events_to, first_events, interpreter, machine_of, run_of}
use Rattle.vip_relation.specs.State.Start.{Reset, Saved}
use Rattle.vip_relation.specs.Stops.{stop_at, stop_numbered, stop_record}
use Rattle.vip_relation.specs.declared.run.Met.{Met}
use Rattle.vip_relation.specs.declared.run.Met.TheVariants as met
use Rattle.vip_relation.proofs.Steps.{Others, begins as no_stop_first, others-to}
use Rattle.vip_relation.proofs.Waits.{last-at-stop}
use Rattle.rom_board.specs.Answers.{BeginsBy, BeginsFrom, GoesOnFrom, Speaks, StepsTo, StopsAt, frames_met, last_met}
use Rattle.rom_board.specs.Boards.{HasHalted, IsKnown}
use Rattle.rom_board.specs.Boards.IsKnown.{Boots, Halts, Runs}
use Rattle.rom_board.specs.Laws.{EveryAnswer, EveryBoard, EveryEvent, EveryRun, EveryStart, EveryTime, EveryTimeBehind, FileMayStart}
use Rattle.rom_board.specs.Program.{IsRunBehind, numbered, program}
use Rattle.rom_board.proofs.Starts.{beginning}
use Rattle.rom_board.proofs.Passed.{NoStop, here, last_after, last_after_stop, last_of_events, met_before, no_stop_met, none_before, some_after, stop_point, to_here}

-- ---- the interpreter

pub is_program : (e : Edition) → vip e ≡ program e
is_program Usual = refl
is_program Tall = refl

-- a dispatch point is behind boot
pub not_reset : (e : Edition) (b : Machine) (game : List ℕ) → MayStart e b → b ≡ start_with game → ⊥
not_reset e b game may is = sleeps (sym (ap (λ (b : Machine). b.latch) is) ∙ may.stands.keeps.lies.latch)

pub stop_numbered-stop_number : (stop : Stop) → stop_numbered (stop_number stop) ≡ stop
stop_numbered-stop_number MachineCall = refl
stop_numbered-stop_number Unknown = refl
stop_numbered-stop_number FetchOutside = refl
stop_numbered-stop_number ReadOutside = refl
stop_numbered-stop_number WriteOutside = refl
stop_numbered-stop_number StackFull = refl
stop_numbered-stop_number StackEmpty = refl

-- with the number of the stop
module _ (x : Program) (script : List KeyEvent) (limit : ℕ) (run : List Machine) where
  goes_on_numbered : (k : ℕ) (b : Machine) (events : List Event) → GoesOn x script limit run nothing_else k b events
      → GoesOn x script limit run numbered k b events
  goes_on_numbered k b [] h = record { soon = h.soon; none_due = h.none_due; shown = h.shown; also_is = tt }
  goes_on_numbered k b (Picture m ∷ events) h = (h.0, h.1, goes_on_numbered (k + 1) b events h.2)
  goes_on_numbered k b (Dispatch c ∷ events) h = (h.0, h.1, goes_on_numbered k c events h.2)
  goes_on_numbered k b (Stopped c ∷ events) h =
      record { comes = h.comes; stop = h.stop; also_is = ap stop_numbered h.stop.halts.number ∙ stop_numbered-stop_number h.stop.stop; last = h.last }

  begins_numbered : (game : List ℕ) (events : List Event) → Begins x script limit run nothing_else game events → Begins x script limit run numbered game events
  begins_numbered game [] h = h
  begins_numbered game (Picture m ∷ events) h = h
  begins_numbered game (Dispatch b ∷ events) h = (h.0, h.1, h.2, goes_on_numbered 0 b events h.3)
  begins_numbered game (Stopped b ∷ events) h = h

pub every_run : EveryRunOfRom → EveryRun
every_run law e game fits bytes script limit =
    subst (λ (x : Program). Begins x script limit (game_run x.interpreter game script limit) numbered game (events_of x.interpreter game script limit))
    (is_program e)
    (begins_numbered (vip e) script limit (game_run (vip e).interpreter game script limit) game (events_of (vip e).interpreter game script limit)
    (law e game fits bytes script limit))

-- the run from a machine state on, of any such interpreter
record RunsBehind (x : Program) (b : Machine) (script : List KeyEvent) (limit : ℕ) : Type 0 where
  stands : Dispatches x b (state_at x b)
  events :
      GoesOn x script limit (run_to x.interpreter.rom (held_at script) b limit) numbered (windows_ended b.cycle) b
      (events_behind x.interpreter script b limit)

pub every_start : FromAnyStart → EveryStart
every_start law e b may script limit =
    let r : RunsBehind (program e) b script limit =
    subst (λ (x : Program). RunsBehind x b script limit) (is_program e)
    (record {
      stands = may.stands;
      events =
          goes_on_numbered (vip e) script limit (run_to (vip e).interpreter.rom (held_at script) b limit) (windows_ended b.cycle) b
          (events_behind (vip e).interpreter script b limit) (law e b may script limit);
    }) in
    record { stands = r.stands; events = r.events }

-- ---- in the cycles of the language's time

pub every_time : EveryTimeOfRom → EveryTime
every_time law e game fits bytes script limit =
    subst (λ (x : Program). AreShown x (game_run x.interpreter game script limit) (events_of x.interpreter game script limit) (timed_run e script limit game))
    (is_program e) (law e game fits bytes script limit)

pub every_time_behind : BehindOfRom → EveryTimeBehind
every_time_behind law e b may script limit =
    subst (λ (x : Program). AreShown x (run_to x.interpreter.rom (held_at script) b limit) (events_behind x.interpreter script b limit)
    (shown_behind e script limit limit (windows_ended b.cycle) b.cycle (state_of e b)))
    (is_program e) (law e b may script limit)

-- ---- the events left

module _ (x : Program) (script : List KeyEvent) (limit : ℕ) (run : List Machine) (game : List ℕ) where
  -- the events behind a last dispatch point, where so many frames have passed; before it none has
  Behind : Option Machine → ℕ → List Event → Type 0
  Behind None k events = (k ≡ 0) × Begins x script limit run numbered game events
  Behind (Some b) k events = GoesOn x script limit run numbered k b events

  -- behind some of them, of which none is a stop point
  split : (last : Option Machine) (k : ℕ) (xs ys : List Event) → NoStop xs → Behind last k (xs ++ ys)
      → Behind (last_after last xs) (k + length (frames_of xs)) ys
  unfolding Behind NoStop last_after
  split last k [] ys none h = subst (λ n. Behind last n ys) same h
    where
      same : k ≡ k + 0
      same = omega arith
  split None k (Picture m ∷ xs) ys none h = absurd h.1
  split None k (Dispatch b ∷ xs) ys none h = subst (λ n. Behind (last_after (Some b) xs) n ys) same (split (Some b) 0 xs ys none h.1.3)
    where
      same : 0 + length (frames_of xs) ≡ k + length (frames_of xs)
      same = omega (arith, h.0)
  split (Some b) k (Picture m ∷ xs) ys none h = subst (λ n. Behind (last_after (Some b) xs) n ys) same (split (Some b) (k + 1) xs ys none h.2)
    where
      same : k + 1 + length (frames_of xs) ≡ k + suc (length (frames_of xs))
      same = omega arith
  split (Some b) k (Dispatch c ∷ xs) ys none h = split (Some c) k xs ys none h.2
  split last k (Stopped c ∷ xs) ys none h = absurd none

-- The events of a run up to a limit are some, of which none is a stop point, and others: these are behind the last dispatch point among the first.
module _ (v : VipState) (limit : ℕ) (xs ys : List Event) (no_stop : NoStop xs) (all : events_to v limit ≡ xs ++ ys)
    (first : length (first_events v.start) ≤ length xs) where
  abbrev x : Program
  x = program v.edition

  -- what is behind a last dispatch point, where so many frames have passed
  pub After : Option Machine → ℕ → Type 0
  After None k = BeginsFrom v limit v.start ys
  After (Some b) k = GoesOn x v.board.script limit (run_of v limit) numbered k b ys

  abbrev passed : ℕ
  passed = windows_ended (machine_of v.start).cycle + length (frames_of xs)

  abbrev run_by : Start → List Machine
  run_by s = run_to (interpreter v).rom (held_at v.board.script) (machine_of s) limit

  module _ (game : List ℕ) (is : v.start ≡ Reset game) (fits : GameFits v.edition game) (law : EveryRun) where
    begins : Behind x v.board.script limit (run_by v.start) game None 0 (xs ++ ys)
    unfolding Behind
    begins =
        let r : Begins x v.board.script limit (run_by (Reset game)) numbered game (events_from (interpreter v) v.board.script (Reset game) limit) =
        law v.edition game fits.fits fits.bytes v.board.script limit in
        let here : Begins x v.board.script limit (run_by v.start) numbered game (events_from (interpreter v) v.board.script v.start limit) =
        subst (λ s. Begins x v.board.script limit (run_by s) numbered game (events_from (interpreter v) v.board.script s limit)) (sym is) r in
        (refl, subst (Begins x v.board.script limit (run_by v.start) numbered game) all here)

    none_before_reset : length (frames_of xs) ≡ passed
    unfolding windows_ended
    none_before_reset =
        let plus : (n : ℕ) → n ≡ 0 + n = λ n. omega arith in
        plus (length (frames_of xs)) ∙ ap (λ s. windows_ended (machine_of s).cycle + length (frames_of xs)) (sym is)

    by_last : (last : Option Machine) → Behind x v.board.script limit (run_by v.start) game last (0 + length (frames_of xs)) ys → After last passed
    unfolding Behind After
    by_last None h = subst (λ s. BeginsFrom v limit s ys) (sym is) h.1
    by_last (Some b) h =
        let plus : (n : ℕ) → 0 + n ≡ n = λ n. omega arith in
        subst (λ k. GoesOn x v.board.script limit (run_of v limit) numbered k b ys) (plus (length (frames_of xs)) ∙ none_before_reset) h

    after_reset_by : After (last_after None xs) passed
    after_reset_by =
        by_last (last_after None xs) (split x v.board.script limit (run_by v.start) game None 0 xs ys no_stop begins)

  module _ (file : List ℕ) (is : v.start ≡ Saved file) (fits : FileFits v.edition file) (law : EveryStart) (may : FileMayStart) where
    abbrev b : Machine
    b = machine_of (Saved file)

    ahead : IsRunBehind v.edition b v.board.script limit numbered
    ahead = law v.edition b (may v.edition file fits.bytes fits.accepted) v.board.script limit

    -- the dispatch point is the first of them
    record Rest : Type 0 where
      others : List Event
      is_first : xs ≡ Dispatch b ∷ others
      rest : events_behind (interpreter v) v.board.script b limit ≡ others ++ ys

    the_rest : Rest
    the_rest =
        by_list xs refl (ap (λ s. events_from (interpreter v) v.board.script s limit) (sym is) ∙ all) (omega (arith, first, ap (λ s. length (first_events s)) is))
      where
        heads : (c d : Event) (es fs : List Event) → c ∷ es ≡ d ∷ fs → c ≡ d
        heads c d es fs h = cc

        tails : (c d : Event) (es fs : List Event) → c ∷ es ≡ d ∷ fs → es ≡ fs
        tails c d es fs h = cc

        by_list : (zs : List Event) → xs ≡ zs → Dispatch b ∷ events_behind (interpreter v) v.board.script b limit ≡ xs ++ ys → 1 ≤ length xs → Rest
        by_list [] none h some = absurd (omega (arith, some, ap length none))
        by_list (z ∷ zs) are h some =
            let whole : Dispatch b ∷ events_behind (interpreter v) v.board.script b limit ≡ z ∷ (zs ++ ys) = h ∙ ap (λ es. es ++ ys) are in
            record {
              others = zs;
              is_first = are ∙ ap (λ z. z ∷ zs) (sym (heads (Dispatch b) z _ _ whole));
              rest = tails (Dispatch b) z _ _ whole;
            }

    by_saved : (last : Option Machine) (r : Rest) → last_after (Some b) r.others ≡ last
        → Behind x v.board.script limit (run_by v.start) [] last (windows_ended b.cycle + length (frames_of r.others)) ys → After last passed
    unfolding Behind After
    by_saved None r none h = absurd (some_after b r.others none)
    by_saved (Some c) r some h =
        let count : windows_ended b.cycle + length (frames_of r.others) ≡ passed =
        ap (λ es. windows_ended b.cycle + length (frames_of es)) (sym r.is_first)
        ∙ ap (λ s. windows_ended (machine_of s).cycle + length (frames_of xs)) (sym is) in
        subst (λ k. GoesOn x v.board.script limit (run_of v limit) numbered k c ys) count h

    after_saved : After (last_after None xs) passed
    unfolding Behind NoStop last_after
    after_saved =
        let r : Rest = the_rest in
        let here : GoesOn x v.board.script limit (run_by v.start) numbered (windows_ended b.cycle) b (r.others ++ ys) =
        subst (λ s. GoesOn x v.board.script limit (run_by s) numbered (windows_ended b.cycle) b (r.others ++ ys)) (sym is)
        (subst (GoesOn x v.board.script limit (run_by (Saved file)) numbered (windows_ended b.cycle) b) r.rest ahead.events) in
        subst (λ es. After (last_after None es) passed) (sym r.is_first)
        (by_saved (last_after (Some b) r.others) r refl
        (split x v.board.script limit (run_by v.start) [] (Some b) (windows_ended b.cycle) r.others ys (subst NoStop r.is_first no_stop) here))

  pub after : (s : Start) → v.start ≡ s → Fits v.edition s → EveryRun → EveryStart → FileMayStart → After (last_after None xs) passed
  after (Reset game) is fits run start may = after_reset_by game is fits run
  after (Saved file) is fits run start may = after_saved file is fits start may

module _ (run : EveryRun) (start : EveryStart) (may : FileMayStart) where
  module _ (v : VipState) (limit : ℕ) (f : Follows v) (goes_on : HasStopped v → ⊥) (within : v.board.machine.cycle ≤ limit) where
    -- all events up to the limit are those met and those left
    all_events : events_to v limit ≡ events_met v ++ events_left v limit
    all_events =
        sym (take-append-drop v.met (events_to v limit))
        ∙ ap (λ es. es ++ events_left v limit) (ap (take v.met) o.all ∙ take-append-le v.met (events_to v v.board.machine.cycle) o.others f.within)
      where
        o : Others v f limit
        o = others-to v f limit within

    some_met : length (first_events v.start) ≤ length (events_met v)
    some_met =
        let size : length (events_met v) ≡ min v.met (length (events_to v v.board.machine.cycle)) = length-take v.met (events_to v v.board.machine.cycle) in
        omega (arith, f.first, f.within, size)

    by_last_met : (last : Option Machine)
        → After v limit (events_met v) (events_left v limit) (no_stop_met v f goes_on) all_events some_met last (frames_met v)
        → GoesOnFrom v limit last (events_left v limit)
    unfolding After
    by_last_met None h = h
    by_last_met (Some b) h = h

    pub goes_on_from : GoesOnFrom v limit (last_met v) (events_left v limit)
    goes_on_from =
        subst (λ last. GoesOnFrom v limit last (events_left v limit)) (last_of_events (events_met v))
        (by_last_met (last_after None (events_met v))
        (after v limit (events_met v) (events_left v limit) (no_stop_met v f goes_on) all_events some_met v.start refl f.fits run start may))

  pub every_event : EveryEvent
  every_event v limit f goes_on within = goes_on_from v limit f goes_on within

  -- ---- the board

  module _ (law : EveryState) (v : VipState) (f : Follows v) where
    abbrev rom_machine : Program → Machine
    rom_machine x = state_after x v.board.script (machine_of v.start) v.moves

    there : rom_machine (vip v.edition) ≡ v.board.machine
    there = ap rom_machine (is_program v.edition) ∙ sym f.machine

    no_stop_then : (k : ℕ) → k < v.moves → is_stop (vip v.edition).interpreter (state_after (vip v.edition) v.board.script (machine_of v.start) k) ≡ false
    no_stop_then k l =
        ap (λ (x : Program). is_stop x.interpreter (state_after x v.board.script (machine_of v.start) k)) (is_program v.edition) ∙ f.runs k l

    unstopped : is_stop (interpreter v) v.board.machine ≡ false → Unstopped (vip v.edition) v.board.script (machine_of v.start) (suc v.moves)
    unstopped runs k l = go (cases_eq k v.moves)
      where
        go : (k ≡ v.moves) ⊎ (k ≡ v.moves → ⊥)
            → is_stop (vip v.edition).interpreter (state_after (vip v.edition) v.board.script (machine_of v.start) k) ≡ false
        go (inl last) =
            ap (λ n. is_stop (vip v.edition).interpreter (state_after (vip v.edition) v.board.script (machine_of v.start) n)) last
            ∙ ap (is_stop (vip v.edition).interpreter) there ∙ ap (λ (x : Program). is_stop x.interpreter v.board.machine) (is_program v.edition) ∙ runs
        go (inr d) = no_stop_then k (omega (arith, l, d))

    -- in boot
    booting : (g game : List ℕ) (c : Machine) → GameFits v.edition g → start_with g ≡ start_with game → Booting v.edition v.board.script game c
        → Booting v.edition v.board.script g c
    booting g game c fits same o =
        record {
          room = fits.fits;
          bytes = fits.bytes;
          k = o.k;
          inside = o.inside;
          is = o.is
              ∙ ap (λ b. after_moves (image v.edition) (held_at v.board.script) b o.k) (sym same);
        }

    boots : (s : Start) → v.start ≡ s → Fits v.edition s → is_stop (interpreter v) v.board.machine ≡ false → (game : List ℕ)
        → machine_of v.start ≡ start_with game → Booting v.edition v.board.script game (rom_machine (vip v.edition)) → IsKnown v
    boots (Reset g) is fits runs game same o =
        let begins : start_with g ≡ start_with game = ap machine_of (sym is) ∙ same in
        Boots g is runs (subst (Booting v.edition v.board.script g) there (booting g game (rom_machine (vip v.edition)) fits begins o))
    boots (Saved file) is fits runs game same o =
        absurd (not_reset v.edition (machine_of (Saved file)) game (may v.edition file fits.bytes fits.accepted) (ap machine_of (sym is) ∙ same))

    known : is_stop (interpreter v) v.board.machine ≡ false → StateKnown v.edition v.board.script (machine_of v.start) v.moves → IsKnown v
    known runs (InBoot game same few o) = boots v.start refl f.fits runs game same o
    known runs (RunsThere r) =
        Runs runs (
        subst (λ (x : Program). Running v.edition v.board.script v.board.machine (record_after x v.board.script (machine_of v.start) v.moves))
        (is_program v.edition) (
        subst (λ b. Running v.edition v.board.script b (record_after (vip v.edition) v.board.script (machine_of v.start) v.moves)) there r))

    -- the stop
    all_here : is_stop (interpreter v) v.board.machine ≡ true → events_to v v.board.machine.cycle ≡ met_before v f ++ Stopped (here v f) ∷ []
    all_here stop =
        to_here v f
        ∙ ap (λ es. met_before v f ++ es)
        (stop_point (interpreter v) v.start v.board.script (no_stop_first v f) v.moves (ap (is_stop (interpreter v)) (sym f.machine) ∙ stop))

    first_before : is_stop (interpreter v) v.board.machine ≡ true → length (first_events v.start) ≤ length (met_before v f)
    first_before stop = by_start v.start (met_before v f) (all_here stop)
      where
        by_start : (s : Start) (xs : List Event) → events_from (interpreter v) v.board.script s v.board.machine.cycle ≡ xs ++ Stopped (here v f) ∷ []
            → length (first_events s) ≤ length xs
        by_start (Reset game) xs h = omega arith
        by_start (Saved file) [] h = cc
        by_start (Saved file) (x ∷ xs) h = omega arith

    by_last_point : (stop : is_stop (interpreter v) v.board.machine ≡ true) (last : Option Machine) → last_after None (met_before v f) ≡ last
        → After v v.board.machine.cycle (met_before v f) (Stopped (here v f) ∷ []) (none_before v f) (all_here stop) (first_before stop) last
        (windows_ended (machine_of v.start).cycle + length (frames_of (met_before v f)))
        → HasHalted v
    unfolding After
    by_last_point stop None is h = absurd (never v.start h)
      where
        never : (s : Start) → BeginsFrom v v.board.machine.cycle s (Stopped (here v f) ∷ []) → ⊥
        never (Reset game) h = absurd h
        never (Saved file) h = absurd h
    by_last_point stop (Some b) is h =
        record {
          here = stop;
          b = b;
          told =
              last-at-stop v f stop
              ∙ ap (option_map (view_at v.edition))
              (sym (last_of_events (events_to v v.board.machine.cycle)) ∙ ap (last_after None) (all_here stop)
              ∙ last_after_stop None (met_before v f) (here v f) ∙ is);
          stop = subst (IsStop (program v.edition) b) (sym f.machine) h.stop;
        }

    halted : is_stop (interpreter v) v.board.machine ≡ true → HasHalted v
    halted stop =
        by_last_point stop (last_after None (met_before v f)) refl
        (after v v.board.machine.cycle (met_before v f) (Stopped (here v f) ∷ []) (none_before v f) (all_here stop) (first_before stop) v.start refl f.fits
        run start may)

    board_is : (is_stop (interpreter v) v.board.machine ≡ true) ⊎ (is_stop (interpreter v) v.board.machine ≡ false) → IsKnown v
    board_is (inl stop) = Halts (halted stop)
    board_is (inr runs) = known runs (law v.edition v.board.script (machine_of v.start) (beginning v.edition v.start f.fits) v.moves (unstopped runs))

  pub every_board : EveryState → EveryBoard
  every_board law v f = board_is law v f (cases_Bool (is_stop (interpreter v) v.board.machine))

-- ---- an answer

module _ (limit : ℕ) (old new : VipState) where
  abbrev e : Edition
  e = old.edition

  -- what a stop behind the dispatch point b is named with
  abbrev named : Machine → Machine → Stop → StopRecord
  named b c stop = record { stop = stop; pc = (state_of e b).pc; opcode = opcode_at e (state_of e b); cycle = c.cycle }

  named_is : (b c : Machine) (stop : Stop) → old.last ≡ Some (view_at e b) → stop_at c ≡ stop → stop_record old.last c ≡ named b c stop
  unfolding view_at
  named_is b c stop told is = ap (λ last. stop_record last c) told ∙ ap (named b c) is

  answer :
      (last : Option Machine) (events : List Event) (a : Met) → old.last ≡ option_map (view_at e) last
      → MeetsNext limit old new events a → GoesOnFrom old limit last events → Speaks old limit new last a
  answer None [] met.End told m h = ends_by old.start h
    where
      ends_by : (s : Start) → BeginsFrom old limit s [] → limit < boot_bound
      ends_by (Reset game) h = h.0
      ends_by (Saved file) h = absurd h
  answer (Some b) [] met.End told m h = record { soon = h.soon; none_due = go (cases_lt limit b.cycle) }
    where
      go : (limit < b.cycle) ⊎ (b.cycle ≤ limit) → IsPast limit (next_point e old.board.script limit b.cycle (state_of e b))
      go (inl past) = next_late e old.board.script limit b.cycle (state_of e b) past
      go (inr here) = h.none_due here
  answer last [] met.Picture told m h = absurd m
  answer last [] met.Dispatch told m h = absurd m
  answer last [] (met.Stopped stop) told m h = absurd m
  answer None (Picture k ∷ es) a told m h = absurd (never old.start h)
    where
      never : (s : Start) → BeginsFrom old limit s (Picture k ∷ es) → ⊥
      never (Reset game) h = absurd h
      never (Saved file) h = absurd h
  answer (Some b) (Picture k ∷ es) met.Picture told m h =
      record { picture = picture_of (interpreter old).rom (run_of old limit) k; finished = m.picture; shows = h.1 }
  answer (Some b) (Picture k ∷ es) met.Dispatch told m h = absurd m
  answer (Some b) (Picture k ∷ es) (met.Stopped stop) told m h = absurd m
  answer (Some b) (Picture k ∷ es) met.End told m h = absurd m
  answer None (Dispatch c ∷ es) met.Dispatch told m h = subst (BeginsBy old old.start) (sym m.machine) (begins_by old.start h)
    where
      begins_by : (s : Start) → BeginsFrom old limit s (Dispatch c ∷ es) → BeginsBy old s c
      begins_by (Reset game) h = record { stands = h.0; soon = h.1 }
      begins_by (Saved file) h = absurd h
  answer (Some b) (Dispatch c ∷ es) met.Dispatch told m h = subst (StepsTo old b) (sym m.machine) (record { step = h.1; soon = h.0.soon })
  answer last (Dispatch c ∷ es) met.Picture told m h = absurd m
  answer last (Dispatch c ∷ es) (met.Stopped stop) told m h = absurd m
  answer last (Dispatch c ∷ es) met.End told m h = absurd m
  answer None (Stopped c ∷ es) a told m h = absurd (never old.start h)
    where
      never : (s : Start) → BeginsFrom old limit s (Stopped c ∷ es) → ⊥
      never (Reset game) h = absurd h
      never (Saved file) h = absurd h
  answer (Some b) (Stopped c ∷ es) (met.Stopped stop) told m h =
      subst (λ z. StopsAt old b z stop) (sym m.machine)
      (record { stop = h.stop; soon = h.comes.soon; named = m.stop ∙ named_is b c h.stop.stop told h.also_is })
  answer (Some b) (Stopped c ∷ es) met.Picture told m h = absurd m
  answer (Some b) (Stopped c ∷ es) met.Dispatch told m h = absurd m
  answer (Some b) (Stopped c ∷ es) met.End told m h = absurd m

pub every_answer : EveryEvent → EveryAnswer
every_answer law limit old new a f goes_on within m = answer limit old new (last_met old) (events_left old limit) a f.last m (law old limit f goes_on within)
