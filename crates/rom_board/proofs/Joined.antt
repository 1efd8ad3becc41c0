-- A run is that up to its last dispatch point, joined with that from the file which is saved there.
use Rattle.std.proofs.lemmas.Bool.Decides.{nat_tests}
use Rattle.std.proofs.Common.{◌≡◌, ◌⊎◌, inl, inr, ℕ, suc, ◌<◌, ◌≤◌, Bool, true, false, List, [], ◌∷◌, ◌++◌, refl, sym, ap, ◌∙◌, subst, arith, append_assoc}
use Rattle.std.specs.Prelude.{◌==◌, ◌&&◌, if◌then◌else◌, nat_le, Option, Some, None}
use Rattle.std.specs.Option.{option_map}
use Rattle.std.proofs.lemmas.Grind.{flat_map-append}
use Rattle.machine.specs.Board.{Machine, case_of, move}
use Rattle.machine.specs.Instruction.{at}
use Rattle.machine.specs.Keys.{Event as KeyEvent, held_at}
use Rattle.machine.specs.Pictures.{place, interrupt_place, window_place}
use Rattle.machine.specs.Run.{run_to}
use Rattle.machine.proofs.Runs.{later-move, run_to-next, run_to-past}
use Rattle.chip8_lang.specs.declared.view.Edition.{Edition}
use Rattle.chip8_lang.specs.Events.{Event, events_at, events_behind, is_dispatch, is_instruction, is_stop}
use Rattle.chip8_lang.specs.Events.Event.{Picture, Dispatch, Stopped}
use Rattle.chip8_lang.specs.Places.{Interpreter}
use Rattle.chip8_image.specs.Interpreters.{interpreter_of}
use Rattle.rom_run.specs.States.{MayStart}
use Rattle.rom_parts.specs.timer.Frame.{IsOutside}
use Rattle.rom_parts.proofs.timer.Frame.{case_runs}
use Rattle.vip_board.proofs.Along.{later-run, run-last, run-split, states-more}
use Rattle.vip_relation.specs.Follows.{Fits, last_dispatch}
use Rattle.vip_relation.specs.Points.{point_of, point_events}
use Rattle.vip_relation.specs.State.Start.{Reset, Saved}
use Rattle.vip_relation.specs.State.{Start, events_from, first_events, machine_of, most_cycles}
use Rattle.vip_relation.specs.declared.point.Point.TheVariants.{Dispatch as DispatchPoint, Stop as StopPoint, Other as OtherPoint}
use Rattle.vip_relation.proofs.Beginning.{begins-early, begins-running}
use Rattle.vip_relation.proofs.Past.{earlier, events-last, events-on, past, past-first, pictures, point, Runs, state}
use Rattle.vip_text.specs.StateFile.{bank_in, shown, IsAccepted, IsCycle}
use Rattle.vip_show.specs.Endings.{ending_of}
use Rattle.vip_show.specs.Output.{picture_piece, picture_pieces}
use Rattle.vip_show.specs.StateOutput.{saved_file}
use Rattle.vip_show.specs.Written.{file_of}
use Rattle.vip_show.proofs.Points.{no-stop, one_more}
use Rattle.rom_board.specs.Saved.{AgreeBefore, IsGoneOnWith, Joins, SavedJoins}
use Rattle.rom_board.proofs.Agreeing.{past-same, state-same}
use Rattle.rom_board.proofs.Before.{Before, From, before-states, early-more, early-past, from-run, events-before, late-events, pieces-early, pieces-late}
use Rattle.rom_board.proofs.Copied.{accepted-file_of, shown-file_of, starts_by}
use Rattle.rom_board.proofs.Passed.{NoStop, before_point, last_after, last_of_events, no_stop_before}
use Rattle.rom_board.proofs.LastPoint.{LastAt, Reaches, ending_behind, from_start, last_at, not_later, point_is}

-- ---- the start of a run

all_three : (x y z : Bool) → x ≡ true → y ≡ true → z ≡ true → ((x && y) && z) ≡ true
all_three true true true h g k = refl
all_three true true false h g k = cc
all_three true false z h g k = cc
all_three false y z h g k = cc

equal : (n m : ℕ) → n ≡ m → (n == m) ≡ true
equal n m h = grind (arith, nat_tests)

-- an accepted file's machine is at a dispatch point
module _ (e : Edition) (f : List ℕ) (a : IsAccepted e f) where
  outside : IsOutside (shown f).cycle
  outside = by_place a.cycle.outside
    where
      by_place : (place (shown f).cycle < interrupt_place) ⊎ (window_place ≤ place (shown f).cycle) → IsOutside (shown f).cycle
      by_place (inl early) = inl (omega (arith, early))
      by_place (inr late) = inr late

  not_there : place (shown f).cycle ≡ interrupt_place → ⊥
  not_there there = by_place a.cycle.outside
    where
      by_place : (place (shown f).cycle < interrupt_place) ⊎ (window_place ≤ place (shown f).cycle) → ⊥
      by_place (inl early) = omega (arith, early, there)
      by_place (inr late) = omega (arith, late, there)

  fetches : at (shown f).regs 4 ≡ (interpreter_of e).fetch
  unfolding bank_in
  fetches = a.machine.r4

  pub file_dispatches : is_dispatch (interpreter_of e) (shown f) ≡ true
  file_dispatches =
      all_three (is_instruction (case_of (shown f))) ((shown f).regs.p == 4) (at (shown f).regs 4 == (interpreter_of e).fetch)
      (ap is_instruction (case_runs (shown f) refl refl outside not_there refl))
      (equal (shown f).regs.p 4 a.machine.p)
      (equal (at (shown f).regs 4) (interpreter_of e).fetch fetches)

first_point : (stop dispatch : Bool) (b : Machine) → stop ≡ false → dispatch ≡ true
    → Dispatch b ∷ [] ≡ point_events (if stop then StopPoint else if dispatch then DispatchPoint else OtherPoint) b
first_point true dispatch b s d = cc
first_point false true b s d = refl
first_point false false b s d = cc

first_is : (e : Edition) (s : Start) → Fits e s
    → first_events s ≡ point_events (point_of (interpreter_of e) (machine_of s)) (machine_of s)
first_is e (Reset game) fits = refl
first_is e (Saved f) fits =
    first_point (is_stop (interpreter_of e) (shown f)) (is_dispatch (interpreter_of e) (shown f)) (shown f) (begins-running e (Saved f) fits)
    (file_dispatches e f fits.accepted)

-- ---- the last dispatch point of two lists of events that are joined at one

last_across : (last : Option Machine) (xs : List Event) (b : Machine) (ys : List Event)
    → last_after last (xs ++ Dispatch b ∷ ys) ≡ last_after (Some b) ys
unfolding last_after
last_across last [] b ys = refl
last_across last (Picture m ∷ xs) b ys = last_across last xs b ys
last_across last (Dispatch c ∷ xs) b ys = last_across (Some c) xs b ys
last_across last (Stopped c ∷ xs) b ys = last_across last xs b ys

last_joined : (xs : List Event) (b : Machine) (ys : List Event) → last_dispatch (xs ++ Dispatch b ∷ ys) ≡ last_dispatch (Dispatch b ∷ ys)
last_joined xs b ys =
    sym (last_of_events (xs ++ Dispatch b ∷ ys)) ∙ last_across None xs b ys ∙ sym (last_across None [] b ys) ∙ last_of_events (Dispatch b ∷ ys)

-- ---- a run behind its n-th state, a dispatch point

no_stop_none : NoStop []
unfolding NoStop
no_stop_none = tt

module _ (e : Edition) (s : Start) (script : List KeyEvent) (n : ℕ) (runs : Runs (interpreter_of e) s script n)
    (dispatch : is_dispatch (interpreter_of e) (state (interpreter_of e) s script n) ≡ true)
    (here : point (interpreter_of e) s script n ≡ Dispatch (state (interpreter_of e) s script n) ∷ [])
    (cycle : IsCycle (state (interpreter_of e) s script n).cycle)
    (limit : ℕ) (within : (state (interpreter_of e) s script n).cycle ≤ limit) where
  abbrev i : Interpreter
  i = interpreter_of e

  abbrev b : Machine
  b = state i s script n

  abbrev tail : List Machine
  tail = run_to i.rom (held_at script) (move i.rom (held_at script) b) limit

  abbrev onward : List Machine
  onward = run_to i.rom (held_at script) b limit

  abbrev run : ℕ → List Machine
  run later = run_to i.rom (held_at script) (machine_of s) later

  -- the run, cut before its n-th state, and behind it
  onward_is : onward ≡ b ∷ tail
  onward_is = run_to-next i.rom (held_at script) limit b within

  cut_before : run limit ≡ earlier i s script n ++ onward
  cut_before = run-split i.rom (held_at script) limit n (machine_of s) within

  regroup : (xs : List Machine) (x : Machine) (ys : List Machine) → xs ++ (x ∷ ys) ≡ (xs ++ x ∷ []) ++ ys
  regroup xs x ys = simp append_assoc

  run_here : run b.cycle ≡ earlier i s script (suc n)
  run_here = run-last i.rom (held_at script) b.cycle n (machine_of s) (omega arith) (later-move i.rom (held_at script) b)

  cut_behind : run limit ≡ run b.cycle ++ tail
  cut_behind =
      cut_before ∙ ap (λ bs. earlier i s script n ++ bs) onward_is ∙ regroup (earlier i s script n) b tail
      ∙ ap (λ bs. bs ++ tail) (sym (states-more i.rom (held_at script) n (machine_of s)))
      ∙ ap (λ bs. bs ++ tail) (sym run_here)

  abbrev next : Machine
  next = move i.rom (held_at script) b

  in_turn : b.cycle ≤ next.cycle
  in_turn = omega (arith, later-move i.rom (held_at script) b)

  from_tail : From b.cycle tail
  from_tail = from-run i.rom (held_at script) b.cycle limit next in_turn

  ended_by : Before i.rom b.cycle (earlier i s script n)
  ended_by = before-states i.rom (held_at script) b.cycle n (machine_of s) (omega arith)

  -- the events
  abbrev up_to : List Event
  up_to = past i s script (suc n)

  abbrev behind : List Event
  behind = events_behind i script b limit

  up_to_is : events_from i script s b.cycle ≡ up_to
  up_to_is = events-last i s script b.cycle n (omega arith) (later-move i.rom (held_at script) b) runs

  all_are : events_from i script s limit ≡ up_to ++ behind
  all_are =
      events-on i s script limit n within (one_more i s script n runs (no-stop i b dispatch))
      ∙ ap (λ bs. up_to ++ events_at i bs b.cycle tail) cut_before
      ∙ ap (λ es. up_to ++ es) (events-before i b.cycle cycle (earlier i s script n) onward ended_by b.cycle tail (omega arith) from_tail)

  pub events-joined : events_from i script s limit ≡ events_from i script s b.cycle ++ behind
  events-joined = all_are ∙ ap (λ es. es ++ behind) (sym up_to_is)

  abbrev pieces : List Machine → List Event → List (List ℕ)
  pieces bs es = picture_pieces i.rom bs es

  pieces_append : (bs : List Machine) (xs ys : List Event) → pieces bs (xs ++ ys) ≡ pieces bs xs ++ pieces bs ys
  unfolding picture_pieces
  pieces_append bs xs ys = flat_map-append (picture_piece i.rom bs) xs ys

  none_at_point : (bs : List Machine) (es : List Event) → pieces bs (Dispatch b ∷ es) ≡ pieces bs es
  unfolding picture_pieces
  none_at_point bs es = refl

  pub pictures-joined : pieces (run limit) (events_from i script s limit)
      ≡ pieces (run b.cycle) (events_from i script s b.cycle) ++ pieces onward (Dispatch b ∷ behind)
  pictures-joined =
      ap (pieces (run limit)) all_are
      ∙ pieces_append (run limit) up_to behind
      ∙ ap (λ ps. ps ++ pieces (run limit) behind)
      (ap (λ bs. pieces bs up_to) cut_behind
      ∙ pieces-early i.rom next.cycle (run b.cycle) tail (later-run i.rom (held_at script) limit next) up_to
      (early-more b.cycle next.cycle in_turn up_to (early-past i s script n (suc n) (omega arith)))
      ∙ ap (pieces (run b.cycle)) (sym up_to_is))
      ∙ ap (λ ps. pieces (run b.cycle) (events_from i script s b.cycle) ++ ps)
      (ap (λ bs. pieces bs behind) cut_before
      ∙ pieces-late i.rom b.cycle (earlier i s script n) onward ended_by behind (late-events i b.cycle cycle onward b.cycle tail (omega arith) from_tail)
      ∙ sym (none_at_point onward behind))

  -- the events before the dispatch point
  abbrev before : List Event
  before = past i s script n ++ pictures i s script n

  up_to_point : past i s script (suc n) ≡ before ++ Dispatch b ∷ []
  unfolding past
  up_to_point = ap (λ ps. before ++ ps) here

  split : events_from i script s limit ≡ before ++ Dispatch b ∷ behind
  split = all_are ∙ ap (λ es. es ++ behind) up_to_point ∙ append_assoc before (Dispatch b ∷ []) behind

  none_before : NoStop before
  unfolding before_point
  none_before = no_stop_before i s script n runs

  pub ends-joined : ending_of e (events_from i script s limit) ≡ ending_of e (Dispatch b ∷ behind)
  ends-joined =
      ap (ending_of e) split ∙ ending_behind e 0 None before b behind none_before
      ∙ sym (ending_behind e 0 None [] b behind no_stop_none)

  pub file-joined : saved_file e (events_from i script s limit) ≡ saved_file e (Dispatch b ∷ behind)
  file-joined = ap (saved_file e) split ∙ ap (option_map (file_of e)) (last_joined before b behind)

-- ---- what is saved of a run

module _ (e : Edition) (s : Start) (fits : Fits e s) (script : List KeyEvent) (limit : ℕ) (low : limit ≤ most_cycles) (b : Machine)
    (last : last_dispatch (events_from (interpreter_of e) script s limit) ≡ Some b) where
  abbrev j : Interpreter
  j = interpreter_of e

  abbrev begins : is_stop j (machine_of s) ≡ false
  begins = begins-running e s fits

  abbrev first : first_events s ≡ point_events (point_of j (machine_of s)) (machine_of s)
  first = first_is e s fits

  -- its last state; where the limit is below the cycle of a saved state, that state
  record Comes : Type 0 where
    n : ℕ
    runs : Runs j s script n
    early : (state j s script n).cycle ≤ most_cycles
    events : events_from j script s limit ≡ past j s script (suc n)

  comes : Comes
  comes = by_test (nat_le (machine_of s).cycle limit) refl
    where
      none_behind : (s : Start) → limit < (machine_of s).cycle → events_from j script s limit ≡ first_events s
      none_behind (Reset game) below = absurd (omega (arith, below))
      none_behind (Saved f) below =
          ap (λ bs. Dispatch (shown f) ∷ events_at j (run_to j.rom (held_at script) (shown f) limit) (shown f).cycle bs)
          (run_to-past j.rom (held_at script) limit (move j.rom (held_at script) (shown f))
          (omega (arith, below, later-move j.rom (held_at script) (shown f))))

      by_test : (t : Bool) → nat_le (machine_of s).cycle limit ≡ t → Comes
      by_test true h =
          let r : Reaches j s script begins first limit = from_start j s script begins first limit (grind (arith, nat_tests)) in
          record { n = r.n; runs = r.runs; early = omega (arith, r.within, low); events = r.events }
      by_test false h =
          record {
            n = 0;
            runs = λ k below. absurd (omega (arith, below));
            early = begins-early e s fits;
            events = none_behind s (grind (arith, nat_tests)) ∙ sym (past-first j s script);
          }

  r : Comes
  r = comes

  l : LastAt j s script begins first (suc r.n) b
  l = last_at j s script begins first (suc r.n) b (ap last_dispatch (sym r.events) ∙ last)

  abbrev c : Machine
  c = state j s script l.n

  runs_to : Runs j s script l.n
  runs_to k below = r.runs k (omega (arith, below, l.below))

  in_time : b.cycle ≤ most_cycles
  in_time =
      let early = not_later j s script begins first l.n r.n l.below in
      omega (arith, early, r.early, ap (λ (b : Machine). b.cycle) l.is)

  starts : MayStart e b
  starts = subst (MayStart e) (sym l.is) (starts_by e s script l.n fits runs_to l.dispatch)

  shown_is : shown (file_of e b) ≡ b
  shown_is = shown-file_of e b starts in_time

  accepted : IsAccepted e (file_of e b)
  accepted = accepted-file_of e b starts in_time

  at_state : shown (file_of e b) ≡ c
  at_state = shown_is ∙ l.is

  cycle_is : IsCycle b.cycle
  cycle_is = subst (λ (m : Machine). IsCycle m.cycle) shown_is accepted.cycle

  module _ (other : List KeyEvent) (agree : AgreeBefore (shown (file_of e b)).cycle script other) where
    agree_here : (t key : ℕ) → t < c.cycle → held_at script t key ≡ held_at other t key
    agree_here t key under = agree t key (omega (arith, under, ap (λ (m : Machine). m.cycle) at_state))

    there : state j s other l.n ≡ c
    there = state-same j s script other l.n agree_here l.n (omega arith)

    is : shown (file_of e b) ≡ state j s other l.n
    is = at_state ∙ sym there

    other_runs : Runs j s other l.n
    other_runs k below = ap (is_stop j) (state-same j s script other l.n agree_here k (omega (arith, below))) ∙ runs_to k below

    other_dispatch : is_dispatch j (state j s other l.n) ≡ true
    other_dispatch = ap (is_dispatch j) there ∙ l.dispatch

    other_cycle : IsCycle (state j s other l.n).cycle
    other_cycle = subst (λ (m : Machine). IsCycle m.cycle) (l.is ∙ sym there) cycle_is

    other_point : point j s other l.n ≡ Dispatch (state j s other l.n) ∷ []
    other_point =
        point_is j s other begins first l.n
        ∙ sym (first_point (is_stop j (state j s other l.n)) (is_dispatch j (state j s other l.n)) (state j s other l.n)
        (no-stop j (state j s other l.n) other_dispatch) other_dispatch)

    same_up_to : events_from j other s (shown (file_of e b)).cycle ≡ events_from j script s (shown (file_of e b)).cycle
    same_up_to =
        ap (λ (m : Machine). events_from j other s m.cycle) is
        ∙ events-last j s other (state j s other l.n).cycle l.n (omega arith) (later-move j.rom (held_at other) (state j s other l.n)) other_runs
        ∙ past-same j s script other l.n agree_here (suc l.n) (omega arith)
        ∙ sym (events-last j s script c.cycle l.n (omega arith) (later-move j.rom (held_at script) c) runs_to)
        ∙ sym (ap (λ (m : Machine). events_from j script s m.cycle) at_state)

    joins_at : (later : ℕ) → (shown (file_of e b)).cycle ≤ later → Joins e s (file_of e b) other later
    joins_at later within =
        let low_enough : (state j s other l.n).cycle ≤ later = subst (λ (m : Machine). m.cycle ≤ later) is within in
        record {
          events =
              subst (λ (m : Machine). events_from j other s later ≡ events_from j other s m.cycle ++ events_behind j other m later) (sym is)
              (events-joined e s other l.n other_runs other_dispatch other_point other_cycle later low_enough);
          pictures =
              subst
              (λ (m : Machine). picture_pieces j.rom (run_to j.rom (held_at other) (machine_of s) later) (events_from j other s later)
              ≡ picture_pieces j.rom (run_to j.rom (held_at other) (machine_of s) m.cycle) (events_from j other s m.cycle)
              ++ picture_pieces j.rom (run_to j.rom (held_at other) m later) (Dispatch m ∷ events_behind j other m later)) (sym is)
              (pictures-joined e s other l.n other_runs other_dispatch other_point other_cycle later low_enough);
          ending =
              subst (λ (m : Machine). ending_of e (events_from j other s later) ≡ ending_of e (Dispatch m ∷ events_behind j other m later)) (sym is)
              (ends-joined e s other l.n other_runs other_dispatch other_point other_cycle later low_enough);
          file =
              subst (λ (m : Machine). saved_file e (events_from j other s later) ≡ saved_file e (Dispatch m ∷ events_behind j other m later)) (sym is)
              (file-joined e s other l.n other_runs other_dispatch other_point other_cycle later low_enough);
        }

  gone_on_with : IsGoneOnWith e s script limit (file_of e b)
  gone_on_with =
      record {
        accepted = accepted;
        shows = last ∙ ap Some (sym shown_is);
        same = same_up_to;
        joins = joins_at;
      }

pub saved_joins : SavedJoins
saved_joins e s fits script limit low f saved = go (last_dispatch (events_from (interpreter_of e) script s limit)) refl saved
  where
    go : (last : Option Machine) → last_dispatch (events_from (interpreter_of e) script s limit) ≡ last
        → option_map (file_of e) last ≡ Some f → IsGoneOnWith e s script limit f
    go None is same = absurd (cc)
    go (Some b) is same = subst (IsGoneOnWith e s script limit) (the_file same) (gone_on_with e s fits script limit low b is)
      where
        the_file : Some (file_of e b) ≡ Some f → file_of e b ≡ f
        the_file h = cc
