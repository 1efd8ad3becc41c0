-- The commands of a run behind a dispatch point, and those of the run that begins with a file of the machine there: place by place of both.
use Rattle.std.proofs.Common.{◌≡◌, ℕ, zero, suc, ◌+◌, ◌-◌, ◌≤◌, Bool, true, false, List, [], ◌∷◌, ◌++◌, length, drop, map, refl, sym, ap, ◌∙◌, subst, arith, Option, Some, None, append_assoc, append-nil, length-append}
use Rattle.std.specs.Prelude.{◌==◌, ◌&&◌, codes, filter, filter_map, find, if◌then◌else◌, min, replicate, slice_get}
use Rattle.std.specs.Option.{option_map, option_map_or}
use Rattle.std.proofs.Math.Seq.{drop-append_seam, take-length}
use Rattle.std.proofs.lemmas.Bool.{eqb-true}
use Rattle.std.proofs.lemmas.List.Elements.{filter_map-append}
use Rattle.std.proofs.lemmas.List.Folds.{find_at}
use Rattle.machine.specs.Board.{Machine, case_of, move}
use Rattle.machine.specs.Instruction.{at}
use Rattle.machine.specs.Keys.{Event as KeyEvent, held_at}
use Rattle.machine.specs.Pictures.{is_shown, windows_ended}
use Rattle.machine.specs.Run.{after_moves}
use Rattle.chip8_lang.specs.declared.view.Edition.{Edition}
use Rattle.chip8_lang.specs.declared.view.StopRecord.{StopRecord}
use Rattle.chip8_lang.specs.Events.{Event, is_dispatch, is_instruction, is_stop, numbers_from, pictures_at}
use Rattle.chip8_lang.specs.Events.Event.{Picture}
use Rattle.chip8_lang.specs.Places.{Interpreter}
use Rattle.chip8_lang.specs.View.{view_at}
use Rattle.chip8_image.specs.Interpreters.{interpreter_of}
use Rattle.vip_board.proofs.Along.{in-turn}
use Rattle.vip_byte.specs.Text.{newline}
use Rattle.vip_relation.specs.Follows.{dispatch_of, last_dispatch}
use Rattle.vip_relation.specs.Points.{point_of, point_events}
use Rattle.vip_relation.specs.State.{Start, VipState, begun, events_to, machine_of, screen_bytes, screen_size}
use Rattle.vip_relation.specs.State.Start.{Reset, Saved}
use Rattle.vip_relation.specs.Stops.{stop_record}
use Rattle.vip_relation.specs.declared.point.Point.{Point}
use Rattle.vip_relation.specs.declared.point.Point.TheVariants.{Dispatch as DispatchPoint, Stop as StopPoint, Other as OtherPoint}
use Rattle.vip_relation.proofs.Beginning.{begins-running}
use Rattle.vip_relation.proofs.Past.{state, past, past-first, pictures, point, earlier, before}
use Rattle.vip_text.specs.Traces.{told_line}
use Rattle.vip_words.specs.Spoken.{Spoken}
use Rattle.vip_words.specs.declared.debug_commands.Command.{Command}
use Rattle.vip_words.specs.declared.debug_commands.Command.TheVariants.{Runs, Shows, Seeks, Tells}
use Rattle.vip_words.specs.declared.debug_commands.Running.{Running}
use Rattle.vip_words.specs.declared.debug_commands.Running.TheVariants.{To}
use Rattle.vip_words.specs.declared.debug_commands.Seeking.{Seeking}
use Rattle.vip_words.specs.declared.debug_commands.Seeking.TheVariants.{Next, Break}
use Rattle.vip_words.specs.declared.debug_commands.Telling.{Telling}
use Rattle.vip_words.specs.declared.debug_commands.Telling.TheVariants.{State, Screen, Code}
use Rattle.vip_debug.specs.Answered.{completed_lines, shown}
use Rattle.vip_debug.specs.declared.looks.Looks.{Looks}
use Rattle.vip_debug.specs.Answers.{Arrival, Place, all_met, at_point, at_start, events_by, has_pc, lines_at, met_at, moved_on, moves_until, pieces, place_after, place_with, points_ahead, ran, running_lines, seeking_lines, sought, stop_by, stop_text, told, written}
use Rattle.vip_debug.specs.Behind.{AnswersAs, GoesOnBehind, HoldSame}
use Rattle.vip_debug.specs.Commands.{Came, came}
use Rattle.vip_debug.specs.Fold.{echoed}
use Rattle.vip_debug.specs.Game.{run_at}
use Rattle.vip_debug.specs.Code.{clear_byte, code_lines}
use Rattle.vip_debug.specs.Shown.{screen_text, state_line}
use Rattle.vip_debug.specs.TargetRun as run
use Rattle.vip_debug.proofs.Reaching.{all_past, last_until, with_one}
use Rattle.vip_debug.proofs.SameKeys.{same-after, same-came, same-lines, same-until}
use Rattle.vip_debug.proofs.TargetRuns.{Reached, made-now, until-from}

-- ---- the dispatch points of a run, state by state

zero_sum : (n : ℕ) → 0 + n ≡ n
zero_sum n = omega arith

suc_sum : (k n : ℕ) → suc k + n ≡ suc (k + n)
suc_sum k n = omega arith

no_pictures : (ms : List ℕ) → filter_map dispatch_of (map Picture ms) ≡ []
no_pictures [] = refl
no_pictures (m ∷ ms) = no_pictures ms

-- none comes before a cycle
Late : ℕ → List Machine → Type 0
Late t [] = Unit {0}
Late t (b ∷ bs) = (t ≤ b.cycle) × Late t bs

late_append : (t : ℕ) (xs ys : List Machine) → Late t xs → Late t ys → Late t (xs ++ ys)
unfolding Late
late_append t [] ys h g = g
late_append t (x ∷ xs) ys h g = (h.0, late_append t xs ys h.1 g)

late_get : (t : ℕ) (bs : List Machine) (k : ℕ) (b : Machine) → Late t bs → slice_get bs k ≡ Some b → t ≤ b.cycle
unfolding Late
late_get t [] k b h is = cc
late_get t (a ∷ bs) zero b h is = let same : a ≡ b = cc in subst (λ (c : Machine). t ≤ c.cycle) same h.0
late_get t (a ∷ bs) (suc k) b h is = late_get t bs k b h.1 is

late_point : (t : ℕ) (p : Point) (b : Machine) → t ≤ b.cycle → Late t (filter_map dispatch_of (point_events p b))
unfolding Late
late_point t DispatchPoint b late = (late, tt)
late_point t StopPoint b late = tt
late_point t OtherPoint b late = tt

-- the last of some machines is that of the list's end, where that isn't empty
last_of : List Machine → Option Machine
last_of bs = slice_get bs (length bs - 1)

last_append : (xs ys : List Machine) → 1 ≤ length ys → last_of (xs ++ ys) ≡ last_of ys
unfolding last_of
last_append [] ys some = refl
last_append (a ∷ xs) ys some =
    let longer : length (xs ++ ys) ≡ suc (length (xs ++ ys) - 1) = omega (arith, some, length-append xs ys) in
    let less : suc (length (xs ++ ys)) - 1 ≡ length (xs ++ ys) = omega arith in
    ap (slice_get (a ∷ (xs ++ ys))) (less ∙ longer) ∙ last_append xs ys some

module _ (i : Interpreter) (s : Start) (script : List KeyEvent) where
  abbrev points_at : ℕ → List Machine
  points_at n = filter_map dispatch_of (point i s script n)

  -- those of the first n states
  abbrev points_to : ℕ → List Machine
  points_to n = filter_map dispatch_of (past i s script n)

  none_of : (n : ℕ) → filter_map dispatch_of (pictures i s script n) ≡ []
  none_of n = none_at (earlier i s script n) (before i s script n) (state i s script n).cycle
    where
      none_at : (run : List Machine) (from to : ℕ) → filter_map dispatch_of (pictures_at i run from to) ≡ []
      none_at run from to = no_pictures (filter (is_shown i.rom run) (numbers_from (windows_ended from) (windows_ended to - windows_ended from)))

  points_more : (n : ℕ) → points_to (suc n) ≡ points_to n ++ points_at n
  unfolding past
  points_more n =
      filter_map-append dispatch_of (past i s script n ++ pictures i s script n) (point i s script n)
      ∙ ap (λ ps. ps ++ points_at n)
      (filter_map-append dispatch_of (past i s script n) (pictures i s script n)
      ∙ ap (λ ps. points_to n ++ ps) (none_of n)
      ∙ append-nil (points_to n))

  -- those of so many states from one on
  points_from : ℕ → ℕ → List Machine
  points_from a zero = []
  points_from a (suc n) = points_from a n ++ points_at (n + a)

  points_split : (a n : ℕ) → points_to (n + a) ≡ points_to a ++ points_from a n
  unfolding points_from
  points_split a zero = ap points_to (zero_sum a) ∙ sym (append-nil (points_to a))
  points_split a (suc n) =
      ap points_to (suc_sum n a) ∙ points_more (n + a) ∙ ap (λ ps. ps ++ points_at (n + a)) (points_split a n)
      ∙ append_assoc (points_to a) (points_from a n) (points_at (n + a))

  -- the events of so many states from one on
  record Onward (a n : ℕ) : Type 0 where
    pub others : List Event
    pub is : past i s script (n + a) ≡ past i s script a ++ others
    pub points : filter_map dispatch_of others ≡ points_from a n

  regroup : (a b c d : List Event) → a ++ b ++ c ++ d ≡ a ++ (b ++ c ++ d)
  regroup a b c d = simp append_assoc

  onward : (a n : ℕ) → Onward a n
  unfolding past points_from
  onward a zero = record { others = []; is = ap (past i s script) (zero_sum a) ∙ sym (append-nil (past i s script a)); points = refl }
  onward a (suc n) =
      let before = onward a n in
      record {
        others = before.others ++ pictures i s script (n + a) ++ point i s script (n + a);
        is =
            ap (past i s script) (suc_sum n a)
            ∙ ap (λ es. es ++ pictures i s script (n + a) ++ point i s script (n + a)) before.is
            ∙ regroup (past i s script a) before.others (pictures i s script (n + a)) (point i s script (n + a));
        points =
            filter_map-append dispatch_of (before.others ++ pictures i s script (n + a)) (point i s script (n + a))
            ∙ ap (λ ps. ps ++ points_at (n + a))
            (filter_map-append dispatch_of before.others (pictures i s script (n + a))
            ∙ ap (λ ps. filter_map dispatch_of before.others ++ ps) (none_of (n + a))
            ∙ append-nil (filter_map dispatch_of before.others) ∙ before.points);
      }

  points_behind : (a n : ℕ) → filter_map dispatch_of (drop (length (past i s script a)) (past i s script (n + a))) ≡ points_from a n
  points_behind a n =
      let o = onward a n in
      ap (λ es. filter_map dispatch_of (drop (length (past i s script a)) es)) o.is
      ∙ ap (filter_map dispatch_of) (drop-append_seam (past i s script a) o.others)
      ∙ o.points

  later_than : (a : ℕ) → (machine_of s).cycle ≤ (state i s script a).cycle
  later_than a = in-turn i.rom (held_at script) a 0 (machine_of s) (omega arith)

  late_from : (a n : ℕ) → Late (machine_of s).cycle (points_from (suc a) n)
  unfolding points_from Late
  late_from a zero = tt
  late_from a (suc n) =
      let here : n + suc a ≡ suc (n + a) = omega arith in
      late_append (machine_of s).cycle (points_from (suc a) n) (points_at (n + suc a)) (late_from a n)
      (subst (λ k. Late (machine_of s).cycle (points_at k)) (sym here)
      (late_point (machine_of s).cycle (point_of i (state i s script (suc (n + a)))) (state i s script (suc (n + a))) (later_than (suc (n + a)))))

-- ---- a place of a run

module _ (e : Edition) (s : Start) (script : List KeyEvent) (begins : is_stop (interpreter_of e) (machine_of s) ≡ false) where
  abbrev here_i : Interpreter
  here_i = interpreter_of e

  abbrev run_v : VipState
  run_v = begun e s script

  abbrev By : ℕ → ℕ → Type 0
  By t n = Reached (run_at run_v 0) t n

  -- how many moves were made is told by the cycle
  made_by : (t k : ℕ) → By t k → moves_until run_v (state here_i s script k).cycle ≡ k
  made_by t k reached =
      sym (made-now
      (record { run = run_at run_v 0; made = k; board = record run_v.board { machine = state here_i s script k } })
      (record { phase = refl; rom = refl; script = refl; machine = refl; goes_on = reached.runs }))

  met_by : (t k : ℕ) → By t k → events_by run_v k ≡ past here_i s script (suc k)
  met_by t k reached =
      all_past e s script begins (state here_i s script k).cycle (later_than here_i s script k)
      ∙ ap (λ n. past here_i s script (suc n)) (made_by t k reached)

  ahead_by : (limit k : ℕ) → (machine_of s).cycle ≤ limit → By limit k
      → points_ahead run_v limit (all_met run_v k) ≡ points_from here_i s script (suc k) (moves_until run_v limit - k)
  ahead_by limit k late reached =
      let more = until-from (run_at run_v 0) limit k reached in
      let all : suc (moves_until run_v limit) ≡ moves_until run_v limit - k + suc k = omega (arith, more) in
      ap (λ es. filter_map dispatch_of (drop (length es) (events_to run_v limit))) (met_by limit k reached)
      ∙ ap (λ es. filter_map dispatch_of (drop (length (past here_i s script (suc k))) es))
      (all_past e s script begins limit late ∙ ap (past here_i s script) all)
      ∙ points_behind here_i s script (suc k) (moves_until run_v limit - k)

  start_met : (t : ℕ) → By t 0 → at_start run_v ≡ all_met run_v 0
  start_met t reached =
      ap (λ es. record { moves = 0; met = length es }) (sym (met_by t 0 reached ∙ past-first here_i s script))

-- ---- the two runs

-- what is written where a command comes to, by its parts
abbrev by_parts : Bool → StopRecord → Bool → List (List ℕ) → List (List ℕ)
by_parts stops stop done lines = if stops then stop_text stop ∷ [] else if done then lines else (codes "end" ++ newline) ∷ []

-- where P is 4 no stop point is
not_both : (case p : Bool) (at3 at4 : Bool) (n : ℕ) → p ≡ (n == 4) → ((case && p) && at4) ≡ true → ((case && (n == 3)) && at3) ≡ false
not_both case p at3 at4 n is dispatch = by_test case p is dispatch
  where
    other : (n : ℕ) → n ≡ 4 → (n == 3) ≡ false
    other n same = rw same refl

    by_test : (case p : Bool) → p ≡ (n == 4) → ((case && p) && at4) ≡ true → ((case && (n == 3)) && at3) ≡ false
    by_test false p is h = refl
    by_test true false is h = cc
    by_test true true is h = ap (λ t. (true && t) && at3) (other n (eqb-true n 4 (sym is)))

dispatch_runs : (i : Interpreter) (b : Machine) → is_dispatch i b ≡ true → is_stop i b ≡ false
dispatch_runs i b h = not_both (is_instruction (case_of b)) (b.regs.p == 4) (at b.regs 3 == i.halt) (at b.regs 4 == i.fetch) b.regs.p refl h

-- the dispatch point of a state that is one
one_point : (i : Interpreter) (b : Machine) → is_dispatch i b ≡ true → filter_map dispatch_of (point_events (point_of i b) b) ≡ b ∷ []
one_point i b h = by_test (is_stop i b) (is_dispatch i b) (dispatch_runs i b h) h
  where
    by_test : (stop dispatch : Bool) → stop ≡ false → dispatch ≡ true
        → filter_map dispatch_of (point_events (if stop then StopPoint else if dispatch then DispatchPoint else OtherPoint) b) ≡ b ∷ []
    by_test true dispatch runs is = cc
    by_test false true runs is = refl
    by_test false false runs is = cc

point_here : (e : Edition) (s : Start) (script : List KeyEvent) (n : ℕ) → is_dispatch (interpreter_of e) (state (interpreter_of e) s script n) ≡ true
    → points_at (interpreter_of e) s script n ≡ state (interpreter_of e) s script n ∷ []
point_here e (Reset game) script zero h = let bad : false ≡ true = h in cc
point_here e (Saved file) script zero h = refl
point_here e s script (suc n) h = one_point (interpreter_of e) (state (interpreter_of e) s script (suc n)) h

module _ (e : Edition) (s : Start) (script script' : List KeyEvent) (begins : is_stop (interpreter_of e) (machine_of s) ≡ false) (file : List ℕ) (n limit : ℕ)
    (late : (machine_of s).cycle ≤ limit) (comes : By e s script begins limit n)
    (is : machine_of (Saved file) ≡ state (interpreter_of e) s script n)
    (dispatch : is_dispatch (interpreter_of e) (state (interpreter_of e) s script n) ≡ true)
    (keys : HoldSame (machine_of (Saved file)).cycle script script') (looks : Looks) where
  abbrev i : Interpreter
  i = interpreter_of e

  abbrev v : VipState
  v = begun e s script

  abbrev u : VipState
  u = begun e (Saved file) script'

  abbrev m : Machine
  m = machine_of (Saved file)

  abbrev at_v : ℕ → Machine
  at_v k = state i s script k

  abbrev at_u : ℕ → Machine
  at_u j = state i (Saved file) script' j

  runs_on : is_stop i m ≡ false
  runs_on = ap (is_stop i) is ∙ dispatch_runs i (at_v n) dispatch

  m_within : m.cycle ≤ limit
  m_within = subst (λ (b : Machine). b.cycle ≤ limit) (sym is) comes.within

  state_on : (j : ℕ) → at_v (j + n) ≡ at_u j
  state_on j = first j ∙ ap (λ b. after_moves i.rom (held_at script) b j) (sym is) ∙ same-after i.rom (held_at script) (held_at script') m.cycle keys m j (omega arith)
    where
      first : (j : ℕ) → at_v (j + n) ≡ after_moves i.rom (held_at script) (at_v n) j
      first zero = ap at_v (zero_sum n)
      first (suc j) = ap at_v (suc_sum j n) ∙ ap (move i.rom (held_at script)) (first j)

  points_on : (j : ℕ) → points_at i s script (j + n) ≡ points_at i (Saved file) script' j
  points_on zero = ap (points_at i s script) (zero_sum n) ∙ point_here e s script n dispatch ∙ ap (λ b. b ∷ []) (sym is)
  points_on (suc j) =
      ap (points_at i s script) (suc_sum j n)
      ∙ ap (λ b. filter_map dispatch_of (point_events (point_of i b) b)) (ap at_v (sym (suc_sum j n)) ∙ state_on (suc j))

  from_on : (a d : ℕ) → points_from i s script (a + n) d ≡ points_from i (Saved file) script' a d
  unfolding points_from
  from_on a zero = refl
  from_on a (suc d) =
      let there : d + (a + n) ≡ d + a + n = omega arith in
      ap (λ ps. ps ++ points_at i s script (d + (a + n))) (from_on a d)
      ∙ ap (λ k. points_from i (Saved file) script' a d ++ points_at i s script k) there
      ∙ ap (λ ps. points_from i (Saved file) script' a d ++ ps) (points_on (d + a))

  until_on : (t : ℕ) → m.cycle ≤ t → moves_until v t ≡ n + moves_until u t
  until_on t after =
      until-from (run_at v 0) t n (record { within = subst (λ (b : Machine). b.cycle ≤ t) is after; runs = comes.runs })
      ∙ ap (λ b. n + run.moves_until (record { rom = i.rom; script = script; first = b; ends = is_stop i }) t) (sym is)
      ∙ ap (λ k. n + k) (same-until i.rom (is_stop i) m script script' keys t)

  reached_on : (j : ℕ) → By e s script begins limit (j + n) → By e (Saved file) script' runs_on limit j
  reached_on j reached = record {
    within = subst (λ (b : Machine). b.cycle ≤ limit) (state_on j) reached.within;
    runs = λ k l. ap (is_stop i) (sym (state_on k)) ∙ reached.runs (k + n) (omega (arith, l));
  }

  -- the dispatch points ahead, and the last one met
  ahead_on : (j : ℕ) → By e s script begins limit (j + n) → points_ahead v limit (all_met v (j + n)) ≡ points_ahead u limit (all_met u j)
  ahead_on j reached =
      let as_many : moves_until v limit - (j + n) ≡ moves_until u limit - j = omega (arith, until_on limit m_within) in
      ahead_by e s script begins limit (j + n) late reached
      ∙ ap (points_from i s script (suc (j + n))) as_many
      ∙ ap (λ k. points_from i s script k (moves_until u limit - j)) (sym (suc_sum j n))
      ∙ from_on (suc j) (moves_until u limit - j)
      ∙ sym (ahead_by e (Saved file) script' runs_on limit j m_within (reached_on j reached))

  some_points : (j : ℕ) → 1 ≤ length (points_to i (Saved file) script' (suc j))
  unfolding past
  some_points zero = omega (arith, ap length (points_more i (Saved file) script' 0), length-append (points_to i (Saved file) script' 0) (m ∷ []))
  some_points (suc j) =
      omega (
        arith,
        some_points j,
        ap length (points_more i (Saved file) script' (suc j)),
        length-append (points_to i (Saved file) script' (suc j)) (points_at i (Saved file) script' (suc j)),
      )

  points_all : (j : ℕ) → points_to i s script (suc (j + n)) ≡ points_to i s script n ++ points_to i (Saved file) script' (suc j)
  unfolding past
  points_all j =
      let none : suc j + 0 ≡ suc j = omega arith in
      ap (points_to i s script) (sym (suc_sum j n))
      ∙ points_split i s script n (suc j)
      ∙ ap (λ ps. points_to i s script n ++ ps)
      (ap (λ k. points_from i s script k (suc j)) (sym (zero_sum n))
      ∙ from_on 0 (suc j)
      ∙ sym (points_split i (Saved file) script' 0 (suc j))
      ∙ ap (points_to i (Saved file) script') none)

  last_on : (j : ℕ) → By e s script begins limit (j + n) → last_dispatch (events_by v (j + n)) ≡ last_dispatch (events_by u j)
  unfolding last_of
  last_on j reached =
      ap (λ es. last_of (filter_map dispatch_of es)) (met_by e s script begins limit (j + n) reached)
      ∙ ap last_of (points_all j)
      ∙ last_append (points_to i s script n) (points_to i (Saved file) script' (suc j)) (some_points j)
      ∙ ap (λ es. last_of (filter_map dispatch_of es)) (sym (met_by e (Saved file) script' runs_on limit j (reached_on j reached)))

  stop_on : (j : ℕ) → By e s script begins limit (j + n) → stop_by v (j + n) ≡ stop_by u j
  stop_on j reached =
      ap (λ last. stop_record (option_map (view_at e) last) (at_v (j + n))) (last_on j reached)
      ∙ ap (stop_record (option_map (view_at e) (last_dispatch (events_by u j)))) (state_on j)

  -- ---- places of both

  -- after as many moves behind the dispatch point, with every event up to there met
  record Both (p q : Place) : Type 0 where
    pub j : ℕ
    pub left : p ≡ all_met v (j + n)
    pub right : q ≡ all_met u j

  -- commands arrive at such
  record Arrive (a b : Arrival) : Type 0 where
    pub places : Both a.place b.place
    pub completed : a.completed ≡ b.completed

  module _ (a b : Arrival) (both : Arrive a b) (reached : By e s script begins limit a.place.moves) where
    there : By e s script begins limit (both.places.j + n)
    there = subst (λ (p : Place). By e s script begins limit p.moves) both.places.left reached

    machine_there : at_v a.place.moves ≡ at_u b.place.moves
    machine_there =
        ap (λ (p : Place). at_v p.moves) both.places.left ∙ state_on both.places.j ∙ ap (λ (p : Place). at_u p.moves) (sym both.places.right)

    stop_there : stop_by v a.place.moves ≡ stop_by u b.place.moves
    stop_there =
        ap (λ (p : Place). stop_by v p.moves) both.places.left ∙ stop_on both.places.j there ∙ ap (λ (p : Place). stop_by u p.moves) (sym both.places.right)

    lines_on : (lines lines' : List (List ℕ)) → lines ≡ lines' → lines_at v a lines ≡ lines_at u b lines'
    unfolding lines_at
    lines_on lines lines' same =
        ap (λ c. by_parts (is_stop i c) (stop_by v a.place.moves) a.completed lines) machine_there
        ∙ ap (λ stop. by_parts (is_stop i (at_u b.place.moves)) stop a.completed lines) stop_there
        ∙ ap (λ done. by_parts (is_stop i (at_u b.place.moves)) (stop_by u b.place.moves) done lines) both.completed
        ∙ ap (by_parts (is_stop i (at_u b.place.moves)) (stop_by u b.place.moves) b.completed) same

  -- ---- one command

  -- its pieces are the same, and so are the places
  record SamePieces (c : Command) (p q : Place) : Type 0 where
    pub lines : pieces looks v limit c p ≡ pieces looks u limit c q
    pub places : Both (place_with v limit c p) (place_with u limit c q)

  module _ (j : ℕ) (reached : By e s script begins limit (j + n)) where
    abbrev p : Place
    p = all_met v (j + n)

    abbrev q : Place
    q = all_met u j

    by_command : (c : Command) → By e s script begins limit (place_with v limit c p).moves
    by_command c = with_one e s script begins limit late c p reached

    keys_on : HoldSame (at_u j).cycle script script'
    keys_on = λ t behind k. keys t (omega (arith, behind, later_than i (Saved file) script' j)) k

    -- the runs from there on
    run_on : run_at v (j + n) ≡ record { rom = i.rom; script = script; first = at_u j; ends = is_stop i }
    run_on = ap (λ b. record { rom = i.rom; script = script; first = b; ends = is_stop i }) (state_on j)

    came_on : (running : Running) → came (run_at v (j + n)) limit running ≡ came (run_at u j) limit running
    came_on running = ap (λ r. came r limit running) run_on ∙ same-came i.rom (is_stop i) (at_u j) script script' keys_on limit running

    moved_both : (k : ℕ) → Both (moved_on v k p) (moved_on u k q)
    moved_both k = by_test (k == 0)
      where
        by_test : (none : Bool) → Both (if none then p else all_met v (j + n + k)) (if none then q else all_met u (j + k))
        by_test true = record { j = j; left = refl; right = refl }
        by_test false = let same : j + n + k ≡ j + k + n = omega arith in record { j = j + k; left = ap (all_met v) same; right = refl }

    ran_both : (running : Running) → Arrive (ran v limit running p) (ran u limit running q)
    ran_both running =
        record {
          places = subst (λ (c : Came). Both (moved_on v c.moves p) (moved_on u (came (run_at u j) limit running).moves q)) (sym (came_on running))
              (moved_both (came (run_at u j) limit running).moves);
          completed = ap (λ (c : Came). c.completed) (came_on running);
        }

    running_same : (running : Running) → running_lines v limit running p ≡ running_lines u limit running q
    running_same running =
        lines_on (ran v limit running p) (ran u limit running q) (ran_both running) (by_command (Runs running))
        (completed_lines None (run_at v (j + n)) running (came (run_at v (j + n)) limit running).moves)
        (completed_lines None (run_at u j) running (came (run_at u j) limit running).moves)
        (ap (λ (c : Came). completed_lines None (run_at v (j + n)) running c.moves) (came_on running)
        ∙ ap (λ r. completed_lines None r running (came (run_at u j) limit running).moves) run_on
        ∙ same-lines i.rom (is_stop i) (at_u j) script script' keys_on running (came (run_at u j) limit running).moves)

    -- at a dispatch point that was looked for
    point_both : (found : Option Machine) → ((b : Machine) → found ≡ Some b → m.cycle ≤ b.cycle) → Arrive (at_point v limit found) (at_point u limit found)
    point_both None behind =
        let more : moves_until v limit ≡ moves_until u limit + n = omega (arith, until_on limit m_within) in
        record { places = record { j = moves_until u limit; left = ap (all_met v) more; right = refl }; completed = refl }
    point_both (Some b) behind =
        let more : moves_until v b.cycle ≡ moves_until u b.cycle + n = omega (arith, until_on b.cycle (behind b refl)) in
        record { places = record { j = moves_until u b.cycle; left = ap (all_met v) more; right = refl }; completed = refl }

    late_ahead : (k : ℕ) (b : Machine) → slice_get (points_ahead u limit q) k ≡ Some b → m.cycle ≤ b.cycle
    late_ahead k b found =
        late_get m.cycle (points_ahead u limit q) k b
        (subst (Late m.cycle) (sym (ahead_by e (Saved file) script' runs_on limit j m_within (reached_on j reached)))
        (late_from i (Saved file) script' j (moves_until u limit - j))) found

    sought_both : (seeking : Seeking) → Arrive (sought v limit seeking p) (sought u limit seeking q)
    sought_both (Next k) =
        subst (λ found. Arrive (at_point v limit found) (sought u limit (Next k) q)) (ap (λ ps. slice_get ps (k - 1)) (sym (ahead_on j reached)))
        (point_both (slice_get (points_ahead u limit q) (k - 1)) (late_ahead (k - 1)))
    sought_both (Break pc) =
        subst (λ found. Arrive (at_point v limit found) (sought u limit (Break pc) q)) (ap (find (has_pc u pc)) (sym (ahead_on j reached)))
        (point_both (find (has_pc u pc) (points_ahead u limit q))
        (λ b found. late_ahead _ b (sym (find_at (has_pc u pc) (points_ahead u limit q)) ∙ found)))

    seeking_same : (seeking : Seeking) → seeking_lines looks v (sought v limit seeking p) ≡ seeking_lines looks u (sought u limit seeking q)
    seeking_same seeking =
        lines_on (sought v limit seeking p) (sought u limit seeking q) (sought_both seeking) (by_command (Seeks seeking)) _ _
        (ap (λ b. told_line looks.origins looks.columns (view_at e b) ∷ [])
        (machine_there (sought v limit seeking p) (sought u limit seeking q) (sought_both seeking) (by_command (Seeks seeking))))

    -- what was met
    met_on : last_dispatch (met_at v p) ≡ last_dispatch (met_at u q)
    met_on =
        ap last_dispatch (take-length (events_by v (j + n))) ∙ last_on j reached ∙ ap last_dispatch (sym (take-length (events_by u j)))

    told_same : (telling : Telling) → told looks v telling p ≡ told looks u telling q
    told_same State = ap (λ last. state_line looks.origins looks.columns (option_map (view_at e) last) ∷ []) met_on
    told_same Screen = ap (λ last. screen_text e (option_map_or (screen_bytes e) last (replicate (screen_size e) 0)) ∷ []) met_on
    told_same (Code address count) = ap (λ b. code_lines (clear_byte i.rom b) looks.origins address count) (state_on j)

    one_same : (c : Command) → SamePieces c p q
    one_same (Runs running) = record { lines = running_same running; places = (ran_both running).places }
    one_same (Shows showing) =
        record { lines = ap (λ b. shown looks.origins i.rom b showing) (state_on j); places = record { j = j; left = refl; right = refl } }
    one_same (Seeks seeking) = record { lines = seeking_same seeking; places = (sought_both seeking).places }
    one_same (Tells telling) = record { lines = told_same telling; places = record { j = j; left = refl; right = refl } }

  -- ---- all commands

  record SameAnswers (commands : List Spoken) (p q : Place) : Type 0 where
    pub lines : written looks v limit commands p ≡ written looks u limit commands q
    pub places : Both (place_after v limit commands p) (place_after u limit commands q)
    pub reached : By e s script begins limit (place_after v limit commands p).moves

  all_same : (commands : List Spoken) (p q : Place) → Both p q → By e s script begins limit p.moves → SameAnswers commands p q
  all_same [] p q both reached = record { lines = refl; places = both; reached = reached }
  all_same (c ∷ commands) p q both reached =
      let here : By e s script begins limit (both.j + n) = subst (λ (x : Place). By e s script begins limit x.moves) both.left reached in
      let one : SamePieces c.command p q =
      subst (λ x. SamePieces c.command x q) (sym both.left)
      (subst (SamePieces c.command (all_met v (both.j + n))) (sym both.right) (one_same both.j here c.command)) in
      let rest = all_same commands (place_with v limit c.command p) (place_with u limit c.command q) one.places
      (with_one e s script begins limit late c.command p reached) in
      record {
        lines =
            ap (λ ps. echoed c ps ++ written looks v limit commands (place_with v limit c.command p)) one.lines
            ∙ ap (λ ps. echoed c (pieces looks u limit c.command q) ++ ps) rest.lines;
        places = rest.places;
        reached = rest.reached;
      }

  -- behind `to` the cycle by which the dispatch point comes
  module _ (cycle : ℕ) (by : moves_until v cycle ≡ n) (order : cycle ≤ limit) where
    abbrev came_to : Place
    came_to = place_with v limit (Runs (To cycle)) (at_start v)

    to_moves : (came (run_at v 0) limit (To cycle)).moves ≡ n
    to_moves = let least : min cycle limit ≡ cycle = omega (arith, order) in ap (moves_until v) least ∙ by

    left_by : came_to ≡ all_met v n
    left_by = ap (λ k. moved_on v k (at_start v)) to_moves ∙ by_test (n == 0) refl
      where
        by_test : (none : Bool) → (n == 0) ≡ none → (if none then at_start v else all_met v (0 + n)) ≡ all_met v n
        by_test true h =
            let zero_moves : 0 ≡ n = sym (eqb-true n 0 h) in
            let first : By e s script begins limit 0 = subst (By e s script begins limit) (sym zero_moves) comes in
            start_met e s script begins limit first ∙ ap (all_met v) zero_moves
        by_test false h = ap (all_met v) (zero_sum n)

    begins_both : Both came_to (at_start u)
    begins_both = record {
      j = 0;
      left = left_by ∙ ap (all_met v) (sym (zero_sum n));
      right = start_met e (Saved file) script' runs_on limit (reached_on 0 (subst (By e s script begins limit) (sym (zero_sum n)) comes));
    }

    pub answers : (commands : List Spoken) → AnswersAs looks v u limit cycle commands
    answers commands =
        let all = all_same commands came_to (at_start u) begins_both (subst (λ (p : Place). By e s script begins limit p.moves) (sym left_by) comes) in
        let a : Arrival = record { place = place_after v limit commands came_to; completed = true } in
        let b : Arrival = record { place = place_after u limit commands (at_start u); completed = true } in
        let arrive : Arrive a b = record { places = all.places; completed = refl } in
        record { pieces = all.lines; machine = machine_there a b arrive all.reached; stop = stop_there a b arrive all.reached }

pub goes-on-behind : GoesOnBehind
goes-on-behind e s fits script script' cycle limit late order dispatch file is keys looks commands =
    let begins = begins-running e s fits in
    let last = last_until e s script begins cycle late in
    answers e s script script' begins file (moves_until (begun e s script) cycle) limit (omega (arith, late, order))
    (record { within = omega (arith, last.within, order); runs = last.runs }) is dispatch keys looks cycle refl order commands
