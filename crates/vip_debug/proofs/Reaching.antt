-- Where commands leave the board of a run from a start: at a state of the run that comes by the limit, with no stop point before it.
use Rattle.std.proofs.Common.{◌≡◌, ◌⊎◌, inl, inr, ℕ, suc, ◌+◌, ◌-◌, ◌<◌, ◌≤◌, Bool, true, false, List, [], ◌∷◌, drop, Some, None, slice_get, refl, sym, subst, arith, Option}
use Rattle.std.specs.Prelude.{if◌then◌else◌, ◌==◌, min, find}
use Rattle.std.proofs.lemmas.Bool.{cases_lt}
use Rattle.std.proofs.lemmas.List.Folds.{find_at}
use Rattle.machine.specs.Board.{Machine}
use Rattle.machine.specs.Keys.{Event as KeyEvent, held_at}
use Rattle.chip8_lang.specs.declared.view.Edition.{Edition}
use Rattle.chip8_lang.specs.Events.{Event, is_stop}
use Rattle.chip8_lang.specs.Places.{Interpreter}
use Rattle.chip8_image.specs.Interpreters.{interpreter_of}
use Rattle.vip_relation.specs.State.{Start, VipState, begun, events_to, machine_of}
use Rattle.vip_board.proofs.Along.{in-turn}
use Rattle.vip_relation.proofs.Past.{state, past, events-last, events-stop}
use Rattle.vip_relation.proofs.Waits.{Earlier, earlier-at, earlier-drop, earlier-next}
use Rattle.vip_words.specs.Spoken.{Spoken}
use Rattle.vip_words.specs.declared.debug_commands.Command.{Command}
use Rattle.vip_words.specs.declared.debug_commands.Command.TheVariants as command
use Rattle.vip_words.specs.declared.debug_commands.Running.{Running}
use Rattle.vip_words.specs.declared.debug_commands.Running.TheVariants.{Step, To, At, Watch}
use Rattle.vip_words.specs.declared.debug_commands.Seeking.{Seeking}
use Rattle.vip_words.specs.declared.debug_commands.Seeking.TheVariants.{Next, Break}
use Rattle.vip_debug.specs.TargetRun.{Run}
use Rattle.vip_debug.specs.TargetRun as run
use Rattle.vip_debug.specs.Commands.{came, found_or_last}
use Rattle.vip_debug.proofs.TargetRuns.{Reached, reached, reached-next, some-here, all-moves, until, until-from, until-past}
use Rattle.vip_debug.proofs.TargetMoving.{find-within}
use Rattle.vip_debug.specs.Game.{run_at}
use Rattle.vip_debug.specs.Answers.{Place, moves_until, all_met, moved_on, at_point, points_ahead, has_pc, sought, place_with, place_after, at_start}

module _ (e : Edition) (s : Start) (script : List KeyEvent) (begins : is_stop (interpreter_of e) (machine_of s) ≡ false) where
  abbrev i : Interpreter
  i = interpreter_of e

  abbrev v : VipState
  v = begun e s script

  abbrev r : Run
  r = run_at v 0

  abbrev at_state : ℕ → Machine
  at_state n = state i s script n

  abbrev past_of : ℕ → List Event
  past_of n = past i s script n

  -- the n-th state comes by cycle t, and none before it is a stop point
  abbrev ReachedBy : ℕ → ℕ → Type 0
  ReachedBy t n = Reached r t n

  wider : (t u n : ℕ) → t ≤ u → ReachedBy t n → ReachedBy u n
  wider t u n order old = record { within = omega (arith, order, old.within); runs = old.runs }

  lower : (t n k : ℕ) → k ≤ n → ReachedBy t n → ReachedBy t k
  lower t n k order old = record {
    within = omega (arith, old.within, in-turn i.rom (held_at script) n k (machine_of s) order);
    runs = λ j l. old.runs j (omega (arith, l, order));
  }

  -- so does the last of the states up to a cycle or to the first stop point
  pub last_until : (t : ℕ) → (machine_of s).cycle ≤ t → ReachedBy t (moves_until v t)
  last_until t late = reached r t (moves_until v t) (omega (arith, until r t, some-here r t 0 late))

  -- none comes before the start
  none_before : (t : ℕ) → t < (machine_of s).cycle → moves_until v t ≡ 0
  none_before t soon = until-past r t 0 soon

  late_by : (t n : ℕ) → (at_state n).cycle ≤ t → (machine_of s).cycle ≤ t
  late_by t n within = omega (arith, within, in-turn i.rom (held_at script) n 0 (machine_of s) (omega arith))

  -- it is a stop point, or the next one comes later: so the events up to that cycle are those of the states up to it
  pub all_past : (t : ℕ) → (machine_of s).cycle ≤ t → events_to v t ≡ past_of (suc (moves_until v t))
  all_past t late = by_test (is_stop i (at_state n)) refl (cases_lt t (at_state (suc n)).cycle)
    where
      n : ℕ
      n = moves_until v t

      last : ReachedBy t n
      last = last_until t late

      beyond : ReachedBy t (suc n) → ⊥
      beyond next = omega (arith, until r t, all-moves r t (suc n) next.within next.runs, some-here r t (suc n) next.within)

      by_test :
          (stop : Bool) → is_stop i (at_state n) ≡ stop → (t < (at_state (suc n)).cycle) ⊎ ((at_state (suc n)).cycle ≤ t)
          → events_to v t ≡ past_of (suc n)
      by_test true stop far = events-stop i s script begins t n last.within stop last.runs
      by_test false runs (inl over) = events-last i s script t n last.within over last.runs
      by_test false runs (inr within) = absurd (beyond (reached-next r t n last runs within))

  -- ---- a command

  module _ (limit : ℕ) (late : (machine_of s).cycle ≤ limit) where
    abbrev ahead : Place → List Event
    ahead p = drop p.met (events_to v limit)

    -- the dispatch points ahead come by the limit
    ahead_earlier : (p : Place) → Earlier (limit + 1) (ahead p)
    ahead_earlier p =
        earlier-drop (limit + 1) p.met (events_to v limit)
        (subst (Earlier (limit + 1)) (sym (all_past limit late))
        (earlier-next i s script (limit + 1) (moves_until v limit) (omega (arith, (last_until limit late).within))))

    -- where commands begin
    pub at_begin : ReachedBy limit 0
    at_begin = lower limit (moves_until v limit) 0 (omega arith) (last_until limit late)

    moved : (k : ℕ) (p : Place) → ReachedBy limit p.moves → ReachedBy limit (p.moves + k) → ReachedBy limit (moved_on v k p).moves
    moved k p old new = by_test (k == 0)
      where
        by_test : (none : Bool) → ReachedBy limit (if none then p else all_met v (p.moves + k)).moves
        by_test true = old
        by_test false = new

    pointed : (p : Place) (k : ℕ) (found : Option Machine) → found ≡ slice_get (points_ahead v limit p) k → ReachedBy limit (at_point v limit found).place.moves
    pointed p k None is = last_until limit late
    pointed p k (Some b) is = by_test (cases_lt b.cycle (machine_of s).cycle)
      where
        by_test : (b.cycle < (machine_of s).cycle) ⊎ ((machine_of s).cycle ≤ b.cycle) → ReachedBy limit (moves_until v b.cycle)
        by_test (inl soon) = subst (ReachedBy limit) (sym (none_before b.cycle soon)) at_begin
        by_test (inr behind) =
            wider b.cycle limit (moves_until v b.cycle) (omega (arith, earlier-at (limit + 1) (ahead p) (ahead_earlier p) k b (sym is)))
            (last_until b.cycle behind)

    -- so many moves more, none of them behind the end
    further : (n k t : ℕ) → t ≤ limit → ReachedBy limit n → k ≤ run.moves_until (run_at v n) t → ReachedBy limit (n + k)
    further n k t order old few = by_test (cases_lt t (at_state n).cycle)
      where
        by_test : (t < (at_state n).cycle) ⊎ ((at_state n).cycle ≤ t) → ReachedBy limit (n + k)
        by_test (inl past) = let same : n ≡ n + k = omega (arith, few, until-past r t n past) in subst (ReachedBy limit) same old
        by_test (inr within) =
            let here : ReachedBy t n = record { within = within; runs = old.runs } in
            wider t limit (n + k) order (lower t (moves_until v t) (n + k) (omega (arith, few, until-from r t n here))
            (last_until t (late_by t n within)))

    found : (n : ℕ) (k : Option ℕ) (test : ℕ → Bool) → k ≡ find test (run.ahead (run_at v n) limit)
        → (found_or_last (run_at v n) limit k).moves ≤ run.moves_until (run_at v n) limit
    unfolding run.ahead
    found n None test is = omega arith
    found n (Some k) test is = omega (arith, find-within test 1 (run.moves_until (run_at v n) limit) k (sym is))

    came_to : (running : Running) (n : ℕ) → ReachedBy limit n → ReachedBy limit (n + (came (run_at v n) limit running).moves)
    came_to (Step count) n old = further n _ limit (omega arith) old (omega arith)
    came_to (To cycle) n old = further n _ (min cycle limit) (omega arith) old (omega arith)
    came_to (At address) n old = further n _ limit (omega arith) old (found n _ _ refl)
    came_to (Watch address count) n old = further n _ limit (omega arith) old (found n _ _ refl)

    sought_to : (seeking : Seeking) (p : Place) → ReachedBy limit (sought v limit seeking p).place.moves
    sought_to (Next n) p = pointed p (n - 1) _ refl
    sought_to (Break pc) p = pointed p _ _ (find_at (has_pc v pc) (points_ahead v limit p))

    pub with_one : (command : Command) (p : Place) → ReachedBy limit p.moves → ReachedBy limit (place_with v limit command p).moves
    with_one (command.Runs running) p old = moved (came (run_at v p.moves) limit running).moves p old (came_to running p.moves old)
    with_one (command.Shows showing) p old = old
    with_one (command.Seeks seeking) p old = sought_to seeking p
    with_one (command.Tells telling) p old = old

    after_all : (commands : List Spoken) (p : Place) → ReachedBy limit p.moves → ReachedBy limit (place_after v limit commands p).moves
    after_all [] p old = old
    after_all (spoken ∷ commands) p old = after_all commands (place_with v limit spoken.command p) (with_one spoken.command p old)

    pub commands_reach : (commands : List Spoken) → ReachedBy limit (place_after v limit commands (at_start v)).moves
    commands_reach commands = after_all commands (at_start v) at_begin
