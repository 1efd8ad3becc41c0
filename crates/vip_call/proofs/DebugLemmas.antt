-- Where the debugger's commands leave the board at a stop point, its stop is that of the whole run.
use Rattle.std.proofs.Common.{◌≡◌, ℕ, ◌≤◌, true, false, List, [], ◌∷◌, ◌++◌, Option, Some, None, refl, sym, ap, ◌∙◌, arith}
use Rattle.std.specs.Option.{option_map}
use Rattle.machine.specs.Board.{Machine}
use Rattle.machine.specs.Keys.{Event as KeyEvent, held_at}
use Rattle.machine.specs.Run.{after_moves}
use Rattle.chip8_lang.specs.declared.view.Edition.{Edition}
use Rattle.chip8_lang.specs.Events.{Event, is_stop}
use Rattle.chip8_lang.specs.Events.Event.{Picture, Dispatch, Stopped}
use Rattle.chip8_lang.specs.Places.{Interpreter}
use Rattle.chip8_lang.specs.View.{view_at}
use Rattle.vip_relation.specs.Follows.{last_dispatch}
use Rattle.chip8_image.specs.Interpreters.{interpreter_of}
use Rattle.vip_relation.specs.State.{Start, VipState, begun, events_from, machine_of}
use Rattle.vip_relation.specs.Stops.{stop_at, pc_of, opcode_of}
use Rattle.rom_board.proofs.Passed.{NoStop, before_point, events_to_stop, last_after, last_after_stop, last_of_events, no_stop_before}
use Rattle.vip_text.specs.Endings.{Ending}
use Rattle.vip_text.specs.Endings.Ending.{AtStop}
use Rattle.vip_show.specs.Endings.{ending_after}
use Rattle.vip_debug.specs.Answers.{stop_by}
use Rattle.vip_debug.proofs.TargetRuns.{Reached}
use Rattle.vip_debug.specs.Game.{run_at}
use Rattle.vip_verbs.specs.Outcome.{run_ending, stopped_by}

module _ (e : Edition) where
  -- ---- the ending by some events

  -- behind a last dispatch point: the ending by these events, and by the stop b
  abbrev ending_behind : Option Machine → List Event → Ending
  ending_behind last es = ending_after e (pc_of (option_map (view_at e) last)) (opcode_of (option_map (view_at e) last)) es

  abbrev stop_behind : Option Machine → Machine → Ending
  stop_behind last b = AtStop (stop_at b) (pc_of (option_map (view_at e) last)) (opcode_of (option_map (view_at e) last))

  -- by events of which the stop b is the first stop point, and the last event
  ending_stop : (last : Option Machine) (es : List Event) (b : Machine) → NoStop es
      → ending_behind last (es ++ Stopped b ∷ []) ≡ stop_behind (last_after last es) b
  unfolding ending_after NoStop last_after
  ending_stop last [] b none = refl
  ending_stop last (Picture m ∷ es) b none = ending_stop last es b none
  ending_stop last (Dispatch c ∷ es) b none = ending_stop (Some c) es b none
  ending_stop last (Stopped c ∷ es) b none = absurd none

  module _
      (s : Start) (script : List KeyEvent) (begins : is_stop (interpreter_of e) (machine_of s) ≡ false) (limit : ℕ)
      (late : (machine_of s).cycle ≤ limit) where
    abbrev i : Interpreter
    i = interpreter_of e

    abbrev v : VipState
    v = begun e s script

    abbrev at_state : ℕ → Machine
    at_state n = after_moves i.rom (held_at script) (machine_of s) n

    -- the n-th state is the first stop point, so its stop is the run's
    pub stop_is : (n : ℕ) → Reached (run_at v 0) limit n → is_stop i (at_state n) ≡ true → stopped_by (stop_by v n) ≡ run_ending e s script limit
    stop_is n r stop =
        ap (λ es. stop_behind (last_dispatch es) (at_state n)) (events (at_state n).cycle (omega arith))
        ∙ ap (λ last. stop_behind last (at_state n)) (sym (last_of_events (here ++ Stopped (at_state n) ∷ [])) ∙ last_after_stop None here (at_state n))
        ∙ sym (ending_stop None here (at_state n) (no_stop_before i s script n r.runs))
        ∙ ap (ending_behind None) (sym (events limit r.within))
      where
        here : List Event
        here = before_point i s script n

        events : (t : ℕ) → (at_state n).cycle ≤ t → events_from i script s t ≡ here ++ Stopped (at_state n) ∷ []
        events t within = events_to_stop i s script begins t n within stop r.runs
