-- A limit before the cycle of a saved state stands there: no move is made, and nothing is shown.
use Rattle.std.proofs.Common.{◌≡◌, ◌⊎◌, inl, inr, ℕ, ◌<◌, ◌≤◌, List, [], ◌∷◌, Some, refl, sym, ap, ◌∙◌, arith}
use Rattle.std.specs.Prelude.{max}
use Rattle.std.proofs.lemmas.Bool.{cases_lt}
use Rattle.machine.specs.Board.{Machine, move}
use Rattle.machine.specs.Keys.{Event as KeyEvent, held_at}
use Rattle.machine.specs.Run.{run_to}
use Rattle.machine.proofs.Runs.{later-move, run_to-past}
use Rattle.chip8_lang.specs.declared.view.Edition.{Edition}
use Rattle.chip8_lang.specs.Events.{events_at, events_behind}
use Rattle.chip8_lang.specs.Events.Event.{Dispatch}
use Rattle.chip8_image.specs.Interpreters.{interpreter_of}
use Rattle.vip_relation.specs.Follows.{last_dispatch}
use Rattle.vip_relation.specs.State.{Start, machine_of}
use Rattle.vip_relation.specs.State.Start.{Reset, Saved}
use Rattle.vip_show.specs.Endings.{ending_of}
use Rattle.vip_text.specs.StateFile.{shown}
use Rattle.vip_verbs.specs.Outcome.{limit_from, run_ending}
use Rattle.vip_show.specs.Runs.{events_in}

pub late_limit : (s : Start) (limit : ℕ) → (machine_of s).cycle ≤ limit_from s limit
late_limit (Reset game) limit = omega arith
late_limit (Saved file) limit = omega arith

-- nothing comes by the cycle of a machine, or before
pub nothing_by : (e : Edition) (script : List KeyEvent) (b : Machine) (limit : ℕ) → limit ≤ b.cycle → events_behind (interpreter_of e) script b limit ≡ []
nothing_by e script b limit before =
    ap (events_at (interpreter_of e) (run_to (interpreter_of e).rom (held_at script) b limit) b.cycle)
    (run_to-past (interpreter_of e).rom (held_at script) limit (move (interpreter_of e).rom (held_at script) b)
    (omega (arith, before, later-move (interpreter_of e).rom (held_at script) b)))

pub same_events : (e : Edition) (s : Start) (script : List KeyEvent) (limit : ℕ) → events_in e s script (limit_from s limit) ≡ events_in e s script limit
same_events e (Reset game) script limit = refl
same_events e (Saved file) script limit = by_test (cases_lt limit (shown file).cycle)
  where
    by_test : (limit < (shown file).cycle) ⊎ ((shown file).cycle ≤ limit)
        → events_in e (Saved file) script (max limit (shown file).cycle) ≡ events_in e (Saved file) script limit
    by_test (inl before) =
        ap (λ es. Dispatch (shown file) ∷ es)
        (nothing_by e script (shown file) (max limit (shown file).cycle) (omega (arith, before))
        ∙ sym (nothing_by e script (shown file) limit (omega (arith, before))))
    by_test (inr behind) =
        let same : max limit (shown file).cycle ≡ limit = omega (arith, behind) in ap (events_in e (Saved file) script) same

pub same_ending : (e : Edition) (s : Start) (script : List KeyEvent) (limit : ℕ) → run_ending e s script (limit_from s limit) ≡ run_ending e s script limit
same_ending e s script limit = ap (ending_of e) (same_events e s script limit)

-- where the last dispatch point up to a cycle comes in it, the run begins by then
pub starts_early : (e : Edition) (s : Start) (script : List KeyEvent) (t : ℕ) (b : Machine) → last_dispatch (events_in e s script t) ≡ Some b → b.cycle ≡ t
    → (machine_of s).cycle ≤ t
starts_early e (Reset game) script t b last here = omega arith
starts_early e (Saved file) script t b last here = by_test (cases_lt t (shown file).cycle)
  where
    by_test : (t < (shown file).cycle) ⊎ ((shown file).cycle ≤ t) → (shown file).cycle ≤ t
    by_test (inr behind) = behind
    by_test (inl before) =
        let only : last_dispatch (Dispatch (shown file) ∷ []) ≡ Some b =
        ap (λ es. last_dispatch (Dispatch (shown file) ∷ es)) (sym (nothing_by e script (shown file) t (omega (arith, before)))) ∙ last in
        let same : shown file ≡ b = cc in
        omega (arith, ap (λ (c : Machine). c.cycle) same, here)
