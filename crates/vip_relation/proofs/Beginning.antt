-- What is known of a start: no stop point lies there, it comes early, and the first picture behind it is of a frame that it doesn't cut.
use Rattle.std.proofs.Common.{◌≡◌, ℕ, ◌<◌, ◌≤◌, ◌⊎◌, inl, inr, Bool, true, false, refl, ap, ◌∙◌, arith}
use Rattle.std.specs.Prelude.{◌==◌, ◌&&◌}
use Rattle.machine.specs.Instruction.{at}
use Rattle.machine.specs.Board.{Machine, case_of}
use Rattle.machine.specs.Pictures.{interrupt_at, windows_ended, place, interrupt_place, window_place}
use Rattle.machine.proofs.Counts.{windows}
use Rattle.chip8_lang.specs.declared.view.Edition.{Edition}
use Rattle.chip8_lang.specs.Events.{is_instruction, is_stop}
use Rattle.chip8_lang.specs.Places.{Interpreter}
use Rattle.chip8_image.specs.Interpreters.{interpreter_of}
use Rattle.vip_text.specs.StateFile.{IsCycle}
use Rattle.vip_relation.specs.State.{Start, machine_of, most_cycles}
use Rattle.vip_relation.specs.State.Start.{Reset, Saved}
use Rattle.vip_relation.specs.Follows.{Fits}

and_false : (x y : Bool) → ((x && false) && y) ≡ false
and_false true y = refl
and_false false y = refl

-- where P is 4 there is no stop
no_stop_by_4 : (i : Interpreter) (b : Machine) → b.regs.p ≡ 4 → is_stop i b ≡ false
no_stop_by_4 i b h =
    ap (λ p. (is_instruction (case_of b) && (p == 3)) && (at b.regs 3 == i.halt)) h
    ∙ and_false (is_instruction (case_of b)) (at b.regs 3 == i.halt)

pub begins-running : (e : Edition) (s : Start) → Fits e s → is_stop (interpreter_of e) (machine_of s) ≡ false
begins-running e (Reset game) fits = refl
begins-running e (Saved file) fits = no_stop_by_4 (interpreter_of e) (machine_of (Saved file)) fits.accepted.machine.p

pub begins-early : (e : Edition) (s : Start) → Fits e s → (machine_of s).cycle ≤ most_cycles
begins-early e (Reset game) fits = omega arith
begins-early e (Saved file) fits = fits.accepted.cycle.most

outside : (t : ℕ) → IsCycle t → (m : ℕ) → windows_ended t ≤ m → t ≤ interrupt_at m
outside t is m low = by_place is.outside
  where
    by_place : (place t < interrupt_place) ⊎ (window_place ≤ place t) → t ≤ interrupt_at m
    by_place (inl early) = omega (arith, early, low, windows t)
    by_place (inr late) = omega (arith, late, low, windows t)

pub apart : (e : Edition) (s : Start) → Fits e s → (m : ℕ) → windows_ended (machine_of s).cycle ≤ m → (machine_of s).cycle ≤ interrupt_at m
apart e (Reset game) fits m low = omega arith
apart e (Saved file) fits m low = outside (machine_of (Saved file)).cycle fits.accepted.cycle m low
